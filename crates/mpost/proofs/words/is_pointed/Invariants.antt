use Rattle.std.proofs.Common.{◌≡◌, take}
use Rattle.mpost.specs.CommandWords.{is_pointed}
use Rattle.mpost.proofs.words.is_pointed.Given as goal

abbrev pub invariant-loop-c : goal.invariant-loop-c
invariant-loop-c l = l.pointed ≡ is_pointed (take l.c-index l.file)
