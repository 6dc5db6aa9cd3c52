use Rattle.std.proofs.Common.{◌≡◌, drop}
use Rattle.mp_files.specs.Contents.{content_of}
use Rattle.mp_files.proofs.memory_files.find.Given as goal

-- the answer is that of what is left
abbrev pub invariant-loop-k : goal.invariant-loop-k
invariant-loop-k l = content_of (drop l.k-index l.kept) l.name ≡ content_of l.kept l.name
