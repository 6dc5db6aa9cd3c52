use Rattle.std.proofs.Common.{◌≡◌, length, map}
use Rattle.std.specs.String.{string_bytes}
use Rattle.mpost.specs.CommandWords.{words_behind, words_of}
use Rattle.mpost.proofs.words.read_words.Given as goal

-- all the words say what those that are left say behind the options so far
abbrev pub invariant-options : goal.invariant-options
invariant-options l = words_of (map string_bytes l.fn.words) ≡ words_behind l.said (map string_bytes l.rest)

abbrev pub decreases-options : goal.decreases-options
decreases-options l = length l.rest
