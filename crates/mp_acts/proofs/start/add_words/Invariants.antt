use Rattle.std.proofs.Common.{◌≡◌, map, drop}
use Rattle.mp_acts.specs.Start.{with_more_names, word_entry}
use Rattle.mp_acts.proofs.start.add_words.Given as goal

abbrev pub invariant-words : goal.invariant-words
invariant-words l = with_more_names l.symbols (map word_entry (drop l.word-index l.words)) ≡ with_more_names l.fn.symbols (map word_entry l.words)
