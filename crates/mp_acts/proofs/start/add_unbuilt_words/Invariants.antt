use Rattle.std.proofs.Common.{◌≡◌, map, drop}
use Rattle.mp_acts.specs.Start.{with_more_names, unbuilt_entry}
use Rattle.mp_acts.proofs.start.add_unbuilt_words.Given as goal

abbrev pub invariant-words : goal.invariant-words
invariant-words l = with_more_names l.symbols (map (λ x. unbuilt_entry x.now) (drop l.word-index l.words)) ≡ with_more_names l.fn.symbols (map (λ x. unbuilt_entry x.now) l.words)
