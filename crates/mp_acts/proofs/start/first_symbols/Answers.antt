use Rattle.std.proofs.Common.{map}
use Rattle.mp_values.specs.Words.{words}
use Rattle.mp_acts.specs.Start.{delimiter_entries, word_entry, first_internals, unbuilt_words, unbuilt_entry, first_symbols}
use Rattle.mp_acts.proofs.TableLemmas.{first_table}
use Rattle.mp_acts.proofs.start.first_symbols.Goals as goal

pub returns : goal.returns
unfolding first_symbols
returns c =
    first_table c.new-symbols.result _ _ _ _ delimiter_entries (map word_entry words) first_internals (map unbuilt_entry unbuilt_words)
    c.new-symbols.ensures c.in_ok-add_delimiters.ensures c.in_ok-add_all_words.ensures c.in_ok-add_all_internals.ensures c.in_ok-add_all_unbuilt_words.ensures
