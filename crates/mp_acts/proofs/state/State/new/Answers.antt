use Rattle.std.proofs.Common.{rules}
use Rattle.mp_acts.proofs.EventLemmas.{no_events}
use Rattle.mp_acts.proofs.MeaningLemmas.{first_meanings, first_saved, first_words}
use Rattle.mp_acts.proofs.state.State.new.Goals as goal

pub invariant_of-result : goal.invariant_of-result
invariant_of-result c = record {
  counted = search rules;
  within = record {
    few = search rules;
    words = first_words _ c.in_ok-first_symbols.ensures;
    forms = search rules;
    held = search rules;
    macros = search rules;
    filled = search rules;
    meanings = first_meanings _ _ _ c.in_ok-first_symbols.ensures;
    saved = first_saved _ _ c.in_ok-first_symbols.ensures;
  };
  history = search (no_events, rules);
}
