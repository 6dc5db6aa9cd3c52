use Rattle.mp_acts.proofs.MeaningLemmas.{meaning_set}
use Rattle.mp_acts.proofs.state.State.set_meaning.Goals as goal

pub invariant_of-self : goal.invariant_of-self
invariant_of-self c =
    meaning_set _ _ _ _ _ c.self.inside.symbols c.set_meaning.new.self c.self.invariant c.args.symbol c.args.new c.set_meaning.ensures.table (rw (← c.self.view_is) at c.requires.within)
