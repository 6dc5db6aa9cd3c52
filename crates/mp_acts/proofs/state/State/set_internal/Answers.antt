use Rattle.mp_acts.proofs.MeaningLemmas.{internal_set}
use Rattle.mp_acts.proofs.state.State.set_internal.Goals as goal

pub invariant_of-self : goal.invariant_of-self
invariant_of-self c = internal_set _ _ _ _ _ c.self.inside.symbols c.set_internal.new.self c.self.invariant c.args.k _ c.set_internal.ensures
