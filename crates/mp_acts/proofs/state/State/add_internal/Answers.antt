use Rattle.mp_acts.proofs.MeaningLemmas.{internal_added}
use Rattle.mp_acts.proofs.state.State.add_internal.Goals as goal

pub invariant_of-self-2 : goal.invariant_of-self-2
invariant_of-self-2 c = internal_added _ _ _ _ _ c.self.inside.symbols c.new_internal.new.self c.self.invariant _ c.in_ok-new_internal.ensures.table
