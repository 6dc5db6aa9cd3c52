use Rattle.std.proofs.Common.{ap}
use Rattle.mp_acts.proofs.MeaningLemmas.{group_closed}
use Rattle.mp_acts.proofs.state.State.undo_newest.Goals as goal

pub invariant_of-self : goal.invariant_of-self
invariant_of-self c = group_closed _ _ _ _ _ c.self.inside.symbols c.close_group.new.self c.self.invariant (ap (λ pair. pair.1) c.close_group.ensures.exact)
