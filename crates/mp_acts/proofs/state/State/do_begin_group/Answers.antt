use Rattle.mp_acts.proofs.MeaningLemmas.{group_opened}
use Rattle.mp_acts.proofs.state.State.do_begin_group.Goals as goal

pub invariant_of-self-2 : goal.invariant_of-self-2
invariant_of-self-2 c = group_opened _ _ _ _ _ c.self.inside.symbols c.open_group.new.self c.self.invariant c.in_ok-open_group.ensures.ok
