use Rattle.mp_acts.proofs.WithinLemmas.{with_filled}
use Rattle.mp_acts.proofs.state.State.fill.Goals as goal

pub invariant_of-self : goal.invariant_of-self
invariant_of-self c =
    with_filled c.args.slot c.in_ok-value.value (rw c.in_ok-value.ensures (rw (← c.self.view_is) at c.requires.value)) c.self.invariant
