use Rattle.mp_acts.proofs.MeaningLemmas.{internal_saved}
use Rattle.mp_acts.proofs.state.State.save_internal.Goals as goal

pub invariant_of-self-2 : goal.invariant_of-self-2
invariant_of-self-2 c = internal_saved _ _ _ _ _ c.self.inside.symbols c.save_internal.new.self c.self.invariant c.args.k c.in_ok-save_internal.ensures.ok
