use Rattle.mp_acts.proofs.MeaningLemmas.{meaning_saved}
use Rattle.mp_acts.proofs.state.State.save_meaning.Goals as goal

pub invariant_of-self-2 : goal.invariant_of-self-2
invariant_of-self-2 c = meaning_saved _ _ _ _ _ c.self.inside.symbols c.save.new.self c.self.invariant c.args.symbol c.in_ok-save.ensures.ok
