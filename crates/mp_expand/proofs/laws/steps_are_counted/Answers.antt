use Rattle.mp_expand.proofs.CountLemmas.{counted}
use Rattle.mp_expand.proofs.laws.steps_are_counted.Goals as goal

pub returns : goal.returns
returns c = counted
