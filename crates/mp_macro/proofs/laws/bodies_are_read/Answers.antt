use Rattle.mp_macro.proofs.TextLemmas.{bodies_are_read}
use Rattle.mp_macro.proofs.laws.bodies_are_read.Goals as goal

pub returns : goal.returns
returns c = bodies_are_read
