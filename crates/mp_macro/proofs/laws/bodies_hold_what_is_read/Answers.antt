use Rattle.mp_macro.proofs.ContentLemmas.{bodies_hold_what_is_read}
use Rattle.mp_macro.proofs.laws.bodies_hold_what_is_read.Goals as goal

pub returns : goal.returns
returns c = bodies_hold_what_is_read
