use Rattle.mp_solver.proofs.HeldLemmas.{AreHeld-more}
use Rattle.mp_solver.proofs.forms.Forms.push.Goals as goal

pub invariant_of-self-2 : goal.invariant_of-self-2
invariant_of-self-2 c = rw (c.in_ok-push.ensures.items) (AreHeld-more c.self.inside.pool c.self.inside.entries.items c.self.invariant)
