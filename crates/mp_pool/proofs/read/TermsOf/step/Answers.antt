use Rattle.std.proofs.Common.{suc, arith}
use Rattle.mp_pool.proofs.read.TermsOf.step.Goals as goal

pub invariant_of-self : goal.invariant_of-self
invariant_of-self c = λ i lt. c.self.invariant (suc i) (omega (arith, lt))
