use Rattle.std.proofs.Common.{arith}
use Rattle.std.proofs.Math.Nat.{pow-le-pow_right}
use Rattle.std.proofs.lemmas.Int.{ints}
use Rattle.mp_trig.proofs.quotient.power.Goals as goal

pub returns-clause-small : goal.returns-clause-small
returns-clause-small c = omega (arith, ints, pow-le-pow_right {n = 2} (omega arith) {i = c.args.n} {j = 30} c.requires)
