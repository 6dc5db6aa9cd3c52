use Rattle.std.proofs.Common.{arith}
use Rattle.std.proofs.lemmas.Grind.{pow_more}
use Rattle.mp_trig.proofs.LogLemmas.{doubling}
use Rattle.mp_trig.proofs.logs.doublings.Goals as goal

pub loop-raised-preserved : goal.loop-raised-preserved
loop-raised-preserved c = record {
  power = rw (pow_more 2 c.loop-raised.turns) (omega arith);
  counted = grind (arith, doubling);
  positive = omega arith;
  small = omega arith;
}
