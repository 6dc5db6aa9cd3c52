use Rattle.std.proofs.Common.{w64, sym, arith, rules}
use Rattle.std.proofs.lemmas.Int.{ints, to_z-of_z}
use mir.Val.{SFits, to_z}
use Rattle.mp_trig.proofs.ExpLemmas.{exp_after-none, exp_step}
use Rattle.mp_trig.proofs.logs.exp_value.Goals as goal

pub loop-n-init : goal.loop-n-init
loop-n-init c = record {
  same = sym (exp_after-none _);
  small = omega arith;
  low = omega (arith, ints);
  high = omega (arith, ints);
}

pub loop-n-preserved : goal.loop-n-preserved
loop-n-preserved c =
    let value = c.exp_turn.result.1 in
    let fits : SFits w64 value = search rules in
    record {
      same = rw (to_z-of_z w64 value fits) (exp_step c.loop-n.n c.loop-n.left c.exp_turn.result.0 (to_z w64 c.loop-n.value-bits) value _ c.exp_turn.ensures.rest c.exp_turn.ensures.value c.loop-n.invariant.same);
      small = omega arith;
      low = omega (arith, ints);
      high = omega (arith, ints);
    }
