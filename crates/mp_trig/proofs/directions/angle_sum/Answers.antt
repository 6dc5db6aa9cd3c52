use Rattle.std.proofs.Common.{sym, arith}
use Rattle.mp_trig.proofs.DirectionLemmas.{angle_after-none, angle_step}
use Rattle.mp_trig.proofs.directions.angle_sum.Goals as goal

pub loop-n-init : goal.loop-n-init
loop-n-init c = record {
  same = sym (angle_after-none _);
  order = omega arith;
  near = omega arith;
  small = omega arith;
}

pub loop-n-preserved : goal.loop-n-preserved
loop-n-preserved c = record {
  same = angle_step c.loop-n.n _ _ _ c.angle_turn.ensures.exact c.loop-n.invariant.same;
  order = c.angle_turn.ensures.order;
  near = c.angle_turn.ensures.near;
  small = c.angle_turn.ensures.small;
}
