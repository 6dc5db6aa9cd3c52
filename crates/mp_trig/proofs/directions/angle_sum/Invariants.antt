use Rattle.std.proofs.Common.{◌≡◌, ◌*◌, ◌^◌, ◌<◌, ◌≤◌}
use Rattle.mp_trig.specs.Directions.{angle_after}
use Rattle.mp_trig.proofs.directions.angle_sum.Given as goal

abbrev pub invariant-loop-n : goal.invariant-loop-n
invariant-loop-n l = record {
  same : record { long = l.greater; short = l.lesser; angle = l.angle } ≡ angle_after l.n (record { long = l.long; short = l.short; angle = 0 });
  order : l.lesser ≤ l.greater;
  near : l.greater < 536870912 * 2 ^ l.n;
  small : l.angle ≤ 33554432 * l.n;
}
