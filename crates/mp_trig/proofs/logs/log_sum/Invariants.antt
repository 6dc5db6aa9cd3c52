use Rattle.std.proofs.Common.{◌≡◌, ◌^◌, ◌<◌, ◌≤◌, pos, ◌*ℤ◌, ◌+ℤ◌, ◌≤ℤ◌}
use Rattle.mp_trig.specs.Logs.{log_rest}
use Rattle.mp_trig.proofs.logs.log_sum.Given as goal

abbrev pub invariant-loop-left : goal.invariant-loop-left
invariant-loop-left l = record {
  same : log_rest (record { left = l.left; sum = l.sum; power = l.power }) ≡ log_rest (record { left = l.x; sum = l.start; power = 2 });
  reached : 2 ^ 30 ≤ l.left;
  not_passed : l.left < 2 ^ 31;
  first : 1 ≤ l.power;
  last : l.power ≤ 28;
  low : l.start ≤ℤ l.sum;
  high : (pos 4 *ℤ l.sum +ℤ pos l.left) ≤ℤ pos 7357311488;
}

abbrev pub decreases-loop-left : goal.decreases-loop-left
decreases-loop-left l = l.left
