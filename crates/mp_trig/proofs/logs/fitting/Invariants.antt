use Rattle.std.proofs.Common.{◌≡◌, ◌-◌, ◌≤◌}
use Rattle.mp_trig.specs.Logs.{fitting}
use Rattle.mp_trig.proofs.logs.fitting.Given as goal

abbrev pub invariant-loop-power : goal.invariant-loop-power
invariant-loop-power l = record {
  same : fitting l.x l.power ≡ fitting l.x l.k;
  first : 1 ≤ l.power;
  last : l.power ≤ 28;
}

abbrev pub decreases-loop-power : goal.decreases-loop-power
decreases-loop-power l = 28 - l.power
