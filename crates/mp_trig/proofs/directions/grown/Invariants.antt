use Rattle.std.proofs.Common.{◌≡◌, ◌-◌, ◌^◌, ◌<◌, ◌≤◌}
use Rattle.mp_trig.specs.Directions.{grown}
use Rattle.mp_trig.proofs.directions.grown.Given as goal

abbrev pub invariant-loop-greater : goal.invariant-loop-greater
invariant-loop-greater l = record {
  same : grown (record { long = l.greater; short = l.lesser }) ≡ grown (record { long = l.long; short = l.short });
  order : l.lesser ≤ l.greater;
  positive : 0 < l.greater;
  small : l.greater < 2 ^ 29;
}

abbrev pub decreases-loop-greater : goal.decreases-loop-greater
decreases-loop-greater l = 2 ^ 29 - l.greater
