use Rattle.std.proofs.Common.{◌≡◌, ◌<◌, ◌≤◌}
use Rattle.mp_trig.specs.Directions.{shrunk}
use Rattle.mp_trig.proofs.directions.shrunk.Given as goal

abbrev pub invariant-loop-greater : goal.invariant-loop-greater
invariant-loop-greater l = record {
  same : shrunk (record { long = l.greater; short = l.lesser }) ≡ shrunk (record { long = l.long; short = l.short });
  order : l.lesser ≤ l.greater;
  positive : 0 < l.greater;
}

abbrev pub decreases-loop-greater : goal.decreases-loop-greater
decreases-loop-greater l = l.greater
