use Rattle.std.proofs.Common.{◌≡◌, pos}
use Rattle.mp_trig.specs.Sines.{sine_after, IsBoundedAfter}
use Rattle.mp_trig.proofs.sines.octant_point.Given as goal

abbrev pub invariant-loop-n : goal.invariant-loop-n
invariant-loop-n l = record {
  same : record { x = l.x; y = l.y; left = l.left } ≡ sine_after l.n (record { x = pos 268435456; y = pos 268435456; left = l.angle });
  near : IsBoundedAfter l.n l.x l.y;
}
