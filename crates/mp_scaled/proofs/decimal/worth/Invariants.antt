use Rattle.std.proofs.Common.{◌≡◌, ◌≤◌, length, drop}
use Rattle.mp_scaled.specs.Decimal.{worth_of}
use Rattle.mp_scaled.proofs.decimal.worth.Given as goal

abbrev pub invariant-loop-i : goal.invariant-loop-i
invariant-loop-i l = (l.worth ≡ worth_of (drop l.i l.digits)) × (l.worth ≤ 131072) × (l.i ≤ length l.digits)

abbrev pub decreases-loop-i : goal.decreases-loop-i
decreases-loop-i l = l.i
