use Rattle.std.proofs.Common.{◌≡◌, ℕ, length, drop}
use Rattle.mp_solver.proofs.view.Terms.skip_to.Given as goal

abbrev pub invariant-skipping : goal.invariant-skipping
invariant-skipping l = (n : ℕ) × (l.self-inside.rest ≡ drop n l.fn.self)

abbrev pub decreases-skipping : goal.decreases-skipping
decreases-skipping l = length l.self-inside.rest
