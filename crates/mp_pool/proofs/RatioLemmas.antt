-- How large a number is that was multiplied by a ratio.
use Rattle.std.proofs.Common.{ℕ, ◌+◌, ◌*◌, ◌/◌, ◌<◌, ◌≤◌, ℤ, ◌*ℤ◌, unsigned_abs, arith}
use Rattle.std.proofs.Math.Nat.{div-lt_iff_lt-mul, mul-le-mul_left}
use Rattle.std.proofs.lemmas.Int.{unsigned_abs-mul}
use Rattle.mp_scaled.specs.Round.{rounded_quotient}

rounded_below : (n a b : ℕ) → 0 < b → a ≤ 65536 * b → (2 * (n * a) + b) / (2 * b) < 65536 * n + 1
rounded_below n a b some small =
    let more : n * a ≤ n * (65536 * b) = mul-le-mul_left n small in
    (div-lt_iff_lt-mul (omega arith)).1 (omega arith)

pub rounded_bound : (n a b : ℤ) → 0 < unsigned_abs b → unsigned_abs a ≤ 65536 * unsigned_abs b → rounded_quotient (unsigned_abs (n *ℤ a)) (unsigned_abs b) ≤ 65536 * unsigned_abs n
rounded_bound n a b some small =
    rw (unsigned_abs-mul n a) (omega (arith, rounded_below (unsigned_abs n) (unsigned_abs a) (unsigned_abs b) some small))
