-- The nearest root is one number, and Newton's iteration comes down to it.
use Rattle.std.proofs.Common.{◌≡◌, ℕ, zero, suc, ◌+◌, ◌-◌, ◌*◌, ◌/◌, ◌%◌, ◌^◌, ◌<◌, ◌≤◌, Bool, true, false, nat_le, nat_eq, cond, inl, inr, refl, arith}
use Rattle.std.proofs.Math.Nat.{pow-le-pow_right}
use Rattle.std.proofs.lemmas.Nat.{pow-add, mul-le, one_shl, leading_length}
use Rattle.std.proofs.lemmas.Bool.{cases_lt}
use Rattle.std.proofs.lemmas.Bool.Decides.{nat_tests}
use Rattle.std.specs.Int.Count.{count_leading_zeros}
use Rattle.mp_trig.specs.Roots.{IsNearestRoot, refined, whole_root_within, nearest_root}

-- the greatest number whose square is not above n
pub record IsWholeRoot (n r : ℕ) : Type 0 where
  pub not_above : r * r ≤ n
  pub not_below : n < (r + 1) * (r + 1)

squares_le : (a b : ℕ) → a ≤ b → a * a ≤ b * b
squares_le a b h = mul-le a a b b h h

product_up : (a d : ℕ) → 4 * (a * (a + d)) ≤ (a + (a + d)) * (a + (a + d))
product_up a d = omega arith

product_le : (a b : ℕ) → 4 * (a * b) ≤ (a + b) * (a + b)
product_le a b =
    elim (cases_lt a b) [
      | inl h ↦ (let e : a + (b - a) ≡ b = omega arith in rw e at (product_up a (b - a)))
      | inr h ↦ (let e : b + (a - b) ≡ a = omega arith in
          let k = rw e at (product_up b (a - b)) in omega (arith, k))
    ]

-- the mean of a number above the root and the quotient by it is not below the root
pub newton_above : (n x q y : ℕ) → n < (q + 1) * x → x + q < 2 * (y + 1) → n < (y + 1) * (y + 1)
newton_above n x q y p r =
    omega (arith, product_le x (q + 1), squares_le (x + (q + 1)) (2 * (y + 1)) (omega arith))

pub root_positive : (n y : ℕ) → 0 < n → n < (y + 1) * (y + 1) → 0 < y
root_positive n zero p q = absurd (omega arith)
root_positive n (suc y) p q = omega arith

-- the power of 2 with half as many digits is above the root
pub power_above : (n m : ℕ) → n < 2 ^ m → n < (2 ^ ((m + 1) / 2) + 1) * (2 ^ ((m + 1) / 2) + 1)
power_above n m p =
    let h = (m + 1) / 2 in
    let up : 2 ^ m ≤ 2 ^ (h + h) = pow-le-pow_right (omega arith) (omega arith) in
    omega (arith, up, pow-add 2 h h)

refined_as : (test : Bool) (n r : ℕ) → (test ≡ true → (r + 1) * (r + 1) ≤ n) → (test ≡ false → n < (r + 1) * (r + 1)) → r * r ≤ n → n < (r + 2) * (r + 2) → IsWholeRoot n (cond test (r + 1) r)
refined_as true n r above below p q = record { not_above = above refl; not_below = omega arith }
refined_as false n r above below p q = record { not_above = p; not_below = below refl }

refined_is : (n r : ℕ) → r * r ≤ n → n < (r + 2) * (r + 2) → IsWholeRoot n (refined n r)
refined_is n r p q =
    refined_as (nat_le ((r + 1) * (r + 1)) n) n r (λ e. grind (arith, nat_tests)) (λ e. grind (arith, nat_tests)) p q

turn_as : (test : Bool) (n r : ℕ) → (test ≡ true → n ≡ 0) → IsWholeRoot n r → IsWholeRoot n (elim test [ true ↦ 0 | false ↦ r ])
turn_as true n r none whole = let e = none refl in record { not_above = omega arith; not_below = omega arith }
turn_as false n r none whole = whole

pub whole_root_within_is : (turns n : ℕ) → n ≤ turns → IsWholeRoot n (whole_root_within turns n)
unfolding whole_root_within
whole_root_within_is zero n p = record { not_above = omega arith; not_below = omega arith }
whole_root_within_is (suc turns) n p =
    elim (cases_lt 0 n) [
      | inl h ↦ (let w = whole_root_within_is turns (n / 4) (omega arith) in
          let s = whole_root_within turns (n / 4) in
          turn_as (nat_eq n 0) n (refined n (2 * s)) (λ e. grind (arith, nat_tests))
          (refined_is n (2 * s) (omega (arith, w.not_above)) (omega (arith, w.not_below))))
      | inr h ↦ (let e : n ≡ 0 = omega arith in rw e (record { not_above = omega arith; not_below = omega arith }))
    ]

-- the definition is a nearest root
pub nearest_root_is : (n : ℕ) → IsNearestRoot n (nearest_root n)
unfolding nearest_root
nearest_root_is n =
    let w = whole_root_within_is (4 * n) (4 * n) (omega arith) in
    let s = whole_root_within (4 * n) (4 * n) in
    let r = (s + 1) / 2 in
    record {
      not_above = omega (arith, w.not_above, squares_le (2 * r - 1) s (omega arith));
      not_below = omega (arith, w.not_below, squares_le (s + 1) (2 * r + 1) (omega arith));
    }

nearest_le : (n r s : ℕ) → IsNearestRoot n r → IsNearestRoot n s → r ≤ s
nearest_le n r s p q =
    elim (cases_lt s r) [
      | inl h ↦ absurd (omega (arith, squares_le (2 * s + 1) (2 * r - 1) (omega arith), p.not_above, q.not_below))
      | inr h ↦ h
    ]

-- and there is no other
pub nearest_root_only : (n r : ℕ) → IsNearestRoot n r → r ≡ nearest_root n
nearest_root_only n r p =
    omega (arith, nearest_le n r (nearest_root n) p (nearest_root_is n), nearest_le n (nearest_root n) r (nearest_root_is n) p)

pub nearest_below : (n s : ℕ) → IsWholeRoot n s → n ≤ s * s + s → IsNearestRoot n s
nearest_below n s w h = record {
  not_above = omega (arith, w.not_above, squares_le (2 * s - 1) (2 * s) (omega arith));
  not_below = omega arith;
}

pub nearest_above : (n s : ℕ) → IsWholeRoot n s → s * s + s < n → IsNearestRoot n (s + 1)
nearest_above n s w h = record {
  not_above = (let e : 2 * (s + 1) - 1 ≡ 2 * s + 1 = omega arith in rw e (omega arith));
  not_below = omega (arith, w.not_below);
}

-- a bound on the root
pub nearest_root_bound : (n r m : ℕ) → IsNearestRoot n r → n ≤ m * m → r ≤ m
nearest_root_bound n r m p h =
    elim (cases_lt m r) [
      | inl k ↦ absurd (omega (arith, squares_le (2 * m + 1) (2 * r - 1) (omega arith), p.not_above))
      | inr k ↦ k
    ]

-- half the digits of n, from how many of 64 are 0 before them
pub root_above_is : (n : ℕ) → n < 2 ^ 64 → n < ((1 * 2 ^ ((65 - count_leading_zeros 64 n) / 2)) % 2 ^ 64 + 1) * ((1 * 2 ^ ((65 - count_leading_zeros 64 n) / 2)) % 2 ^ 64 + 1)
root_above_is n p =
    let digits = leading_length 64 n p in
    let h = (65 - count_leading_zeros 64 n) / 2 in
    let k : count_leading_zeros 64 n + digits.0 ≡ 64 = digits.1 in
    let e : h ≡ (digits.0 + 1) / 2 = omega arith in
    let s : (1 * 2 ^ h) % 2 ^ 64 ≡ 2 ^ h = one_shl h 64 (omega arith) in
    rw (s, e) (power_above n digits.0 digits.2)

pub nearest_root_at_least : (n r m : ℕ) → IsNearestRoot n r → m * m ≤ n → m ≤ r
nearest_root_at_least n r m p h =
    elim (cases_lt r m) [
      | inl k ↦ absurd (omega (arith, squares_le (2 * r + 1) (2 * m) (omega arith), p.not_below))
      | inr k ↦ k
    ]

pub record Hypotenuse (a b r : ℕ) : Type 0 where
  pub at_least_a : a ≤ r
  pub at_least_b : b ≤ r
  pub small : r ≤ 1073741824

pub hypotenuse_bounds : (a b r : ℕ) → IsNearestRoot (a * a + b * b) r → a ≤ 715827882 → b ≤ 715827882 → Hypotenuse a b r
hypotenuse_bounds a b r w p q = record {
  at_least_a = nearest_root_at_least (a * a + b * b) r a w (omega arith);
  at_least_b = nearest_root_at_least (a * a + b * b) r b w (omega arith);
  small = nearest_root_bound (a * a + b * b) r 1073741824 w (omega (arith, squares_le a 715827882 p, squares_le b 715827882 q));
}
