-- Quotients by the pivot's coefficient.
use Rattle.std.proofs.Common.{◌≡◌, ℕ, ◌+◌, ◌*◌, ◌/◌, ◌<◌, ◌≤◌, ◌^◌, ℤ, pos, negsuc, neg_ℤ, ◌-ℤ◌, ◌*ℤ◌, unsigned_abs, zero, suc, Bool, true, false, not, cond, ltb, eqb, leb, Option, Some, None, ◌↔◌, Ok, Err, refl, sym, ap, ◌∙◌, arith, rules, FitsSigned, w32, w64}
use Rattle.std.proofs.Math.Nat.{div-lt_iff_lt-mul}
use Rattle.std.proofs.Math.IntN.{+ℤ_idl}
use Rattle.std.specs.Option.{is_some, is_none, unwrap_or, IfSome, IsNone}
use Rattle.std.proofs.lemmas.Bool.{ltb-true, ltb-false, eqb-true, leb-true, le-leb}
use Rattle.std.proofs.lemmas.Int.{unsigned_abs-mul}
use Rattle.mp_scaled.specs.Round.{rounded_quotient, round, in_range, signed_of, signs_differ, make_fraction_of}
use Rattle.mp_scaled.specs.declared.arith.Arith.{Arith}
use Rattle.mp_scaled.specs.declared.arith.Arith.TheVariants.{Overflow, DivisionByZero}
use Rattle.mp_solver.specs.Elimination.{over_negative}

pub unsigned_abs-neg : (z : ℤ) → unsigned_abs (neg_ℤ z) ≡ unsigned_abs z
unsigned_abs-neg (pos zero) = refl
unsigned_abs-neg (pos (suc n)) = refl
unsigned_abs-neg (negsuc n) = refl

pub zero-sub : (z : ℤ) → pos 0 -ℤ z ≡ neg_ℤ z
zero-sub z = +ℤ_idl (neg_ℤ z)

unsigned_abs-signed_of : (b : Bool) (n : ℕ) → unsigned_abs (signed_of b n) ≡ n
unsigned_abs-signed_of false n = refl
unsigned_abs-signed_of true n = unsigned_abs-neg (pos n)

quotient_small : (n v : ℕ) → 0 < v → n ≤ v → (2 * (n * 268435456) + v) / (2 * v) < 268435457
quotient_small n v some small = (div-lt_iff_lt-mul (omega arith)).1 (omega arith)

-- no coefficient is greater than 1 after a division by the greatest
pub over_negative_small : (v n : ℤ) → 0 < unsigned_abs v → unsigned_abs n ≤ unsigned_abs v → unsigned_abs (over_negative v n) ≤ 268435456
over_negative_small v n some small =
    let z = n *ℤ pos 268435456 in
    let magnitude = unsigned_abs-neg (round z v) ∙ unsigned_abs-signed_of (signs_differ z v) (rounded_quotient (unsigned_abs z) (unsigned_abs v)) in
    let product = unsigned_abs-mul n (pos 268435456) in
    let bound = quotient_small (unsigned_abs n) (unsigned_abs v) some small in
    rw (magnitude, product) (omega (arith, bound))

in_range-Ok : (z r : ℤ) (b : Bool) → ltb (unsigned_abs z) (2 ^ 31) ≡ b → cond b (Ok z) (Err Overflow) ≡ Ok r → (r ≡ z) × (unsigned_abs z < 2 ^ 31)
in_range-Ok z r true e is = (cc, ltb-true (unsigned_abs z) (2 ^ 31) e)
in_range-Ok z r false e is = absurd cc

in_range-Err : (z : ℤ) (fault : Arith) (b : Bool) → ltb (unsigned_abs z) (2 ^ 31) ≡ b → cond b (Ok z) (Err Overflow) ≡ Err fault → 2 ^ 31 ≤ unsigned_abs z
in_range-Err z fault true e is = absurd cc
in_range-Err z fault false e is = ltb-false (unsigned_abs z) (2 ^ 31) e

make_fraction_of-nonzero : (n v : ℤ) (b : Bool) → eqb (unsigned_abs v) 0 ≡ b → 0 < unsigned_abs v → cond b (Err DivisionByZero) (in_range (round (n *ℤ pos 268435456) v)) ≡ in_range (round (n *ℤ pos 268435456) v)
make_fraction_of-nonzero n v true e some = absurd (omega (arith, eqb-true (unsigned_abs v) 0 e))
make_fraction_of-nonzero n v false e some = refl

module _ (v n : ℤ) (some : 0 < unsigned_abs v) where
  -- a quotient that is within the range
  pub make_fraction_of-Ok : (r : ℤ) → make_fraction_of n v ≡ Ok r → (neg_ℤ r ≡ over_negative v n) × (unsigned_abs r < 2 ^ 31) × (unsigned_abs (over_negative v n) < 2 ^ 31)
  make_fraction_of-Ok r is =
      let z = round (n *ℤ pos 268435456) v in
      let both = in_range-Ok z r (ltb (unsigned_abs z) (2 ^ 31)) refl (sym (make_fraction_of-nonzero n v (eqb (unsigned_abs v) 0) refl some) ∙ is) in
      (ap neg_ℤ both.0, rw both.0 both.1, rw (unsigned_abs-neg z) both.1)

  -- and one that is not
  pub make_fraction_of-Err : (fault : Arith) → make_fraction_of n v ≡ Err fault → 2 ^ 31 ≤ unsigned_abs (over_negative v n)
  make_fraction_of-Err fault is =
      let z = round (n *ℤ pos 268435456) v in
      rw (unsigned_abs-neg z) (in_range-Err z fault (ltb (unsigned_abs z) (2 ^ 31)) refl (sym (make_fraction_of-nonzero n v (eqb (unsigned_abs v) 0) refl some) ∙ is))

pub fits32 : (z : ℤ) → unsigned_abs z < 2 ^ 31 → FitsSigned w32 z
fits32 z small = search rules

pub fits64 : (z : ℤ) → unsigned_abs z < 2 ^ 44 → FitsSigned w64 z
fits64 z small = search rules

within_range : (n : ℤ) (b : Bool) → leb (2 ^ 31) (unsigned_abs n) ≡ b → (2 ^ 31 ≤ unsigned_abs n → ⊥) → false ≡ leb (2 ^ 31) (unsigned_abs n)
within_range n true e small = absurd (small (leb-true (2 ^ 31) (unsigned_abs n) e))
within_range n false e small = sym e

-- a quotient that may be too large, as a number and whether it is
pub solution_constant : (result : Option ℤ) (n : ℤ) → IfSome result (λ q. q ≡ n) → (IsNone result ↔ (2 ^ 31 ≤ unsigned_abs n)) →
    (is_none result ≡ leb (2 ^ 31) (unsigned_abs n)) × (is_none result ≡ false → unwrap_or result (pos 0) ≡ n)
solution_constant None n some exactly = (sym (le-leb (2 ^ 31) (unsigned_abs n) (exactly.0 refl)), λ e. absurd cc)
solution_constant (Some q) n some exactly = (within_range n (leb (2 ^ 31) (unsigned_abs n)) refl (λ large. let none = exactly.1 large in absurd cc), λ e. some)

pub is_none_is : (result : Option ℤ) (b : Bool) → is_some result ≡ not b → b ≡ is_none result
is_none_is None true e = refl
is_none_is None false e = absurd cc
is_none_is (Some q) true e = absurd cc
is_none_is (Some q) false e = refl
