-- The numbers of sums and solutions that are exact.
use Rattle.std.proofs.Common.{◌≡◌, ◌≢◌, ℕ, ◌+◌, ◌*◌, ◌/◌, ◌<◌, ◌^◌, ℤ, pos, negsuc, neg_ℤ, ◌+ℤ◌, ◌*ℤ◌, unsigned_abs, zero, suc, Bool, true, false, List, Option, Some, None, refl, sym, ap, ◌∙◌, subst, arith}
use Rattle.std.proofs.Math.IntN.{zero-*ℤ, *ℤ-zero, *ℤ-negsuc, neg_ℤ-neg_ℤ, +ℤ_idr}
use Rattle.std.proofs.Math.Nat.{div-lt_iff_lt-mul}
use Rattle.std.proofs.lemmas.Int.{ints}
use Rattle.mp_scaled.specs.Round.{round, signed_of, signs_differ}
use Rattle.mp_pool.specs.declared.Term.{Term}
use Rattle.mp_pool.specs.Ratios.{ratio_times, times_fraction}
use Rattle.mp_pool.specs.Terms.{sum_terms, AreTerms, StayInOrder}
use Rattle.mp_forms.specs.Forms.{LinearForm}
use Rattle.mp_solver.specs.Elimination.{without, term_of, over_negative, solved_for, replaced, replaced_term}
use Rattle.mp_solver.specs.Exact.{coefficient_in, coefficient_of, HasNoRemainder, HaveNoRemainder, IsExactSum, without_unknown, IsExactSolution, IsExactReplacement}
use Rattle.mp_solver.proofs.ReductionLemmas.{AreTerms-filter}
use Rattle.mp_solver.proofs.CoefficientLemmas.{due_of, sum_terms-due, changed_terms-due, without-other, holds-coefficient}

-- a number of a form: its constant, or its coefficient of an unknown
abbrev pub number : Option ℕ → LinearForm → ℤ
number None p = p.constant
number (Some u) p = coefficient_of u p.terms

-- not the coefficient of this unknown
abbrev pub IsOther : ℕ → Option ℕ → Type 0
IsOther serial None = Unit {0}
IsOther serial (Some u) = u ≢ serial

-- 0 leaves no remainder
signed_zero : (b : Bool) → signed_of b 0 ≡ pos 0
signed_zero true = refl
signed_zero false = refl

quotient_below : (m : ℕ) → 0 < m → (2 * 0 + m) / (2 * m) < 1
quotient_below m some = (div-lt_iff_lt-mul (omega arith)).1 (omega arith)

quotient_zero : (m : ℕ) → 0 < m → (2 * 0 + m) / (2 * m) ≡ 0
quotient_zero m some = omega (arith, quotient_below m some)

round_zero : (b : ℤ) → 0 < unsigned_abs b → round (pos 0) b ≡ pos 0
round_zero b some =
    ap (signed_of (signs_differ (pos 0) b)) (quotient_zero (unsigned_abs b) some) ∙ signed_zero (signs_differ (pos 0) b)

ratio_zero : (a b : ℤ) → 0 < unsigned_abs b → ratio_times a b (pos 0) ≡ pos 0
ratio_zero a b some = ap (λ n. round n b) (zero-*ℤ a) ∙ round_zero b some

exact_zero : (a b : ℤ) → 0 < unsigned_abs b → HasNoRemainder a b (pos 0)
exact_zero a b some = ap (λ n. n *ℤ b) (ratio_zero a b some) ∙ zero-*ℤ b ∙ sym (zero-*ℤ a)

-- no coefficient leaves one
exact_coefficient : (a b : ℤ) (p : LinearForm) (u : ℕ) → 0 < unsigned_abs b → HaveNoRemainder a b p → HasNoRemainder a b (coefficient_of u p.terms)
exact_coefficient a b p u some exact = holds-coefficient (HasNoRemainder a b) u p.terms (exact_zero a b some) exact.coefficients

-- p + f c / 2^28 where the quotient is exact
scaled_sum : (p f c n r : ℤ) → r ≡ p +ℤ n → n *ℤ pos 268435456 ≡ c *ℤ f → pos 268435456 *ℤ r ≡ pos 268435456 *ℤ p +ℤ f *ℤ c
scaled_sum p f c n r is exact = rw is (omega (arith, ints))

module _ (order : StayInOrder) (f : ℤ) (p q : LinearForm) (left : AreTerms p.terms) (right : AreTerms q.terms) (exact : IsExactSum f p q) where
  abbrev pub sum : LinearForm
  sum = record { constant = p.constant +ℤ times_fraction f q.constant; terms = sum_terms (times_fraction f) p.terms q.terms }

  sum_coefficient : (u : ℕ) → coefficient_of u sum.terms ≡ coefficient_of u p.terms +ℤ times_fraction f (coefficient_of u q.terms)
  sum_coefficient u =
      due_of u _ (term_of u sum.terms)
      (sum_terms-due u (times_fraction f) order (ratio_zero f (pos 268435456) (omega arith)) p.terms left q.terms right)
      (exact.drops u)

  -- each number of an exact sum is the sum without rounding
  pub sum_number : (part : Option ℕ) → pos 268435456 *ℤ number part sum ≡ pos 268435456 *ℤ number part p +ℤ f *ℤ number part q
  sum_number None = scaled_sum p.constant f q.constant (times_fraction f q.constant) sum.constant refl exact.remainders.constant
  sum_number (Some u) =
      scaled_sum (coefficient_of u p.terms) f (coefficient_of u q.terms) (times_fraction f (coefficient_of u q.terms)) (coefficient_of u sum.terms) (sum_coefficient u)
      (exact_coefficient f (pos 268435456) q u (omega arith) exact.remainders)

-- a form without an unknown keeps all other numbers
pub number-without : (serial : ℕ) (p : LinearForm) (part : Option ℕ) → IsOther serial part → number part (without_unknown serial p) ≡ number part p
number-without serial p None other = refl
number-without serial p (Some u) other = ap coefficient_in (without-other u serial p.terms other)

mul_neg : (a b : ℤ) → a *ℤ neg_ℤ b ≡ neg_ℤ (a *ℤ b)
mul_neg a (pos zero) = *ℤ-zero a ∙ ap neg_ℤ (sym (*ℤ-zero a))
mul_neg a (pos (suc n)) = *ℤ-negsuc a n
mul_neg a (negsuc n) = sym (ap neg_ℤ (*ℤ-negsuc a n) ∙ neg_ℤ-neg_ℤ (a *ℤ pos (suc n)))

-- v n and 2^28 c are opposite, where n is -(2^28 c / v) and the quotient is exact
opposite : (v c q : ℤ) → q *ℤ v ≡ c *ℤ pos 268435456 → v *ℤ neg_ℤ q +ℤ pos 268435456 *ℤ c ≡ pos 0
opposite v c q exact = rw (mul_neg v q) (omega (arith, ints))

module _ (pivot : Term) (p : LinearForm) (some : 0 < unsigned_abs pivot.coefficient) (are : AreTerms p.terms) (exact : IsExactSolution pivot p) where
  abbrev v : ℤ
  v = pivot.coefficient

  abbrev rest : List Term
  rest = without pivot.serial p.terms

  solved_coefficient : (u : ℕ) → u ≢ pivot.serial → coefficient_of u (solved_for pivot p).terms ≡ over_negative v (coefficient_of u p.terms)
  solved_coefficient u other =
      due_of u _ (term_of u (solved_for pivot p).terms)
      (changed_terms-due u (over_negative v) (2 ^ 32) rest (AreTerms-filter _ p.terms are).serials)
      (exact.drops u)
      ∙ ap (over_negative v) (number-without pivot.serial p (Some u) other)

  -- where the form is 0, its other numbers and those of what the pivot equals cancel
  pub solved_number : (part : Option ℕ) → IsOther pivot.serial part → v *ℤ number part (solved_for pivot p) +ℤ pos 268435456 *ℤ number part p ≡ pos 0
  solved_number None other = opposite v p.constant (ratio_times (pos 268435456) v p.constant) exact.remainders.constant
  solved_number (Some u) other =
      let c = coefficient_of u p.terms in
      let whole : HasNoRemainder (pos 268435456) v c =
      subst (HasNoRemainder (pos 268435456) v) (number-without pivot.serial p (Some u) other)
      (exact_coefficient (pos 268435456) v (without_unknown pivot.serial p) u some exact.remainders) in
      rw (solved_coefficient u other) (opposite v c (ratio_times (pos 268435456) v c) whole)

-- a form where another one replaces an unknown
module _ (order : StayInOrder) (serial : ℕ) (new p : LinearForm) (left : AreTerms p.terms) (right : AreTerms new.terms)
    (exact : IsExactReplacement serial new p) (part : Option ℕ) (other : IsOther serial part) where
  abbrev IsReplaced : Option Term → Type 0
  IsReplaced term = pos 268435456 *ℤ number part (replaced_term serial new p term) ≡ pos 268435456 *ℤ number part p +ℤ coefficient_in term *ℤ number part new

  replaced_by : (term : Option Term) → term_of serial p.terms ≡ term → IsReplaced term
  replaced_by None is = sym (ap (λ n. pos 268435456 *ℤ number part p +ℤ n) (zero-*ℤ (number part new)) ∙ +ℤ_idr (pos 268435456 *ℤ number part p))
  replaced_by (Some t) is =
      sum_number order t.coefficient (without_unknown serial p) new (AreTerms-filter _ p.terms left) right (exact t is) part
      ∙ ap (λ n. pos 268435456 *ℤ n +ℤ t.coefficient *ℤ number part new) (number-without serial p part other)

  pub replaced_number : pos 268435456 *ℤ number part (replaced serial new p) ≡ pos 268435456 *ℤ number part p +ℤ coefficient_of serial p.terms *ℤ number part new
  replaced_number = replaced_by (term_of serial p.terms) refl
