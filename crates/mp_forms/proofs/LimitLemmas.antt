-- What the limits of a form refuse, and in which order.
use Rattle.std.proofs.Common.{◌≡◌, get_or, ◌↔◌, ◌⊎◌, ◌<◌, ◌≤◌, ◌^◌, ℤ, unsigned_abs, Bool, true, false, ltb, List, Result, Ok, Err, refl, sym, ◌∙◌, arith, inl, inr}
use Rattle.std.specs.List.{list_any}
use Rattle.std.specs.Result.{IfOk, IsErrOf}
use Rattle.std.proofs.lemmas.Bool.{leb-true, le-leb, lt-leb, ltb-true, ltb-false, lt-ltb, le-ltb, false≢true}
use Rattle.std.proofs.lemmas.Result.{IfOk-weaker}
use Rattle.std.proofs.lemmas.List.Folds.{list_any_none, Any-from_list_any, list_any-from_Any}
use Rattle.mp_pool.specs.declared.Term.{Term}
use Rattle.mp_forms.specs.declared.fault.FormFault.{FormFault}
use Rattle.mp_forms.specs.declared.fault.FormFault.TheVariants.{Overflow, CoefficientTooLarge, DivisionByZero}
use Rattle.mp_pool.specs.Terms.{is_too_large, AreTerms, HasTooLarge}
use Rattle.mp_forms.specs.Forms.{LinearForm, within_limits}

HasTooLarge-from_any : (terms : List Term) → list_any is_too_large terms ≡ true → HasTooLarge terms
HasTooLarge-from_any terms e =
    let w = Any-from_list_any is_too_large terms e in
    (w.0, w.1, w.2, w.3, leb-true (2 ^ 44) (unsigned_abs w.1.coefficient) w.4)

any_from_HasTooLarge : (terms : List Term) → HasTooLarge terms → list_any is_too_large terms ≡ true
any_from_HasTooLarge terms w =
    list_any-from_Any is_too_large terms (w.0, w.1, w.2, w.3, le-leb (2 ^ 44) (unsigned_abs w.1.coefficient) w.4)

-- no coefficient of a form is too large
pub terms_are_small : (terms : List Term) → AreTerms terms → list_any is_too_large terms ≡ false
terms_are_small terms are = list_any_none is_too_large terms (λ i d lt. lt-leb (2 ^ 44) (unsigned_abs (get_or terms i d).coefficient) (are.coefficients i d lt).1)

module _ (constant : ℤ) (terms : List Term) where
  abbrev Fits : Type 0
  Fits = ¬ HasTooLarge terms × (unsigned_abs constant < 2 ^ 31)

  abbrev Overflows : Type 0
  Overflows = ¬ HasTooLarge terms × (2 ^ 31 ≤ unsigned_abs constant)

  by_constant : ¬ HasTooLarge terms → (b : Bool) → ltb (unsigned_abs constant) (2 ^ 31) ≡ b → Overflows ⊎ Fits
  by_constant none true e = inr (none, ltb-true (unsigned_abs constant) (2 ^ 31) e)
  by_constant none false e = inl (none, ltb-false (unsigned_abs constant) (2 ^ 31) e)

  by_terms : (b : Bool) → list_any is_too_large terms ≡ b → HasTooLarge terms ⊎ (Overflows ⊎ Fits)
  by_terms true e = inl (HasTooLarge-from_any terms e)
  by_terms false e = inr (by_constant (λ w. false≢true (sym e ∙ any_from_HasTooLarge terms w)) _ refl)

  -- one of three is so
  cases : HasTooLarge terms ⊎ (Overflows ⊎ Fits)
  cases = by_terms _ refl

  none_is : ¬ HasTooLarge terms → list_any is_too_large terms ≡ false
  none_is none =
      elim (list_any is_too_large terms) as (λ b. list_any is_too_large terms ≡ b → b ≡ false) [
        | true ↦ λ e. absurd (none (HasTooLarge-from_any terms e))
        | false ↦ λ _. refl
      ] refl

  pub within_limits-too_large : HasTooLarge terms → within_limits constant terms ≡ Err CoefficientTooLarge
  within_limits-too_large some = rw (any_from_HasTooLarge terms some)

  pub within_limits-overflow : Overflows → within_limits constant terms ≡ Err Overflow
  within_limits-overflow over = rw (none_is over.0, le-ltb (unsigned_abs constant) (2 ^ 31) over.1)

  pub within_limits-fits : Fits → within_limits constant terms ≡ Ok (record { constant = constant; terms = terms })
  within_limits-fits fits = rw (none_is fits.0, lt-ltb (unsigned_abs constant) (2 ^ 31) fits.1)

  module _ (answer : Result LinearForm FormFault) (is : answer ≡ within_limits constant terms) where
    pub too_large_exactly : IsErrOf answer CoefficientTooLarge ↔ HasTooLarge terms
    too_large_exactly =
        elim cases as (λ _. IsErrOf answer CoefficientTooLarge ↔ HasTooLarge terms) [
          | inl some ↦ (λ _. some, λ _. is ∙ within_limits-too_large some)
          | inr (inl over) ↦ (λ e. let other = is ∙ within_limits-overflow over in cc, λ some. absurd (over.0 some))
          | inr (inr fits) ↦ (λ e. let other = is ∙ within_limits-fits fits in cc, λ some. absurd (fits.0 some))
        ]

    pub overflow_exactly : IsErrOf answer Overflow ↔ Overflows
    overflow_exactly =
        elim cases as (λ _. IsErrOf answer Overflow ↔ Overflows) [
          | inl some ↦ (λ e. let other = is ∙ within_limits-too_large some in cc, λ over. absurd (over.0 some))
          | inr (inl over) ↦ (λ _. over, λ _. is ∙ within_limits-overflow over)
          | inr (inr fits) ↦ (λ e. let other = is ∙ within_limits-fits fits in cc, λ over. absurd (omega (arith, over.1, fits.1)))
        ]

    pub undivided : ¬ IsErrOf answer DivisionByZero
    undivided e =
        elim cases as (λ _. ⊥) [
          | inl some ↦ let other = is ∙ within_limits-too_large some in cc
          | inr (inl over) ↦ let other = is ∙ within_limits-overflow over in cc
          | inr (inr fits) ↦ let other = is ∙ within_limits-fits fits in cc
        ]

-- the same of what a call answers, where it found memory
module _ {E : Type 0} (result : Result (Result LinearForm FormFault) E) (constant : ℤ) (terms : List Term) (exact : IfOk result (λ answer. answer ≡ within_limits constant terms)) where
  pub result_too_large : IfOk result (λ answer. IsErrOf answer CoefficientTooLarge ↔ HasTooLarge terms)
  result_too_large = IfOk-weaker result (λ answer. answer ≡ within_limits constant terms) (λ answer. IsErrOf answer CoefficientTooLarge ↔ HasTooLarge terms) (too_large_exactly constant terms) exact

  pub result_overflow : IfOk result (λ answer. IsErrOf answer Overflow ↔ (¬ HasTooLarge terms × (2 ^ 31 ≤ unsigned_abs constant)))
  result_overflow = IfOk-weaker result (λ answer. answer ≡ within_limits constant terms) (λ answer. IsErrOf answer Overflow ↔ (¬ HasTooLarge terms × (2 ^ 31 ≤ unsigned_abs constant))) (overflow_exactly constant terms) exact

  pub result_undivided : IfOk result (λ answer. ¬ IsErrOf answer DivisionByZero)
  result_undivided = IfOk-weaker result (λ answer. answer ≡ within_limits constant terms) (λ answer. ¬ IsErrOf answer DivisionByZero) (undivided constant terms) exact
