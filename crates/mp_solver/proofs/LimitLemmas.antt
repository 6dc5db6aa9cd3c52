-- Where an equation meets a limit, and where it is accepted.
use Rattle.std.proofs.Common.{◌≡◌, ◌↔◌, ◌^◌, ℤ, unsigned_abs, Bool, true, false, cond, leb, ltb, Option, Some, None, refl, sym, ap, ◌∙◌, subst}
use Rattle.std.specs.List.{list_any}
use Rattle.std.specs.Option.{IsSomeAnd, option_map}
use Rattle.std.proofs.lemmas.Bool.{le-leb, lt-ltb, leb-true, ltb-true, false≢true}
use Rattle.std.proofs.lemmas.List.Folds.{Any-from_list_any, list_any-from_Any}
use Rattle.mp_pool.specs.declared.Term.{Term}
use Rattle.mp_pool.specs.Terms.{is_too_large}
use Rattle.mp_forms.specs.Forms.{LinearForm}
use Rattle.mp_solver.specs.declared.equated.Equated.{Equated}
use Rattle.mp_solver.specs.declared.equated.Equated.TheVariants.{Accepted, Redundant, Inconsistent, CoefficientTooLarge, Overflow, Limit}
use Rattle.mp_solver.specs.States.{States}
use Rattle.mp_solver.specs.Elimination.{pivot_of, solved_for, solved_states, forms_in, has_large_coefficient, has_large_constant, term_count, eliminate, eliminate_by, HasLargeCoefficient, HasLargeConstant, HasManyTerms, IsTooLarge, IsOverflow, IsBeyondLimit, IsAccepted}

coefficient_from : (after : States) → list_any has_large_coefficient (forms_in after) ≡ true → HasLargeCoefficient after
coefficient_from after e =
    let w = Any-from_list_any has_large_coefficient (forms_in after) e in
    let t = Any-from_list_any is_too_large w.1.terms w.4 in
    (w.0, w.1, w.2, w.3, (t.0, t.1, t.2, t.3, leb-true (2 ^ 44) (unsigned_abs t.1.coefficient) t.4))

coefficient_test : (after : States) → HasLargeCoefficient after → list_any has_large_coefficient (forms_in after) ≡ true
coefficient_test after w =
    let t = w.4 in
    list_any-from_Any has_large_coefficient (forms_in after) (w.0, w.1, w.2, w.3, list_any-from_Any is_too_large w.1.terms (t.0, t.1, t.2, t.3, le-leb (2 ^ 44) (unsigned_abs t.1.coefficient) t.4))

constant_from : (after : States) → list_any has_large_constant (forms_in after) ≡ true → HasLargeConstant after
constant_from after e = let w = Any-from_list_any has_large_constant (forms_in after) e in (w.0, w.1, w.2, w.3, leb-true (2 ^ 31) (unsigned_abs w.1.constant) w.4)

constant_test : (after : States) → HasLargeConstant after → list_any has_large_constant (forms_in after) ≡ true
constant_test after w = list_any-from_Any has_large_constant (forms_in after) (w.0, w.1, w.2, w.3, le-leb (2 ^ 31) (unsigned_abs w.1.constant) w.4)

not_true : (b : Bool) → (b ≡ true → ⊥) → b ≡ false
not_true true not = absurd (not refl)
not_true false not = refl

module _ (states : States) (residual : LinearForm) where
  abbrev after_by : Term → States
  after_by pivot = solved_states states pivot (solved_for pivot residual)

  abbrev offered : Option Term → Option States
  offered pivot = option_map after_by pivot

  abbrev limited : Bool → Bool → Bool → States → Equated × States
  limited a b c after = cond a (CoefficientTooLarge, states) (cond b (Overflow, states) (cond c (Limit, states) (Accepted, after)))

  -- what an answer says of the states that were offered
  abbrev Says : Equated → Option States → Type 0
  Says CoefficientTooLarge after = IsSomeAnd after HasLargeCoefficient
  Says Overflow after = IsSomeAnd after (λ ss. (¬ HasLargeCoefficient ss) × HasLargeConstant ss)
  Says Limit after = IsSomeAnd after (λ ss. (¬ HasLargeCoefficient ss) × (¬ HasLargeConstant ss) × HasManyTerms ss)
  Says Accepted after = IsSomeAnd after (λ ss. (¬ HasLargeCoefficient ss) × (¬ HasLargeConstant ss) × (¬ HasManyTerms ss))
  Says (Redundant r) after = Unit {0}
  Says (Inconsistent r) after = Unit {0}

  no_coefficient : (after : States) → list_any has_large_coefficient (forms_in after) ≡ false → ¬ HasLargeCoefficient after
  no_coefficient after e some = false≢true (sym e ∙ coefficient_test after some)

  no_constant : (after : States) → list_any has_large_constant (forms_in after) ≡ false → ¬ HasLargeConstant after
  no_constant after e some = false≢true (sym e ∙ constant_test after some)

  few : (after : States) → ltb 4000000 (term_count after) ≡ false → ¬ HasManyTerms after
  few after e many = false≢true (sym e ∙ lt-ltb 4000000 (term_count after) many)

  says_limits : (after : States) (a b c : Bool) → list_any has_large_coefficient (forms_in after) ≡ a → list_any has_large_constant (forms_in after) ≡ b → ltb 4000000 (term_count after) ≡ c →
      Says (limited a b c after).0 (Some after)
  says_limits after true b c e f g = coefficient_from after e
  says_limits after false true c e f g = (no_coefficient after e, constant_from after f)
  says_limits after false false true e f g = (no_coefficient after e, no_constant after f, ltb-true 4000000 (term_count after) g)
  says_limits after false false false e f g = (no_coefficient after e, no_constant after f, few after g)

  says_judged : (z : ℤ) (b : Bool) → Says (cond b (Redundant z) (Inconsistent z)) None
  says_judged z true = tt
  says_judged z false = tt

  says_by : (pivot : Option Term) → Says (eliminate_by states residual pivot).0 (offered pivot)
  says_by None = says_judged residual.constant (leb (unsigned_abs residual.constant) 64)
  says_by (Some pivot) = says_limits (after_by pivot) _ _ _ refl refl refl

  too_large_by : (pivot : Option Term) → IsSomeAnd (offered pivot) HasLargeCoefficient → (eliminate_by states residual pivot).0 ≡ CoefficientTooLarge
  too_large_by None none = absurd none
  too_large_by (Some pivot) some = rw (coefficient_test (after_by pivot) some) refl

  overflow_by : (pivot : Option Term) → IsSomeAnd (offered pivot) (λ ss. (¬ HasLargeCoefficient ss) × HasLargeConstant ss) → (eliminate_by states residual pivot).0 ≡ Overflow
  overflow_by None none = absurd none
  overflow_by (Some pivot) some =
      rw (not_true _ (λ e. some.0 (coefficient_from (after_by pivot) e)), constant_test (after_by pivot) some.1) refl

  limit_by : (pivot : Option Term) → IsSomeAnd (offered pivot) (λ ss. (¬ HasLargeCoefficient ss) × (¬ HasLargeConstant ss) × HasManyTerms ss) → (eliminate_by states residual pivot).0 ≡ Limit
  limit_by None none = absurd none
  limit_by (Some pivot) some =
      rw (not_true _ (λ e. some.0 (coefficient_from (after_by pivot) e)), not_true _ (λ e. some.1 (constant_from (after_by pivot) e)), lt-ltb 4000000 (term_count (after_by pivot)) some.2) refl

  accepted_by : (pivot : Option Term) → IsSomeAnd (offered pivot) (λ ss. (¬ HasLargeCoefficient ss) × (¬ HasLargeConstant ss) × (¬ HasManyTerms ss)) → (eliminate_by states residual pivot).0 ≡ Accepted
  accepted_by None none = absurd none
  accepted_by (Some pivot) some =
      rw (not_true _ (λ e. some.0 (coefficient_from (after_by pivot) e)), not_true _ (λ e. some.1 (constant_from (after_by pivot) e)), not_true _ (λ e. some.2 (ltb-true 4000000 (term_count (after_by pivot)) e))) refl

  module _ (answer : Equated) (new : States) (exact : (answer, new) ≡ eliminate states residual) where
    first : answer ≡ (eliminate states residual).0
    first = ap (λ (e : Equated × States). e.0) exact

    said : (e : Equated) → answer ≡ e → Says e (offered (pivot_of residual.terms))
    said e is = subst (λ a. Says a (offered (pivot_of residual.terms))) (sym first ∙ is) (says_by (pivot_of residual.terms))

    pub too_large-where : (answer ≡ CoefficientTooLarge) ↔ IsTooLarge states residual
    too_large-where = (said CoefficientTooLarge, λ some. first ∙ too_large_by (pivot_of residual.terms) some)

    pub overflow-where : (answer ≡ Overflow) ↔ IsOverflow states residual
    overflow-where = (said Overflow, λ some. first ∙ overflow_by (pivot_of residual.terms) some)

    pub limit-where : (answer ≡ Limit) ↔ IsBeyondLimit states residual
    limit-where = (said Limit, λ some. first ∙ limit_by (pivot_of residual.terms) some)

    pub accepted-where : (answer ≡ Accepted) ↔ IsAccepted states residual
    accepted-where = (said Accepted, λ some. first ∙ accepted_by (pivot_of residual.terms) some)
