-- What an equation leaves: the system as it was, or one that is solved again.
use Rattle.std.proofs.Common.{◌≡◌, ◌≢◌, ◌⊎◌, ℕ, ◌+◌, ◌≤◌, ℤ, unsigned_abs, Bool, true, false, cond, leb, ltb, List, Option, Some, None, length, refl, sym, ap, ◌∙◌, subst, inl, inr, arith}
use Rattle.std.specs.List.{list_any}
use Rattle.std.proofs.lemmas.Bool.{ltb-false}
use Rattle.mp_pool.specs.declared.Term.{Term}
use Rattle.mp_pool.specs.Terms.{StayInOrder}
use Rattle.mp_forms.specs.Forms.{LinearForm}
use Rattle.mp_solver.specs.declared.equated.Equated.{Equated}
use Rattle.mp_solver.specs.declared.equated.Equated.TheVariants.{Accepted, Redundant, Inconsistent, CoefficientTooLarge, Overflow, Limit}
use Rattle.mp_solver.specs.States.{States}
use Rattle.mp_solver.specs.Elimination.{pivot_of, solved_for, solved_states, forms_in, has_large_coefficient, has_large_constant, term_count, eliminate, eliminate_by}
use Rattle.mp_solver.specs.Ready.{IsResidual}
use Rattle.mp_solver.specs.Storage.Counts.{IsSystem}
use Rattle.mp_solver.proofs.EliminationLemmas.{IsSolved-after, length_after, length-forms_in_after}

module _ (states : States) (residual : LinearForm) where
  pub record IsTaken (after : States) : Type 0 where
    pub pivot : Term
    pub found : pivot_of residual.terms ≡ Some pivot
    pub is : after ≡ solved_states states pivot (solved_for pivot residual)
    pub coefficients : list_any has_large_coefficient (forms_in after) ≡ false
    pub constants : list_any has_large_constant (forms_in after) ≡ false
    pub few : term_count after ≤ 4000000

  abbrev pub Outcome : Equated × States → Type 0
  Outcome e = ((e.0 ≢ Accepted) × (e.1 ≡ states)) ⊎ ((e.0 ≡ Accepted) × IsTaken e.1)

  judged_refuses : (z : ℤ) (b : Bool) → cond b (Redundant z) (Inconsistent z) ≢ Accepted
  judged_refuses z true e = cc
  judged_refuses z false e = cc

  by_limits : (pivot : Term) → pivot_of residual.terms ≡ Some pivot → (after : States) → after ≡ solved_states states pivot (solved_for pivot residual) → (a b c : Bool) →
      list_any has_large_coefficient (forms_in after) ≡ a → list_any has_large_constant (forms_in after) ≡ b → ltb 4000000 (term_count after) ≡ c →
      Outcome (cond a (CoefficientTooLarge, states) (cond b (Overflow, states) (cond c (Limit, states) (Accepted, after))))
  by_limits pivot found after is true b c e f g = inl (λ e. cc, refl)
  by_limits pivot found after is false true c e f g = inl (λ e. cc, refl)
  by_limits pivot found after is false false true e f g = inl (λ e. cc, refl)
  by_limits pivot found after is false false false e f g = inr (
    refl,
    record {
      pivot = pivot;
      found = found;
      is = is;
      coefficients = e;
      constants = f;
      few = ltb-false 4000000 (term_count after) g;
    },
  )

  by_pivot : (pivot : Option Term) → pivot_of residual.terms ≡ pivot → Outcome (eliminate_by states residual pivot)
  by_pivot None found = inl (judged_refuses residual.constant (leb (unsigned_abs residual.constant) 64), refl)
  by_pivot (Some pivot) found = by_limits pivot found (solved_states states pivot (solved_for pivot residual)) refl _ _ _ refl refl refl

  pub outcome : Outcome (eliminate states residual)
  outcome = by_pivot (pivot_of residual.terms) refl

-- an equation that is not accepted changes nothing
pub eliminate-refused : (states : States) (residual : LinearForm) (answer : Equated) (new : States) → (answer, new) ≡ eliminate states residual → answer ≢ Accepted → new ≡ states
eliminate-refused states residual answer new exact refused =
    let P : Equated × States → Type 0 = λ e. Outcome states residual e in
    elim (subst P (sym exact) (outcome states residual)) [ inl left ↦ left.1 | inr taken ↦ absurd (refused taken.0) ]

-- what an accepted equation leaves
module _ (states : States) (residual : LinearForm) (pivot : Term) (accepted : (Accepted, solved_states states pivot (solved_for pivot residual)) ≡ eliminate states residual) where
  abbrev after : States
  after = solved_states states pivot (solved_for pivot residual)

  pub taken : IsTaken states residual after
  taken = elim (subst (Outcome states residual) (sym accepted) (outcome states residual)) [ inl left ↦ absurd (left.0 refl) | inr both ↦ both.1 ]

  -- a solved system
  pub IsSystem-taken : (order : StayInOrder) → IsResidual states residual → {names : List (Option (List ℕ))} (dependent old_terms : ℕ) → IsSystem states names dependent old_terms → IsSystem after names (dependent + 1) (term_count after)
  IsSystem-taken order is {names} dependent old_terms whole =
      let now = taken in
      let longer = length_after states residual is now.pivot now.found in
      let more = length-forms_in_after states residual is now.pivot now.found in
      let same_length : length after ≡ length states = ap length now.is ∙ longer in
      record {
        names_length = whole.names_length ∙ sym same_length;
        states_length = omega (arith, same_length, whole.states_length);
        dependent_count = ap (λ n. n + 1) whole.dependent_count ∙ sym (ap (λ s. length (forms_in s)) now.is ∙ more);
        terms_count = refl;
        solved =
            rw (now.is)
            (IsSolved-after states residual is now.pivot now.found order whole.solved
            (rw (sym now.is) now.coefficients) (rw (sym now.is) now.constants) (rw (sym now.is) now.few));
      }
