-- The answer to an equation, once the pivot's new form has replaced it everywhere.
use Rattle.std.proofs.Common.{◌≡◌, ℕ, ◌+◌, ◌-◌, ◌<◌, ◌≤◌, ◌^◌, unsigned_abs, Bool, true, false, ◌||◌, Some, map, length, get_or, take, drop, refl, sym, ap, ◌∙◌, subst, arith}
use Rattle.std.specs.List.{list_any}
use Rattle.std.specs.Option.{option_map}
use Rattle.std.proofs.lemmas.Bool.{lt-ltb, le-ltb, lt-leb}
use Rattle.std.proofs.lemmas.List.{take_all, length-map, drop_all}
use Rattle.std.proofs.lemmas.List.Folds.{list_any_none}
use Rattle.mp_pool.specs.declared.Term.{Term}
use Rattle.mp_pool.specs.Terms.{is_too_large}
use Rattle.mp_forms.specs.Forms.{LinearForm}
use Rattle.mp_solver.specs.declared.rewriting.Solved.{Solved}
use Rattle.mp_solver.specs.declared.equated.Equated.TheVariants.{Accepted, CoefficientTooLarge, Overflow, Limit}
use Rattle.mp_solver.specs.States.{States}
use Rattle.mp_solver.specs.Elimination.{pivot_of, solved_for, replaced, solved_states, forms_in, has_large_coefficient, has_large_constant, term_count, answer_by_limits, eliminate, eliminate_by}
use Rattle.mp_solver.specs.Ready.{IsResidual}
use Rattle.mp_solver.specs.Storage.Rows.{AreHolders}
use Rattle.mp_solver.specs.Storage.Taking.{IsSolving, IsReady}
use Rattle.mp_solver.proofs.EliminationLemmas.{list_any-set, term_count-set, slot_within, slot_empty, new_small as small_terms}
use Rattle.mp_solver.specs.Storage.Tally.{IsTally, IsEnough}

module _ (states : States) (residual : LinearForm) (is : IsResidual states residual) (pivot : Term) (found : pivot_of residual.terms ≡ Some pivot) where
  abbrev new : LinearForm
  new = solved_for pivot residual

  abbrev mapped : States
  mapped = map (option_map (replaced pivot.serial new)) states

  abbrev after : States
  after = solved_states states pivot new

  any_after : (test : LinearForm → Bool) → list_any test (forms_in after) ≡ (test new || list_any test (forms_in mapped))
  any_after test = list_any-set test mapped (pivot.serial - 1) new (slot_within states residual is pivot found) (slot_empty states residual is pivot found)

  new_small : has_large_coefficient new ≡ false
  new_small =
      list_any_none is_too_large new.terms (λ i d lt. lt-leb (2 ^ 44) (unsigned_abs (get_or new.terms i d).coefficient) (small_terms states residual is pivot found i d lt))

  by_limits : eliminate states residual ≡ answer_by_limits states after
  by_limits = ap (eliminate_by states residual) found

  -- some form has too large a coefficient
  pub answer-too_large : list_any has_large_coefficient (forms_in mapped) ≡ true → (CoefficientTooLarge, states) ≡ eliminate states residual
  answer-too_large large =
      let some : list_any has_large_coefficient (forms_in after) ≡ true = any_after has_large_coefficient ∙ rw (new_small, large) refl in
      sym (by_limits ∙ rw some refl)

  module _ (i : ℕ) (all : length states ≤ i) (overflows : Bool) (unchanged added : ℕ) (tally : IsTally states pivot.serial new i overflows unchanged added) where
    whole : take i mapped ≡ mapped
    whole = let same = length-map states (option_map (replaced pivot.serial new)) in take_all i mapped (omega (arith, all, same))

    coefficients : list_any has_large_coefficient (forms_in after) ≡ false
    coefficients = any_after has_large_coefficient ∙ ap (λ b. b || list_any has_large_coefficient (forms_in mapped)) new_small ∙ ap (λ ss. list_any has_large_coefficient (forms_in ss)) (sym whole) ∙ tally.small

    constants : list_any has_large_constant (forms_in after) ≡ overflows
    constants = any_after has_large_constant ∙ ap (λ ss. has_large_constant new || list_any has_large_constant (forms_in ss)) (sym whole) ∙ sym tally.overflow

    pub answer-overflow : overflows ≡ true → (Overflow, states) ≡ eliminate states residual
    answer-overflow over = sym (by_limits ∙ rw (coefficients, constants, over) refl)

    -- the terms that are unchanged and those that are added
    count : overflows ≡ false → (unchanged + added ≤ 4000000 → unchanged + added ≡ term_count after) × (4000000 < unchanged + added → 4000000 < term_count after)
    count fits =
        let before = tally.counted fits in
        let added_is = before.added_is in
        let total_is = before.total_is in
        let total : term_count (take i mapped) ≡ term_count mapped = ap term_count whole in
        let rest : term_count (drop i states) ≡ 0 = ap term_count (drop_all i states all) in
        let sum = term_count-set mapped (pivot.serial - 1) new (slot_within states residual is pivot found) (slot_empty states residual is pivot found) in
        (λ within. omega (arith, added_is, total_is, total, rest, sum, within), λ many. omega (arith, added_is, total_is, total, rest, sum, many))

    pub answer-limit : overflows ≡ false → 4000000 < unchanged + added → (Limit, states) ≡ eliminate states residual
    answer-limit fits many = sym (by_limits ∙ rw (coefficients, constants, fits, lt-ltb 4000000 (term_count after) ((count fits).1 many)) refl)

    -- all forms are within the limits
    pub IsReady-accepted : (solved : Solved) (cells : ℕ) → overflows ≡ false → IsEnough states pivot.serial new (cells + term_count states)
        → solved.serial ≡ pivot.serial → solved.form ≡ new → AreHolders states pivot.serial 0 solved.rows.items
        → unchanged + added ≤ 4000000 →
        IsReady states residual Accepted (Some solved) cells 1
    IsReady-accepted solved cells fits enough serial_is form_is rows few =
        let counted = (count fits).0 few in
        let less : term_count after ≤ 4000000 = omega (arith, counted, few) in
        record {
          is_residual = is;
          refused = λ none. absurd cc;
          solving = λ s some.
              let same : solved ≡ s = cc in
              subst (IsSolving states residual Accepted cells 1) same (record {
                accepted = refl;
                pivot = pivot;
                found = found;
                serial = serial_is;
                form = form_is;
                outcome = sym (by_limits ∙ rw (coefficients, constants, fits, le-ltb 4000000 (term_count after) less) refl);
                enough_cells = enough;
                enough_lists = omega arith;
                rows = rw serial_is rows;
              });
        }
