-- One step of the loop over the states, from what is added of the form there; and what reduced forms are added of.
use Rattle.std.proofs.Common.{◌≡◌, ℕ, ◌+◌, ◌-◌, ◌<◌, ◌≤◌, ◌^◌, min, unsigned_abs, Bool, true, false, ◌||◌, cond, ltb, ℤ, ◌+ℤ◌, List, [], ◌∷◌, Option, Some, None, Result, Ok, Err, zero, suc, map, length, get_or, take, drop, refl, sym, ap, ◌∙◌, subst, arith}
use Rattle.std.specs.List.{All, list_any, filter, fold}
use Rattle.std.specs.Option.{option_map, is_none}
use Rattle.std.specs.Result.{IfOk}
use Rattle.std.proofs.lemmas.Bool.{lt-leb}
use Rattle.std.proofs.lemmas.List.{take-append-drop}
use Rattle.std.proofs.lemmas.List.Folds.{list_any-append, list_any_none}
use Rattle.std.proofs.lemmas.List.Elements.{filter_map-append, All-nil, All-cons, All-head, All-tail, All-filter}
use Rattle.mp_pool.specs.declared.Term.{Term}
use Rattle.mp_forms.specs.declared.fault.FormFault.{FormFault}
use Rattle.mp_forms.specs.declared.fault.FormFault.TheVariants.{Overflow, CoefficientTooLarge}
use Rattle.mp_pool.specs.Ratios.{times_fraction}
use Rattle.mp_pool.specs.Terms.{sum_terms, is_too_large, AreTerms}
use Rattle.mp_forms.specs.Forms.{LinearForm, sum_of}
use Rattle.mp_solver.specs.declared.solution.Solution.{Solution}
use Rattle.mp_solver.specs.declared.view.Replacement.{Replacement}
use Rattle.mp_solver.specs.declared.view.Replacement.TheVariants.{Absent, Changed, Overflows, TooLarge}
use Rattle.mp_solver.specs.States.{States, form_of, IsSerial, IsOver}
use Rattle.mp_solver.specs.Reduction.{independent_part, with_form, with_term_of, reduce_of}
use Rattle.mp_solver.specs.Elimination.{term_of, replaced, forms_in, has_large_coefficient, has_large_constant}
use Rattle.mp_solver.specs.Storage.Solution.{IsSolution, replacement_of}
use Rattle.mp_solver.specs.Solved.{IsReduced, IsSolvedForm, IsSolved}
use Rattle.mp_solver.specs.Ready.{IsResidual}
use Rattle.mp_solver.proofs.ReducedLemmas.{reduce_of_reduced}
use Rattle.mp_solver.proofs.TermLists.{Each, Each-sum_terms}
use Rattle.mp_solver.specs.Storage.Tally.{IsTally}
use Rattle.mp_solver.proofs.SubstitutionLemmas.{Says, says, IsTally-unchanged, IsTally-changed, IsTally-overflows, any_next, unchanged_terms}

-- what holds of all forms holds of the form of one unknown
pub holds-at : (P : LinearForm → Type 0) (states : States) (i : ℕ) (p : LinearForm) → All P (forms_in states) → get_or states i None ≡ Some p → P p
holds-at P [] i p all some = absurd cc
holds-at P (None ∷ ss) zero p all some = absurd cc
holds-at P (Some q ∷ ss) zero p all some = let same : q ≡ p = cc in subst P same (All-head P q (forms_in ss) all)
holds-at P (None ∷ ss) (suc i) p all some = holds-at P ss i p all some
holds-at P (Some q ∷ ss) (suc i) p all some = holds-at P ss i p (All-tail P q (forms_in ss) all) some

pub small_form : (states : States) (p : LinearForm) → IsSolvedForm states p → (has_large_coefficient p ≡ false) × (has_large_constant p ≡ false)
small_form states p solved = (
  list_any_none is_too_large p.terms (λ i d lt. lt-leb (2 ^ 44) (unsigned_abs (get_or p.terms i d).coefficient) ((solved.terms.coefficients i d lt).1)),
  lt-leb (2 ^ 31) (unsigned_abs p.constant) solved.constant,
)

or_left : (a b : Bool) → (a || b) ≡ false → a ≡ false
or_left true b e = absurd cc
or_left false b e = refl

or_true_right : (a b : Bool) → b ≡ true → (a || b) ≡ true
or_true_right true b e = refl
or_true_right false b e = e

module _ (states : States) (solved : IsSolved states) (serial : ℕ) (new : LinearForm) (solution : Solution) (is : IsSolution solution new)
    (i : ℕ) (overflows : Bool) (unchanged added : ℕ) (so_far : IsTally states serial new i overflows unchanged added) (at : i < length states)
    (form : LinearForm) (some : get_or states i None ≡ Some form) (answer : Replacement) (answer_is : answer ≡ replacement_of form (replaced serial solution.form form) (term_of serial form.terms)) where
  held_is : solution.form ≡ record { constant = solution.form.constant; terms = new.terms }
  held_is = ap (λ ts. record { constant = solution.form.constant; terms = ts }) is.terms

  said : Says serial new solution.form.constant solution.overflows is.constant form (replaced serial new form) answer
  said = says serial new solution.form.constant solution.overflows is.constant form answer (answer_is ∙ ap (λ f. replacement_of form (replaced serial f form) (term_of serial form.terms)) held_is)

  said_of : (a : Replacement) → answer ≡ a → Says serial new solution.form.constant solution.overflows is.constant form (replaced serial new form) a
  said_of a same = subst (Says serial new solution.form.constant solution.overflows is.constant form (replaced serial new form)) same said

  fits_new : overflows ≡ false → solution.overflows ≡ false
  fits_new fits = is.overflows ∙ or_left (has_large_constant new) _ (sym so_far.overflow ∙ fits)

  pub step-unchanged : answer ≡ Absent → IsTally states serial new (i + 1) overflows unchanged added
  step-unchanged same =
      let small = small_form states form (holds-at (IsSolvedForm states) states i form solved.forms some) in
      IsTally-unchanged states serial new i overflows unchanged added so_far at form some (said_of Absent same) small.0 small.1

  -- the terms that the form had are among the unchanged ones
  pub step-enough : (m n : ℕ) → answer ≡ Changed m n → m ≤ unchanged
  step-enough m n same =
      let now = said_of (Changed m n) same in
      omega (arith, now.0, unchanged_terms states serial new i overflows unchanged added so_far at form some)

  pub step-changed : (m n less more : ℕ) → answer ≡ Changed m n → less ≡ unchanged - m → more ≡ min (added + n) 4000001 → IsTally states serial new (i + 1) overflows less more
  step-changed m n less more same fewer count =
      let now = said_of (Changed m n) same in
      IsTally-changed states serial new i overflows unchanged added so_far at form some m n less more now.0 now.1 now.2 (λ fits. now.3 (fits_new fits)) fewer count

  pub step-overflows : answer ≡ Overflows → IsTally states serial new (i + 1) true unchanged added
  step-overflows same =
      let now = said_of Overflows same in
      IsTally-overflows states serial new i overflows unchanged added so_far at form some now.0 (λ fits. now.1 (fits_new fits))

  pub step-too_large : answer ≡ TooLarge → list_any has_large_coefficient (forms_in (map (option_map (replaced serial new)) states)) ≡ true
  step-too_large same =
      let mapped : States = map (option_map (replaced serial new)) states in
      let here = any_next states serial new i overflows unchanged added so_far at form some has_large_coefficient in
      let large : list_any has_large_coefficient (forms_in (take (i + 1) mapped)) ≡ true = here ∙ or_true_right _ _ (said_of TooLarge same) in
      ap (λ ss. list_any has_large_coefficient (forms_in ss)) (sym (take-append-drop (i + 1) mapped))
      ∙ ap (list_any has_large_coefficient) (filter_map-append (λ form. form) (take (i + 1) mapped) (drop (i + 1) mapped))
      ∙ list_any-append has_large_coefficient (forms_in (take (i + 1) mapped)) (forms_in (drop (i + 1) mapped))
      ∙ ap (λ b. b || list_any has_large_coefficient (forms_in (drop (i + 1) mapped))) large

module _ (states : States) (solved : IsSolved states) where
  record IsFree (s : ℕ) : Type 0 where
    within : IsSerial states s
    independent : form_of states s ≡ None

  abbrev OkFree : Result LinearForm FormFault → Type 0
  OkFree (Ok p) = Each IsFree p.terms
  OkFree (Err fault) = Unit {0}

  free_cond : (a b : Bool) (p : LinearForm) → Each IsFree p.terms → OkFree (cond a (Err CoefficientTooLarge) (cond b (Ok p) (Err Overflow)))
  free_cond true b p some = tt
  free_cond false true p some = some
  free_cond false false p some = tt

  free_sum : (f : ℤ) (sum p : LinearForm) → Each IsFree sum.terms → Each IsFree p.terms → OkFree (sum_of f sum p)
  free_sum f sum p left right = free_cond (list_any is_too_large (sum_terms (times_fraction f) sum.terms p.terms)) (ltb (unsigned_abs (sum.constant +ℤ times_fraction f p.constant)) (2 ^ 31)) (record { constant = sum.constant +ℤ times_fraction f p.constant; terms = sum_terms (times_fraction f) sum.terms p.terms }) (Each-sum_terms IsFree (times_fraction f) sum.terms p.terms left right)

  free_form : (sum : LinearForm) (t : Term) (form : Option LinearForm) → form_of states t.serial ≡ form → Each IsFree sum.terms → OkFree (with_form sum t.coefficient form)
  free_form sum t None is some = some
  free_form sum t (Some form) is some =
      let form_solved = holds-at (IsSolvedForm states) states (t.serial - 1) form solved.forms is in
      free_sum t.coefficient sum form some (λ i d lt. record { within = form_solved.over i d lt; independent = form_solved.reduced i d lt })

  free_step : (start : Result LinearForm FormFault) (t : Term) → OkFree start → OkFree (with_term_of states start t)
  free_step (Err fault) t some = tt
  free_step (Ok sum) t some = free_form sum t (form_of states t.serial) refl some

  free_fold : (start : Result LinearForm FormFault) (ts : List Term) → OkFree start → OkFree (fold (with_term_of states) start ts)
  free_fold start [] some = some
  free_fold start (t ∷ ts) some = free_fold (with_term_of states start t) ts (free_step start t some)

  none_of : (o : Option LinearForm) → is_none o ≡ true → o ≡ None
  none_of None e = refl
  none_of (Some p) e = absurd cc

  independent_cond : (t : Term) (ts : List Term) (b : Bool) → is_none (form_of states t.serial) ≡ b → All (λ t. form_of states t.serial ≡ None) ts → All (λ t. form_of states t.serial ≡ None) (cond b (t ∷ ts) ts)
  independent_cond t ts true e rest = All-cons (λ t. form_of states t.serial ≡ None) t ts (none_of (form_of states t.serial) e) rest
  independent_cond t ts false e rest = rest

  independent_terms : (ts : List Term) → All (λ t. form_of states t.serial ≡ None) (filter (λ t. is_none (form_of states t.serial)) ts)
  independent_terms [] = All-nil (λ t. form_of states t.serial ≡ None)
  independent_terms (t ∷ ts) = independent_cond t _ (is_none (form_of states t.serial)) refl (independent_terms ts)

  frees : (p : LinearForm) → IsOver states p → OkFree (reduce_of states p)
  frees p over =
      free_fold (Ok (independent_part states p)) p.terms
      (λ i d lt. record { within = All-filter (λ t. is_none (form_of states t.serial)) (λ t. IsSerial states t.serial) p.terms over i d lt; independent = independent_terms p.terms i d lt })

  -- no dependent unknown is left in a form that was brought up to date
  pub reduced-reduce_of : (p : LinearForm) (answer : Result LinearForm FormFault) → IsOver states p → answer ≡ reduce_of states p → IfOk answer (IsReduced states)
  reduced-reduce_of p (Ok q) over is = λ i d lt. (subst OkFree (sym is) (frees p over) i d lt).independent
  reduced-reduce_of p (Err fault) over is = tt

  pub over-reduce_of : (p : LinearForm) (answer : Result LinearForm FormFault) → IsOver states p → answer ≡ reduce_of states p → IfOk answer (IsOver states)
  over-reduce_of p (Ok q) over is = λ i d lt. (subst OkFree (sym is) (frees p over) i d lt).within
  over-reduce_of p (Err fault) over is = tt

  -- and it is brought up to date no further
  pub again-reduce_of : (p : LinearForm) (answer : Result LinearForm FormFault) → IsOver states p → answer ≡ reduce_of states p → IfOk answer (λ q. reduce_of states q ≡ Ok q)
  again-reduce_of p (Ok q) over is = reduce_of_reduced states q (reduced-reduce_of p (Ok q) over is)
  again-reduce_of p (Err fault) over is = tt

  pub IsResidual-reduce_of : (p residual : LinearForm) → IsOver states p → Ok residual ≡ reduce_of states p → AreTerms residual.terms → IsResidual states residual
  IsResidual-reduce_of p residual over is are = record {
    terms = are;
    over = over-reduce_of p (Ok residual) over is;
    reduced = reduced-reduce_of p (Ok residual) over is;
  }

-- the form that is held is the new one, where nothing overflows
pub solution_is : (states : States) (serial : ℕ) (new : LinearForm) (solution : Solution) → IsSolution solution new → (i : ℕ) (overflows : Bool) (unchanged added : ℕ) → IsTally states serial new i overflows unchanged added → overflows ≡ false → solution.form ≡ new
solution_is states serial new solution is i overflows unchanged added tally fits =
    let none : solution.overflows ≡ false = is.overflows ∙ or_left (has_large_constant new) _ (sym tally.overflow ∙ fits) in
    ap (λ ts. record { constant = solution.form.constant; terms = ts }) is.terms ∙ ap (λ k. record { constant = k; terms = new.terms }) (is.constant none)
