-- A form without dependent unknowns is up to date already.
use Rattle.std.proofs.Common.{◌≡◌, List, [], ◌∷◌, Option, None, Result, Ok, refl, ap, ◌∙◌}
use Rattle.std.specs.Prelude.{fold, filter, is_none}
use Rattle.std.specs.List.{AllByRecursion as ByRecursion}
use Rattle.std.proofs.lemmas.List.Elements.{recursion_from_All}
use Rattle.mp_pool.specs.declared.Term.{Term}
use Rattle.mp_forms.specs.declared.fault.FormFault.{FormFault}
use Rattle.mp_forms.specs.Forms.{LinearForm}
use Rattle.mp_solver.specs.States.{States, form_of}
use Rattle.mp_solver.specs.Reduction.{independent_part, with_form, with_term_of, reduce_of}
use Rattle.mp_solver.specs.Solved.{IsReduced}

module _ (states : States) where
  abbrev IsFree : Term → Type 0
  IsFree t = form_of states t.serial ≡ None

  all_free : (ts : List Term) → ByRecursion IsFree ts → filter (λ t. is_none (form_of states t.serial)) ts ≡ ts
  all_free [] free = refl
  all_free (t ∷ ts) free = rw (free.0) (ap (λ us. t ∷ us) (all_free ts free.1))

  none_added : (sum : LinearForm) (ts : List Term) → ByRecursion IsFree ts → fold (with_term_of states) (Ok sum) ts ≡ Ok sum
  none_added sum [] free = refl
  none_added sum (t ∷ ts) free =
      ap (λ (f : Option LinearForm). fold (with_term_of states) (with_form sum t.coefficient f) ts) free.0 ∙ none_added sum ts free.1

  pub reduce_of_reduced : (p : LinearForm) → IsReduced states p → reduce_of states p ≡ Ok p
  reduce_of_reduced p reduced =
      let free : ByRecursion IsFree p.terms = recursion_from_All IsFree p.terms reduced in
      let same : independent_part states p ≡ p = ap (λ (ts : List Term). record { constant = p.constant; terms = ts }) (all_free p.terms free) in
      let start : LinearForm → Result LinearForm FormFault = λ q. Ok q in
      none_added (independent_part states p) p.terms free ∙ ap start same
