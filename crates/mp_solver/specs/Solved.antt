-- The systems that the calls make: every equation is solved.
use Rattle.std.specs.Prelude.{◌≡◌, ◌≤◌, ◌<◌, ◌^◌, unsigned_abs, None, All}
use Rattle.mp_pool.specs.Terms.{AreTerms}
use Rattle.mp_forms.specs.Forms.{LinearForm}
use Rattle.mp_solver.specs.declared.limits.TheConstants.{TERM_LIMIT}
use Rattle.mp_solver.specs.States.{States, form_of, IsOver}
use Rattle.mp_solver.specs.Elimination.{forms_in, term_count}

-- all unknowns of the form are independent
abbrev pub IsReduced : States → LinearForm → Type 0
IsReduced states p = All (λ t. form_of states t.serial ≡ None) p.terms

pub record IsSolvedForm (states : States) (p : LinearForm) : Type 0 where
  pub terms : AreTerms p.terms
  pub constant : unsigned_abs p.constant < 2 ^ 31
  pub over : IsOver states p
  pub reduced : IsReduced states p

-- no dependent unknown occurs in any dependent form, and the forms are within the limits
pub record IsSolved (states : States) : Type 0 where
  pub forms : All (IsSolvedForm states) (forms_in states)
  pub few_terms : term_count states ≤ TERM_LIMIT
