-- What an equation is solved for, as the code holds it.
use Rattle.std.specs.Prelude.{◌≡◌, ℕ, false, cond, Option, Some, None, length}
use Rattle.mp_pool.specs.declared.Term.{Term}
use Rattle.mp_pool.specs.Terms.{AreTerms}
use Rattle.mp_forms.specs.Forms.{LinearForm}
use Rattle.mp_solver.specs.declared.solution.Solution.{Solution}
use Rattle.mp_solver.specs.declared.view.Replacement.{Replacement}
use Rattle.mp_solver.specs.declared.view.Replacement.TheVariants.{Absent, Changed, Overflows, TooLarge}
use Rattle.mp_solver.specs.Elimination.{replaced, has_large_coefficient, has_large_constant}

-- the pivot's new form, whose constant may be too large to be held
pub record IsSolution (solution : Solution) (new : LinearForm) : Type 0 where
  pub terms : solution.form.terms ≡ new.terms
  pub overflows : solution.overflows ≡ has_large_constant new
  pub constant : solution.overflows ≡ false → solution.form.constant ≡ new.constant

-- a form that stays in range where the unknown is replaced
pub record Stays (serial : ℕ) (new p : LinearForm) : Type 0 where
  pub terms : AreTerms p.terms
  pub coefficients : has_large_coefficient (replaced serial new p) ≡ false
  pub constant : has_large_constant (replaced serial new p) ≡ false

-- what replacing the unknown in the form p comes to, which has this term of it and becomes q
abbrev pub replacement_of : LinearForm → LinearForm → Option Term → Replacement
replacement_of p q None = Absent
replacement_of p q (Some t) = cond (has_large_coefficient q) TooLarge (cond (has_large_constant q) Overflows (Changed (length p.terms) (length q.terms)))
