-- An equation that was prepared, as the code holds it until it is taken.
use Rattle.std.specs.Prelude.{◌≡◌, ◌≢◌, ℕ, ◌+◌, ◌≤◌, Option, None, Some}
use Rattle.mp_pool.specs.declared.Term.{Term}
use Rattle.mp_forms.specs.Forms.{LinearForm}
use Rattle.mp_solver.specs.declared.equated.Equated.{Equated}
use Rattle.mp_solver.specs.declared.equated.Equated.TheVariants.{Accepted}
use Rattle.mp_solver.specs.declared.rewriting.Solved.{Solved}
use Rattle.mp_solver.specs.States.{States}
use Rattle.mp_solver.specs.Elimination.{pivot_of, solved_for, solved_states, term_count, eliminate}
use Rattle.mp_solver.specs.Ready.{IsResidual}
use Rattle.mp_solver.specs.Storage.Rows.{AreHolders}
use Rattle.mp_solver.specs.Storage.Tally.{IsEnough}

-- the pivot, its new form and the rows of the forms that may hold the pivot
pub record IsSolving (states : States) (residual : LinearForm) (answer : Equated) (cells lists : ℕ) (solved : Solved) : Type 0 where
  pub accepted : answer ≡ Accepted
  pub pivot : Term
  pub found : pivot_of residual.terms ≡ Some pivot
  pub serial : solved.serial ≡ pivot.serial
  pub form : solved.form ≡ solved_for pivot residual
  pub outcome : (Accepted, solved_states states pivot (solved_for pivot residual)) ≡ eliminate states residual
  pub enough_cells : IsEnough states pivot.serial (solved_for pivot residual) (cells + term_count states)
  pub enough_lists : 1 ≤ lists
  pub rows : AreHolders states solved.serial 0 solved.rows.items

-- the answer, and what an accepted equation is solved for
pub record IsReady (states : States) (residual : LinearForm) (answer : Equated) (solved : Option Solved) (cells lists : ℕ) : Type 0 where
  pub is_residual : IsResidual states residual
  pub refused : solved ≡ None → ((answer, states) ≡ eliminate states residual) × (answer ≢ Accepted)
  pub solving : (s : Solved) → solved ≡ Some s → IsSolving states residual answer cells lists s
