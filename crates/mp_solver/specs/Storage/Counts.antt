-- What a system counts, so as not to go over all its forms.
use Rattle.std.specs.Prelude.{◌≡◌, ℕ, ◌≤◌, List, Option, length}
use Rattle.mp_solver.specs.declared.limits.TheConstants.{UNKNOWN_LIMIT}
use Rattle.mp_solver.specs.States.{States}
use Rattle.mp_solver.specs.Elimination.{forms_in, term_count}
use Rattle.mp_solver.specs.Solved.{IsSolved}

-- a name or none for each unknown, so many forms and terms, and all equations solved
pub record IsSystem (states : States) (names : List (Option (List ℕ))) (dependent terms : ℕ) : Type 0 where
  pub names_length : length names ≡ length states
  pub states_length : length states ≤ UNKNOWN_LIMIT
  pub dependent_count : dependent ≡ length (forms_in states)
  pub terms_count : terms ≡ term_count states
  pub solved : IsSolved states
