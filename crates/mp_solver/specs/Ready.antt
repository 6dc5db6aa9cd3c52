-- An equation that was brought up to date, until it is taken.
use Rattle.std.specs.Prelude.{◌≡◌, ◌≤◌, ℕ, Result, Ok, Err}
use Rattle.mp_forms.specs.declared.fault.FormFault.{FormFault}
use Rattle.mp_pool.specs.Terms.{AreTerms}
use Rattle.mp_forms.specs.Forms.{LinearForm}
use Rattle.mp_solver.specs.States.{States, Unknowns, Solver, IsOver}
use Rattle.mp_solver.specs.Solved.{IsReduced}

-- a difference that was brought up to date, the unknowns that this was done for, and how many more terms and forms there
-- has to be room for
pub record Prepared : Type 0 where
  pub residual : LinearForm
  pub unknowns : Unknowns
  pub cells : ℕ
  pub lists : ℕ

-- what is prepared of a difference that was brought up to date, or refused
abbrev pub IsPrepared : Unknowns → Result LinearForm FormFault → Result Prepared FormFault → Type 0
IsPrepared unknowns (Ok residual) (Ok ready) = (ready.residual ≡ residual) × (ready.unknowns ≡ unknowns)
IsPrepared unknowns (Ok residual) (Err fault) = ⊥
IsPrepared unknowns (Err fault) (Ok ready) = ⊥
IsPrepared unknowns (Err fault) (Err other) = other ≡ fault

-- there is room for what a prepared equation needs
abbrev pub HasRoom : Solver → Prepared → Type 0
HasRoom system ready = (ready.cells ≤ system.spare) × (ready.lists ≤ system.spare_lists)

-- an up-to-date form over these unknowns
pub record IsResidual (states : States) (residual : LinearForm) : Type 0 where
  pub terms : AreTerms residual.terms
  pub over : IsOver states residual
  pub reduced : IsReduced states residual
