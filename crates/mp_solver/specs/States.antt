-- What is known of the unknowns.
use Rattle.std.specs.Prelude.{ℕ, ◌+◌, ◌-◌, ◌≤◌, List, [], ◌∷◌, ◌++◌, Option, Some, None, All, cond, nat_lt, length, slice_index_or, slice_set}
use Rattle.mp_forms.specs.Forms.{LinearForm}
use Rattle.mp_solver.specs.declared.fresh.Fresh.{Fresh}
use Rattle.mp_solver.specs.declared.fresh.Fresh.TheVariants.{Made, Limit}
use Rattle.mp_solver.specs.declared.limits.TheConstants.{UNKNOWN_LIMIT}

-- for each unknown, by its serial, the form that it equals; none where it is independent
abbrev pub States : Type 0
States = List (Option LinearForm)

-- the form of an unknown; serials are counted from 1
abbrev pub form_of : States → ℕ → Option LinearForm
form_of states serial = slice_index_or states (serial - 1) None

-- the serial is one of these unknowns
abbrev pub IsSerial : States → ℕ → Type 0
IsSerial states serial = (1 ≤ serial) × (serial ≤ length states)

-- all unknowns of the form are among these
abbrev pub IsOver : States → LinearForm → Type 0
IsOver states p = All (λ t. IsSerial states t.serial) p.terms

-- the unknowns of a system, and the names that they have
pub record Unknowns : Type 0 where
  pub states : States
  pub names : List (Option (List ℕ))

-- a system as contracts see it: its unknowns, and how many more terms and forms there is room for
pub record Solver : Type 0 where
  pub unknowns : Unknowns
  pub spare : ℕ
  pub spare_lists : ℕ

-- the name of an unknown, where it has one
abbrev pub name_of : Unknowns → ℕ → Option (List ℕ)
name_of unknowns serial = slice_index_or unknowns.names (serial - 1) None

-- one more unknown, which is independent
abbrev pub with_fresh : States → States
with_fresh states = states ++ None ∷ []

-- one more unknown, of that name
abbrev pub with_unknown : Unknowns → List ℕ → Unknowns
with_unknown unknowns name = record { states = with_fresh unknowns.states; names = unknowns.names ++ Some name ∷ [] }

-- an unknown without its name
abbrev pub unnamed : Unknowns → ℕ → Unknowns
unnamed unknowns serial = record unknowns { names = slice_set unknowns.names (serial - 1) None }

-- the answer to one more unknown of a name, and the unknowns after it
abbrev pub fresh_of : Unknowns → List ℕ → Fresh × Unknowns
fresh_of unknowns name =
    cond (nat_lt (length unknowns.states) UNKNOWN_LIMIT)
    (Made (length unknowns.states + 1), with_unknown unknowns name)
    (Limit, unknowns)
