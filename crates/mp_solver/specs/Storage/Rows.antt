-- Which forms hold an unknown, as the code holds it. The row of a form is its index among the states.
use Rattle.std.specs.Prelude.{◌≡◌, ◌+◌, ◌-◌, ◌<◌, ◌≤◌, ℕ, Bool, true, List, [], ◌∷◌, Option, None, Some, All, Contains, length, slice_index_or}
use Rattle.std.specs.List.Sorted.{IsStrictlyIncreasing}
use Rattle.mp_pool.specs.declared.Term.{Term}
use Rattle.mp_forms.specs.Forms.{LinearForm}
use Rattle.mp_solver.specs.States.{States}
use Rattle.mp_solver.specs.Storage.Counts.{IsSystem}

-- the terms of a state's form
abbrev pub terms_in : Option LinearForm → List Term
terms_in None = []
terms_in (Some p) = p.terms

-- for each unknown, by its serial, the rows of forms; a row may stand there twice, or without cause
abbrev pub Holders : Type 0
Holders = List (List ℕ)

-- the rows that are listed for an unknown; serials are counted from 1
abbrev pub holders_of : Holders → ℕ → List ℕ
holders_of holders serial = slice_index_or holders (serial - 1) []

-- the row is listed for each unknown of these terms
abbrev pub IsListedFor : Holders → ℕ → List Term → Type 0
IsListedFor holders row terms = All (λ t. Contains (holders_of holders t.serial) row) terms

-- each form is listed for each unknown in it
pub record AreListed (states : States) (holders : Holders) : Type 0 where
  pub each : (row : ℕ) (p : LinearForm) → slice_index_or states row None ≡ Some p → IsListedFor holders row p.terms

-- what is listed stays listed
pub record StaysListed (before after : Holders) : Type 0 where
  pub same_length : length after ≡ length before
  pub rows : (serial row : ℕ) → Contains (holders_of before serial) row → Contains (holders_of after serial) row

-- the form at this row, if there is one, is without the unknown
abbrev pub IsWithout : States → ℕ → ℕ → Type 0
IsWithout states serial row = (p : LinearForm) → slice_index_or states row None ≡ Some p → All (λ t. t.serial ≡ serial → ⊥) p.terms

-- rows that go up, from one on, and no form from there on that holds the unknown stands at another row
abbrev pub AreHolders : States → ℕ → ℕ → List ℕ → Type 0
AreHolders states serial from [] = (row : ℕ) → from ≤ row → IsWithout states serial row
AreHolders states serial from (next ∷ rows) =
    (from ≤ next) × ((row : ℕ) → from ≤ row → row < next → IsWithout states serial row) × AreHolders states serial (next + 1) rows

-- all rows of a kind, in order, each once; others may stand among them
pub record IsInOrder (kind : ℕ → Type 0) (rows : List ℕ) : Type 0 where
  pub rises : IsStrictlyIncreasing rows
  pub all : (row : ℕ) → kind row → Contains rows row

-- the counts of a system, and that its forms are listed where it says so
pub record IsIndexed (states : States) (names : List (Option (List ℕ))) (dependent terms : ℕ) (holders : Holders) (is_listed : Bool) : Type 0 where
  pub system : IsSystem states names dependent terms
  pub lists : length holders ≡ length states
  pub listed : is_listed ≡ true → AreListed states holders
