-- Unknowns that are gathered from variables.
use Rattle.std.specs.Prelude.{◌≡◌, ℕ, Bool, true, List, Some, ◌⊎◌}
use Rattle.std.specs.List.{list_any}
use Rattle.std.specs.Ordering.{is_eq, nat_cmp}
use Rattle.std.specs.declared.cmp.Ordering.{Ordering}
use Rattle.std.specs.FinMap.{FinMap, get}
use Rattle.mp_vartree.specs.Names.{name_cmp}
use Rattle.mp_vartree.specs.Variables.{made_for}
use Rattle.mp_vartree.specs.declared.entry.Variable.{Variable}

-- a number is in a list
abbrev pub has : ℕ → List ℕ → Bool
has n ns = list_any (λ k. is_eq (nat_cmp n k)) ns

module _ {K X : Type 0} {R : K → K → Ordering} (In : X → ℕ → Type 0) where
  -- an unknown is in what stands at a key that passes a test
  abbrev pub Occurs : FinMap R X → (K → Bool) → ℕ → Type 0
  Occurs m test n = (key : K) × (x : X) × (get m key ≡ Some x) × (test key ≡ true) × In x n

  -- numbers to which those unknowns were added
  pub record Gathers (old new : List ℕ) (m : FinMap R X) (test : K → Bool) : Type 0 where
    pub stays : (n : ℕ) → has n old ≡ true → has n new ≡ true
    pub all : (n : ℕ) → Occurs m test n → has n new ≡ true
    pub only : (n : ℕ) → has n new ≡ true → (has n old ≡ true) ⊎ Occurs m test n

-- an unknown was made for a variable
abbrev pub InVariable : Variable → ℕ → Type 0
InVariable x n = has n (made_for x) ≡ true

-- and for one of a group
abbrev pub InGroup : FinMap name_cmp Variable → ℕ → Type 0
InGroup group n = Occurs InVariable group (λ name. true) n
