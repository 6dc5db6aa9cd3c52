-- What values, items and meanings speak of by number.
use Rattle.std.specs.Prelude.{◌≤◌, ℕ, max, List, [], ◌∷◌}

-- so many of each
pub record Counts : Type 0 where
  pub unknowns : ℕ
  pub slots : ℕ
  pub symbols : ℕ
  pub internals : ℕ

abbrev pub nothing : Counts
nothing = record { unknowns = 0; slots = 0; symbols = 0; internals = 0 }

-- the greater number of each
abbrev pub most : Counts → Counts → Counts
most a b = record {
  unknowns = max a.unknowns b.unknowns;
  slots = max a.slots b.slots;
  symbols = max a.symbols b.symbols;
  internals = max a.internals b.internals;
}

-- the greatest number of each that a list asks for
unfoldable pub greatest : {A : Type 0} → (A → Counts) → List A → Counts
greatest f [] = nothing
greatest f (x ∷ xs) = most (f x) (greatest f xs)

-- of each there are as many at least
pub record IsWithin (few many : Counts) : Type 0 where
  pub unknowns : few.unknowns ≤ many.unknowns
  pub slots : few.slots ≤ many.slots
  pub symbols : few.symbols ≤ many.symbols
  pub internals : few.internals ≤ many.internals
