-- A table of names: each name with its meaning, in the order of their numbers.
use Rattle.std.specs.Prelude.{ℕ, zero, suc, List, [], ◌∷◌, ◌++◌, is_some, cond, Option, position, slice_get}
use Rattle.std.specs.Option.{option_map}
use Rattle.std.specs.Str.{bytes_eq}

abbrev pub Names : Type 0 → Type 0
Names M = List (List ℕ × M)

module _ {M : Type 0} where
  -- the number of a name, where the table has it
  abbrev pub number_in : Names M → List ℕ → Option ℕ
  number_in names name = position (λ entry. bytes_eq name entry.0) names

  -- the name with a number
  abbrev pub name_in : Names M → ℕ → Option (List ℕ)
  name_in names number = option_map (λ entry. entry.0) (slice_get names number)

  -- the meaning of the name with a number
  abbrev pub meaning_in : Names M → ℕ → Option M
  meaning_in names number = option_map (λ entry. entry.1) (slice_get names number)

  -- the table with a name: one that is there keeps its number and its meaning, and a new one goes last
  abbrev pub with_name : Names M → List ℕ → M → Names M
  with_name names name fresh = cond (is_some (number_in names name)) names (names ++ (name, fresh) ∷ [])

  -- the table with another meaning of the name with a number
  abbrev pub with_meaning : Names M → ℕ → M → Names M
  with_meaning [] number new = []
  with_meaning (entry ∷ more) zero new = (entry.0, new) ∷ more
  with_meaning (entry ∷ more) (suc number) new = entry ∷ with_meaning more number new
