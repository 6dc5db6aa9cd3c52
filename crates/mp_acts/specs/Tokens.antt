-- The names that a file brings.
use Rattle.std.specs.Prelude.{◌≡◌, ℕ, List, ◌++◌}
use Rattle.mp_tokens.specs.Items.{Item, file_items, with_names_of}
use Rattle.mp_values.specs.declared.meaning.Meaning.TheVariants.{NewTag}
use Rattle.mp_acts.specs.State.{State}

-- the state with the names of items; a new name is a new tag
abbrev pub with_names_in : State → List Item → State
with_names_in s items = record s { symbols = with_names_of NewTag s.symbols items }

-- the state with the names of a file
abbrev pub with_file : State → List ℕ → State
with_file s bytes = with_names_in s (file_items bytes)

-- the state gains the names of some first part of the items
pub record GainsSomeNames (old new : State) (items : List Item) : Type 0 where
  pub done : List Item
  pub left : List Item
  pub split : items ≡ done ++ left
  pub names : new ≡ with_names_in old done
