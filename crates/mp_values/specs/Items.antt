-- The tokens of a file as items of a text.
use Rattle.std.specs.Prelude.{ℕ, List, [], ◌∷◌, ◌++◌, map}
use Rattle.mp_tokens.specs.declared.token.Token.{Token}
use Rattle.mp_tokens.specs.declared.token.Token.TheVariants as token
use Rattle.mp_values.specs.declared.item.Item.{Item}
use Rattle.mp_values.specs.declared.item.Item.TheVariants.{Symbol, Number, Text, Bad, LineEnd, FileEnd}

-- a token of that file as an item
abbrev pub item_of : ℕ → Token → Item
item_of file (token.Sym symbol) = Symbol symbol
item_of file (token.Num value) = Number value
item_of file (token.Text bytes) = Text bytes
item_of file (token.Bad cause) = Bad cause
item_of file (token.LineEnd line) = LineEnd (record { file = file; line = line })

-- the items of that file, with its end
abbrev pub file_items : ℕ → List Token → List Item
file_items file tokens = map (item_of file) tokens ++ FileEnd ∷ []
