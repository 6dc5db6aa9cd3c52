-- What the items of a definition are.
use Rattle.std.specs.Prelude.{ℕ, List, [], unwrap_or, codes}
use Rattle.mp_symbols.specs.Names.{Names, name_in, meaning_in}
use Rattle.mp_values.specs.declared.item.Item.{Item}
use Rattle.mp_values.specs.declared.item.Item.TheVariants as item
use Rattle.mp_values.specs.declared.meaning.Meaning.{Meaning}
use Rattle.mp_values.specs.declared.meaning.Meaning.TheVariants as meaning
use Rattle.mp_macro.specs.declared.sign.Sign.{Sign}
use Rattle.mp_macro.specs.declared.sign.Sign.TheVariants as sign

-- the names with their meanings, by which a definition is read
abbrev pub Table : Type 0
Table = Names Meaning

-- what a symbol that means this is
abbrev pub sign_of_meaning : ℕ → Meaning → Sign
sign_of_meaning symbol (meaning.Word w) = sign.Word w
sign_of_meaning symbol meaning.NewTag = sign.Part symbol
sign_of_meaning symbol (meaning.Tag root) = sign.Part symbol
sign_of_meaning symbol (meaning.Internal k) = sign.Part symbol
sign_of_meaning symbol (meaning.Left pair) = sign.Left pair
sign_of_meaning symbol (meaning.Right pair) = sign.Right pair
sign_of_meaning symbol (meaning.Unbuilt name) = sign.Symbol
sign_of_meaning symbol (meaning.Macro m) = sign.Symbol

-- a symbol past the table is a new tag
abbrev pub sign_of_symbol : Table → ℕ → Sign
sign_of_symbol table symbol = sign_of_meaning symbol (unwrap_or (meaning_in table symbol) meaning.NewTag)

abbrev pub sign_of : Table → Item → Sign
sign_of table (item.Symbol symbol) = sign_of_symbol table symbol
sign_of table (item.Number n) = sign.Number
sign_of table x = sign.Operand

abbrev pub name_of : Table → ℕ → List ℕ
name_of table symbol = unwrap_or (name_in table symbol) []

-- what stood where something else was wanted
abbrev pub stood : Table → Item → List ℕ
stood table (item.Symbol symbol) = name_of table symbol
stood table (item.Number n) = codes "number"
stood table (item.Text bytes) = codes "string"
stood table x = codes "value"
