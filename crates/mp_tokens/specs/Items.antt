-- The items of a file and of a string, and the tokens that stand for them.
-- After Knuth, METAFONT: The Program, part 33; the ends of lines and bad tokens as items are this project's own.
use Rattle.std.specs.Prelude.{◌≡◌, ℕ, ℤ, ◌+◌, ◌-◌, ◌<◌, List, [], ◌∷◌, ◌++◌, length, take, drop, fold, map, unwrap_or, Result, Ok, Err, ⊤}
use Rattle.std.specs.List.{flat_map}
use Rattle.mp_scaled.specs.Decimal.{decimal_of}
use Rattle.mp_scaled.specs.declared.decimal.TooLarge.{TooLarge}
use Rattle.mp_symbols.specs.Names.{Names, number_in, with_name}
use Rattle.mp_symbols.specs.Tables.{Table}
use Rattle.mp_tokens.specs.Lines.{lines}
use Rattle.mp_tokens.specs.Lexemes.{lexemes}
use Rattle.mp_tokens.specs.declared.token.BadToken.{BadToken}
use Rattle.mp_tokens.specs.declared.token.BadToken.TheVariants.{Enormous}
use Rattle.mp_tokens.specs.declared.token.Token.{Token}
use Rattle.mp_tokens.specs.declared.token.Token.TheVariants as token
use Rattle.mp_tokens.specs.declared.lexeme.Kind.{Kind}
use Rattle.mp_tokens.specs.declared.lexeme.Kind.TheVariants as kind

-- a token, with a name in place of its number
pub data Item : Type 0 where
  Symbol : List ℕ → Item
  Number : ℤ → Item
  Quoted : List ℕ → Item
  Bad : BadToken → Item
  LineEnd : ℕ → Item

abbrev pub number_item : Result ℤ TooLarge → Item
number_item (Ok value) = Number value
number_item (Err e) = Bad Enormous

-- the bytes between the first and the last
abbrev pub inner : List ℕ → List ℕ
inner text = take (length text - 2) (drop 1 text)

-- the item that bytes make, if any
abbrev pub items_by : Kind → List ℕ → List Item
items_by kind.Symbol text = Symbol text ∷ []
items_by kind.Number text = number_item (decimal_of text) ∷ []
items_by kind.Text text = Quoted (inner text) ∷ []
items_by (kind.Bad cause) text = Bad cause ∷ []
items_by kind.Blank text = []

-- the items of a line
abbrev pub line_items : List ℕ → List Item
line_items line = flat_map (λ lexeme. items_by lexeme.kind lexeme.text) (lexemes line)

-- the items of lines, the first of which has that number: each line's, and behind them its end
abbrev pub lines_items : ℕ → List (List ℕ) → List Item
lines_items n [] = []
lines_items n (line ∷ more) = line_items line ++ LineEnd n ∷ lines_items (n + 1) more

-- the items of a file; its lines count from 1
abbrev pub file_items : List ℕ → List Item
file_items bytes = lines_items 1 (lines bytes)

-- the items of a string: those of one line without an end
abbrev pub string_items : List ℕ → List Item
string_items bytes = line_items bytes

module _ {M : Type 0} where
  -- the names with that of an item, if it has one
  abbrev pub with_item : M → Names M → Item → Names M
  with_item first names (Symbol name) = with_name names name first
  with_item first names item = names

  -- the names with those of items, the new ones in the order in which they first come
  abbrev pub with_items : M → Names M → List Item → Names M
  with_items first names items = fold (with_item first) names items

  -- a table that gains the names of items; all else of it stays
  abbrev pub with_names_of : M → Table M → List Item → Table M
  with_names_of first table items = record table { names = with_items first table.names items }

  -- the token of an item whose name is there
  abbrev pub token_in : Names M → Item → Token
  token_in names (Symbol name) = token.Sym (unwrap_or (number_in names name) 0)
  token_in names (Number value) = token.Num value
  token_in names (Quoted text) = token.Text text
  token_in names (Bad cause) = token.Bad cause
  token_in names (LineEnd n) = token.LineEnd n

  -- the tokens of items, by the numbers of their names
  abbrev pub tokens_in : Names M → List Item → List Token
  tokens_in names items = map (token_in names) items

  -- the number of the token, if that is a symbol, is that of a name
  abbrev pub IsNumbered : Names M → Token → Type 0
  IsNumbered names (token.Sym symbol) = symbol < length names
  IsNumbered names other = ⊤

  -- the table gains the names of some first part of the items
  pub record GainsSome (first : M) (old new : Table M) (items : List Item) : Type 0 where
    pub done : List Item
    pub left : List Item
    pub split : items ≡ done ++ left
    pub names : new ≡ with_names_of first old done
