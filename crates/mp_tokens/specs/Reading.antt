-- What the single steps of reading say. No public contract cites these.
use Rattle.std.specs.Prelude.{◌≡◌, ℕ, ◌≤◌, List, ◌++◌, length, take, drop, All, ⊤}
use Rattle.std.specs.Char.{IsAsciiDigit}
use Rattle.mp_scaled.specs.Decimal.{whole_digits, fraction_digits}
use Rattle.mp_symbols.specs.Tables.{Table}
use Rattle.mp_tokens.specs.Items.{Item, items_by, line_items, with_names_of, tokens_in}
use Rattle.mp_tokens.specs.declared.token.Token.{Token}
use Rattle.mp_tokens.specs.declared.lexeme.Extent.{Extent}
use Rattle.mp_tokens.specs.declared.lexeme.Kind.{Kind}
use Rattle.mp_tokens.specs.declared.lexeme.Kind.TheVariants as kind

-- names and tokens, with those of the items
pub record Took {M : Type 0} (first : M) (old new : Table M) (before after : List Token) (items : List Item) : Type 0 where
  pub names : new ≡ with_names_of first old items
  pub tokens : after ≡ before ++ tokens_in new.names items

-- bytes that can make that
abbrev pub Fits : Kind → List ℕ → Type 0
Fits kind.Number text = All IsAsciiDigit (whole_digits text) × All IsAsciiDigit (fraction_digits text)
Fits kind.Text text = 2 ≤ length text
Fits other text = ⊤

-- the first lexeme of a line, and what it takes of the line's items
pub record IsFirst (line : List ℕ) (first : Extent) : Type 0 where
  pub some : 1 ≤ first.length
  pub within : first.length ≤ length line
  pub fits : Fits first.kind (take first.length line)
  pub items : line_items line ≡ items_by first.kind (take first.length line) ++ line_items (drop first.length line)
