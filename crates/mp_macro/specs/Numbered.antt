-- Symbols that are numbered below a bound, as those of a table are below the count of its names.
use Rattle.std.specs.Prelude.{◌<◌, ⊤, ℕ, Ok, Err}
use Rattle.mp_values.specs.Outcome.{Outcome}
use Rattle.mp_values.specs.declared.item.Item.{Item}
use Rattle.mp_values.specs.declared.item.Item.TheVariants as item
use Rattle.mp_macro.specs.Signs.{Table}
use Rattle.mp_macro.specs.Headings.{Reading}
use Rattle.mp_macro.specs.Definitions.{read}

-- an item that is no symbol, or one below the bound
abbrev pub IsBelow : ℕ → Item → Type 0
IsBelow n (item.Symbol symbol) = symbol < n
IsBelow n other = ⊤

-- what is left defines a symbol below the bound, be it of an item that was read or of one that was refused
abbrev pub KeepsBelow : {A : Type 0} → ℕ → Outcome Reading A → Type 0
KeepsBelow n (Ok done) = done.1.symbol < n
KeepsBelow n (Err refused) = refused.1.symbol < n

-- where the symbol that is defined so far and the item's are below the bound, that which is then defined is
abbrev pub SymbolsStayNumbered : Type 0
SymbolsStayNumbered = (n : ℕ) (table : Table) (x : Item) (r : Reading) → r.symbol < n → IsBelow n x → KeepsBelow n (read table x r)
