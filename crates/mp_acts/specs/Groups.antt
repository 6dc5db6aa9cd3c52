-- Groups, and the statements that change what symbols mean.
-- After Hobby, A User's Manual for MetaPost, sections 5 and 10, and Knuth, METAFONT: The Program, part 16.
use Rattle.std.specs.Prelude.{◌≡◌, ℕ, zero, suc, pos, List, [], ◌∷◌, ◌++◌, length, codes}
use Rattle.mp_symbols.specs.Tables.{Table}
use Rattle.mp_symbols.specs.Groups as table
use Rattle.mp_symbols.specs.declared.saved.Saved.{Saved}
use Rattle.mp_symbols.specs.declared.saved.Saved.TheVariants as saved
use Rattle.mp_symbols.specs.declared.closed.Closed.{Closed}
use Rattle.mp_symbols.specs.declared.closed.Closed.TheVariants as closed
use Rattle.mp_values.specs.Outcome.{Rule, ◌>>=◌, change}
use Rattle.mp_values.specs.declared.meaning.Meaning.{Meaning}
use Rattle.mp_values.specs.declared.meaning.Meaning.TheVariants as meaning
use Rattle.mp_values.specs.declared.value.Value.{Value}
use Rattle.mp_values.specs.declared.word.SymbolCommand.{SymbolCommand}
use Rattle.mp_values.specs.declared.word.SymbolCommand.TheVariants as word
use Rattle.mp_acts.specs.State.{State, symbol_meaning}
use Rattle.mp_acts.specs.Operators.{operand, known}
use Rattle.mp_acts.specs.Variables.{without_root, IsForgetting}

abbrev pub with_symbols : State → Table Meaning → State
with_symbols s symbols = record s { symbols = symbols }

-- a group begins
abbrev pub begin_group : State → State
begin_group s = with_symbols s (table.open_group s.symbols)

-- the variables of a tag that is taken away are forgotten
abbrev pub without_tag : Meaning → State → State
without_tag (meaning.Tag root) s = without_root root s
without_tag m s = s

abbrev pub forgotten : Closed Meaning → State → State
forgotten (closed.Meaning symbol given_up) s = without_tag given_up s
forgotten other s = s

-- one thing undone
abbrev pub undone : Saved Meaning → State → State
undone entry s = let answer = table.undo entry s.symbols in forgotten answer.0 (with_symbols s answer.1)

-- the things of the innermost group undone, the newest first
unfoldable pub undo_group : List (Saved Meaning) → State → State
undo_group [] s = s
undo_group (saved.Boundary ∷ older) s = with_symbols s (record s.symbols { saved = older })
undo_group (entry ∷ older) s = undo_group older (undone entry (with_symbols s (record s.symbols { saved = older })))

-- a group ends
unfoldable pub end_group : State → State
end_group s = undo_group s.symbols.saved s

-- the table after so many of the newest things that groups keep are undone
unfoldable pub undone_times : ℕ → Table Meaning → Table Meaning
undone_times zero symbols = symbols
undone_times (suc n) symbols = (table.close_group (undone_times n symbols)).1

-- what want of memory leaves of the end of a group: some things are undone, the newest first, and some variables of the
-- tags that were taken away by it are forgotten. Slots, what is known of unknowns, events and lines stay
pub record IsUndoneInPart (old new : State) : Type 0 where
  pub times : ℕ
  pub undone : new.symbols ≡ undone_times times old.symbols
  pub rest : IsForgetting (with_symbols old new.symbols) new

-- a symbol becomes a new tag, up to the end of the group; a number past the symbols changes nothing
unfoldable pub save : ℕ → State → State
save symbol s = with_symbols s (table.save s.symbols symbol meaning.NewTag)

-- what a symbol gets that is let have this meaning: a tag's copy is a new tag
abbrev pub copied : Meaning → Meaning
copied (meaning.Tag root) = meaning.NewTag
copied m = m

unfoldable pub let_symbol : ℕ → ℕ → State → State
let_symbol symbol other s = with_symbols s (table.with_symbol s.symbols symbol (copied (symbol_meaning s other)))

-- two symbols become a pair of delimiters
unfoldable pub delimiters : ℕ → ℕ → State → State
delimiters left right s =
    with_symbols s (table.with_symbol (table.with_symbol s.symbols
    left (meaning.Left (record { left = left; right = right })))
    right (meaning.Right (record { left = left; right = right })))

-- a symbol becomes a new internal, of value 0
unfoldable pub new_internal : ℕ → State → State
new_internal symbol s =
    with_symbols s (table.with_symbol (record s.symbols { internals = s.symbols.internals ++ pos 0 ∷ [] })
    symbol (meaning.Internal (length s.symbols.internals)))

-- what a word does to each symbol of its list
abbrev pub with_each : SymbolCommand → ℕ → State → State
with_each word.Save symbol s = save symbol s
with_each word.Newinternal symbol s = new_internal symbol s

-- an internal gets a known value, up to the end of the group; a number past the internals changes nothing
unfoldable pub interim : ℕ → Value → Rule State (Unit {0})
interim k v = do
  p ← operand (codes "interim") v
  value ← known (codes "interim") p
  change (λ s. with_symbols s (table.with_internal (table.save_internal s.symbols k) k value))
