-- What groups save, and how it is undone.
-- After Knuth, METAFONT: The Program, part 16.
use Rattle.std.specs.Prelude.{ℕ, ℤ, Option, Some, None, Bool, true, false, List, [], ◌∷◌, unwrap_or, if◌then◌else◌, slice_get, slice_set, ◌<◌, length, ⊤}
use Rattle.mp_symbols.specs.Names.{meaning_in, with_meaning}
use Rattle.mp_symbols.specs.Tables.{Table, is_open}
use Rattle.mp_symbols.specs.declared.saved.Saved.{Saved}
use Rattle.mp_symbols.specs.declared.saved.Saved.TheVariants.{Boundary, Meaning, Number}
use Rattle.mp_symbols.specs.declared.closed.Closed.{Closed}
use Rattle.mp_symbols.specs.declared.closed.Closed.TheVariants as closed

module _ {M : Type 0} where
  -- the names with another meaning of a symbol
  abbrev pub with_symbol : Table M → ℕ → M → Table M
  with_symbol table symbol new = record table { names = with_meaning table.names symbol new }

  -- the internals with another value of one
  abbrev pub with_internal : Table M → ℕ → ℤ → Table M
  with_internal table k value = record table { internals = slice_set table.internals k value }

  -- the table with one more thing to undo, if a group is open
  abbrev pub with_saved_in_group : Table M → Saved M → Table M
  with_saved_in_group table entry = record table { saved = if is_open table.saved then entry ∷ table.saved else table.saved }

  -- a group begins
  abbrev pub open_group : Table M → Table M
  open_group table = record table { saved = Boundary ∷ table.saved }

  -- a symbol that has that meaning, if it has one, gets a fresh one, and the old one back when the group ends
  abbrev pub save_by : Option M → Table M → ℕ → M → Table M
  save_by None table symbol fresh = table
  save_by (Some old) table symbol fresh = with_symbol (with_saved_in_group table (Meaning symbol old)) symbol fresh

  abbrev pub save : Table M → ℕ → M → Table M
  save table symbol fresh = save_by (meaning_in table.names symbol) table symbol fresh

  -- an internal gets its present value back when the group ends
  abbrev pub save_internal_by : Option ℤ → Table M → ℕ → Table M
  save_internal_by None table k = table
  save_internal_by (Some value) table k = with_saved_in_group table (Number k value)

  abbrev pub save_internal : Table M → ℕ → Table M
  save_internal table k = save_internal_by (slice_get table.internals k) table k

  -- the entry undone in a table, and what is answered of it
  abbrev pub undo : Saved M → Table M → Closed M × Table M
  undo Boundary table = (closed.Boundary, table)
  undo (Meaning symbol old) table = (closed.Meaning symbol (unwrap_or (meaning_in table.names symbol) old), with_symbol table symbol old)
  undo (Number k old) table = (closed.Number k, with_internal table k old)

  abbrev pub close_by : List (Saved M) → Table M → Closed M × Table M
  close_by [] table = (closed.NoGroup, table)
  close_by (entry ∷ older) table = undo entry (record table { saved = older })

  -- the newest entry undone
  abbrev pub close_group : Table M → Closed M × Table M
  close_group table = close_by table.saved table

  -- nothing is left to undo in the innermost group
  abbrev pub starts_group : List (Saved M) → Bool
  starts_group (Boundary ∷ older) = true
  starts_group other = false

  -- the symbol or the internal of an answer is one of the table's
  abbrev pub IsKnown : Table M → Closed M → Type 0
  IsKnown table (closed.Meaning symbol given_up) = symbol < length table.names
  IsKnown table (closed.Number k) = k < length table.internals
  IsKnown table other = ⊤
