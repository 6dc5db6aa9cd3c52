-- Where a stack has its first end of a line, and its first turn.
use Rattle.std.specs.Prelude.{◌≡◌, ◌≢◌, ◌<◌, ◌+◌, ℕ, List, ◌++◌, Option, Some, None, length, drop, take, slice_index_or}
use Rattle.mp_report.specs.declared.place.Place.{Place}
use Rattle.mp_values.specs.declared.turn.Pending.{Pending}
use Rattle.mp_input.specs.declared.entry.Entry.{Entry}
use Rattle.mp_input.specs.Entries.{entry_items, left_of}
use Rattle.mp_input.specs.Lines.{first_line, end_file_after_line}
use Rattle.mp_input.specs.Loops.{leave_loop}

-- the entry at an index has the first end of a line
pub record HasFirstLine (es : List Entry) (i : ℕ) (place : Place) : Type 0 where
  pub within : i < length es
  pub above : first_line (left_of (drop (i + 1) es)) ≡ None
  pub here : first_line (left_of es) ≡ Some place
  pub has : (d : Entry) → first_line (entry_items (slice_index_or es i d)) ≡ Some place

abbrev pub LineEntry : List Entry → Option (ℕ × Place) → Type 0
LineEntry es None = first_line (left_of es) ≡ None
LineEntry es (Some found) = HasFirstLine es found.0 found.1

-- one entry in place of another ends its file after its first line, whatever stands below
abbrev pub EndsAfterLine : Entry → Entry → Type 0
EndsAfterLine old new = first_line (entry_items old) ≢ None → (below : List Pending) → end_file_after_line (entry_items old ++ below) ≡ entry_items new ++ below

-- the entry at an index is the first turn, with that number of conditions
abbrev pub TurnEntry : List Entry → Option (ℕ × ℕ) → Type 0
TurnEntry es None = leave_loop (left_of es) ≡ None
TurnEntry es (Some found) = leave_loop (left_of es) ≡ Some (found.1, left_of (take found.0 es))
