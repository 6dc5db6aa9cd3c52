-- What contracts see of an input, and what its calls do.
use Rattle.std.specs.Prelude.{◌≡◌, ℕ, List, [], ◌∷◌, Option, Some, None, Result, Ok, Err}
use Rattle.mp_report.specs.declared.place.Place.{Place}
use Rattle.mp_scaled.specs.declared.no_memory.NoMemory.{NoMemory}
use Rattle.mp_values.specs.declared.turn.Pending.{Pending}
use Rattle.mp_input.specs.declared.input.NoLoop.{NoLoop}
use Rattle.mp_input.specs.Lines.{last_after}
use Rattle.mp_input.specs.Loops.{leave_loop}

pub record Unread : Type 0 where
  -- the text that is left
  pub text : List Pending
  -- the last end of a line that was taken
  pub last : Place
  -- so many entries may be put in front
  pub spare : ℕ

-- the first of the text is taken; none exactly where there is none. Want of memory takes nothing
abbrev pub Takes : Unread → Result (Option Pending) NoMemory → Unread → Type 0
Takes old (Ok (Some x)) new = (old.text ≡ x ∷ new.text) × (new.last ≡ last_after x old.last)
Takes old (Ok None) new = (old.text ≡ []) × (new.text ≡ []) × (new.last ≡ old.last)
Takes old (Err e) new = (new.text ≡ old.text) × (new.last ≡ old.last)

-- the text is removed through the first turn; refused exactly where there is none
abbrev pub LeavesLoop : Unread → Result ℕ NoLoop → Unread → Type 0
LeavesLoop old (Ok conditions) new = leave_loop old.text ≡ Some (conditions, new.text)
LeavesLoop old (Err e) new = (leave_loop old.text ≡ None) × (new.text ≡ old.text)
