-- What taking the first of a list gives and leaves.
use Rattle.std.specs.Prelude.{◌≡◌, List, [], ◌∷◌, Option, Some, None, Result, Ok, Err}
use Rattle.mp_report.specs.declared.place.Place.{Place}
use Rattle.mp_scaled.specs.declared.no_memory.NoMemory.{NoMemory}
use Rattle.mp_values.specs.declared.item.Item as item
use Rattle.mp_values.specs.declared.turn.Pending.{Pending}
use Rattle.mp_values.specs.declared.turn.Pending.TheVariants.{Item}
use Rattle.mp_input.specs.Lines.{last_after}

-- want of memory leaves the list as it was
abbrev pub TakenFrom : {A : Type 0} → List A → Result (Option A) NoMemory → List A → Type 0
TakenFrom old (Ok (Some x)) new = old ≡ x ∷ new
TakenFrom old (Ok None) new = (old ≡ []) × (new ≡ [])
TakenFrom old (Err e) new = new ≡ old

-- the last end of a line that was taken, after this
abbrev pub last_taken : Result (Option Pending) NoMemory → Place → Place
last_taken (Ok (Some x)) last = last_after x last
last_taken (Ok None) last = last
last_taken (Err e) last = last

-- the same of an item
abbrev pub last_item : Result (Option item.Item) NoMemory → Place → Place
last_item (Ok (Some x)) last = last_after (Item x) last
last_item (Ok None) last = last
last_item (Err e) last = last
