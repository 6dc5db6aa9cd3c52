-- The single steps of an expander.
use Rattle.std.specs.Prelude.{ℕ, List, [], ◌∷◌, ◌++◌, ◌+◌, ◌-◌, Option, Some, None, Ok, Err, nat_lt, if◌then◌else◌}
use Rattle.mp_report.specs.declared.place.Place.{Place}
use Rattle.mp_report.specs.declared.error.Cap.TheVariants as cap
use Rattle.mp_report.specs.declared.error.SourceError.TheVariants as error
use Rattle.mp_tokens.specs.declared.token.Token.{Token}
use Rattle.mp_values.specs.Items.{file_items}
use Rattle.mp_values.specs.Outcome.{Refused, OutOfSteps}
use Rattle.mp_values.specs.declared.item.Item.{Item}
use Rattle.mp_values.specs.declared.turn.Pending.{Pending}
use Rattle.mp_values.specs.declared.turn.Pending.TheVariants as pending
use Rattle.mp_input.specs.Lines.{items_pending, last_after, place_in}
use Rattle.mp_expand.specs.Expansion.{Expansion, Rule}
use Rattle.mp_expand.specs.declared.limits.TheConstants.{NESTING_LIMIT}

abbrev pub take_from : List Pending → Rule (Option Pending)
take_from [] s = Ok (None, s)
take_from (x ∷ rest) s =
    if nat_lt s.steps s.budget
    then Ok (Some x, record s { text = rest; last = last_after x s.last; steps = s.steps + 1 })
    else Err (OutOfSteps, s)

-- what is first in the text is taken off it: a step. From an empty text nothing is taken, and that is no step
unfoldable pub take_first : Rule (Option Pending)
take_first s = take_from s.text s

-- the place of an error
abbrev pub place_of : Expansion → Place
place_of s = place_in s.text s.last

-- one more primary is read, or one more request waits for an answer; no more than so many inside one another
unfoldable pub enter : Rule (Unit {0})
enter s =
    if nat_lt s.nesting NESTING_LIMIT
    then Ok (tt, record s { nesting = s.nesting + 1 })
    else Err (Refused (error.Limit cap.Nesting NESTING_LIMIT), s)

-- it was read
abbrev pub leave : Expansion → Expansion
leave s = record s { nesting = s.nesting - 1 }

-- the items of the file of that number come to stand in front of the text, with its end
abbrev pub start : ℕ → List Token → Expansion → Expansion
start file tokens s = record s { text = items_pending (file_items file tokens) ++ s.text }

-- an item comes to stand in front of the text
abbrev pub put_back : Item → Expansion → Expansion
put_back x s = record s { text = pending.Item x ∷ s.text }
