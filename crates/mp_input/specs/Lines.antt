-- The ends of lines and of files in the text that is left.
use Rattle.std.specs.Prelude.{Bool, true, false, if◌then◌else◌, List, [], ◌∷◌, map, Option, Some, None, unwrap_or}
use Rattle.std.specs.Option.{option_or}
use Rattle.mp_report.specs.declared.place.Place.{Place}
use Rattle.mp_values.specs.declared.item.Item as item
use Rattle.mp_values.specs.declared.item.Item.TheVariants.{LineEnd, FileEnd}
use Rattle.mp_values.specs.declared.turn.Pending.{Pending}
use Rattle.mp_values.specs.declared.turn.Pending.TheVariants.{Item}

-- items, as a text
abbrev pub items_pending : List item.Item → List Pending
items_pending items = map Item items

-- an end of a line, by its place
abbrev pub line_in : Pending → Option Place
line_in (Item (LineEnd place)) = Some place
line_in x = None

-- the first end of a line
abbrev pub first_line : List Pending → Option Place
first_line [] = None
first_line (x ∷ text) = option_or (line_in x) (first_line text)

-- the place of an error: the first end of a line that is left, else the last that was taken
abbrev pub place_in : List Pending → Place → Place
place_in text last = unwrap_or (first_line text) last

-- the last end of a line that was taken, after one more was
abbrev pub last_after : Pending → Place → Place
last_after x last = unwrap_or (line_in x) last

abbrev pub is_file_end : Pending → Bool
is_file_end (Item FileEnd) = true
is_file_end x = false

-- the text from the first end of a file on
abbrev pub from_file_end : List Pending → Option (List Pending)
from_file_end [] = None
from_file_end (x ∷ text) = if is_file_end x then Some (x ∷ text) else from_file_end text

-- behind an end of a line the text goes on at the next end of a file, if there is one; behind anything else, as it is
abbrev pub ended_behind : Option Place → List Pending → List Pending → List Pending
ended_behind (Some place) text ended = unwrap_or (from_file_end text) text
ended_behind None text ended = ended

-- the text without what lies between the first end of a line and the next end of a file
abbrev pub end_file_after_line : List Pending → List Pending
end_file_after_line [] = []
end_file_after_line (x ∷ text) = x ∷ ended_behind (line_in x) text (end_file_after_line text)
