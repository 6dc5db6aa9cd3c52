-- What the definitions give at some texts.
use Rattle.std.proofs.Common.{◌≡◌, refl, List, [], ◌∷◌, Some, None}
use Rattle.mp_report.specs.declared.place.Place.{Place}
use Rattle.mp_values.specs.Substitution.{substitute}
use Rattle.mp_values.specs.declared.item.Item.{Item}
use Rattle.mp_values.specs.declared.item.Item.TheVariants.{Symbol, Param, LineEnd, FileEnd}
use Rattle.mp_values.specs.declared.turn.LeftOver.TheVariants.{Forever}
use Rattle.mp_values.specs.declared.turn.Pending.{Pending}
use Rattle.mp_values.specs.declared.turn.Pending.TheVariants as pending
use Rattle.mp_values.specs.declared.turn.Turn.{Turn}
use Rattle.mp_input.specs.Lines.{items_pending, place_in, end_file_after_line}
use Rattle.mp_input.specs.Loops.{leave_loop}

abbrev a : Item
a = Symbol 1

abbrev b : Item
b = Symbol 2

-- an argument that stands twice, one that is empty, and one that is not there
twice : substitute (Param 0 ∷ a ∷ Param 0 ∷ []) ((b ∷ a ∷ []) ∷ []) ≡ b ∷ a ∷ a ∷ b ∷ a ∷ []
twice = refl

empty : substitute (Param 0 ∷ a ∷ Param 1 ∷ Param 2 ∷ []) ([] ∷ (b ∷ []) ∷ []) ≡ a ∷ b ∷ []
empty = refl

abbrev line : Place
line = record { file = 2; line = 1 }

abbrev next_line : Place
next_line = record { file = 2; line = 2 }

abbrev outer_line : Place
outer_line = record { file = 1; line = 7 }

-- a file of two lines, and below it the rest of the file that asked for it
abbrev file : List Pending
file = items_pending (a ∷ LineEnd line ∷ b ∷ LineEnd next_line ∷ FileEnd ∷ b ∷ LineEnd outer_line ∷ FileEnd ∷ [])

abbrev ended : List Pending
ended = items_pending (a ∷ LineEnd line ∷ FileEnd ∷ b ∷ LineEnd outer_line ∷ FileEnd ∷ [])

ends : end_file_after_line file ≡ ended
ends = refl

no_end_behind_the_line : end_file_after_line (items_pending (a ∷ LineEnd line ∷ b ∷ [])) ≡ items_pending (a ∷ LineEnd line ∷ b ∷ [])
no_end_behind_the_line = refl

no_line : end_file_after_line (items_pending (a ∷ FileEnd ∷ [])) ≡ items_pending (a ∷ FileEnd ∷ [])
no_line = refl

place : place_in file outer_line ≡ line
place = refl

last_place : place_in [] outer_line ≡ outer_line
last_place = refl

abbrev turn : Turn
turn = record { left_over = Forever; body = a ∷ []; conditions = 3 }

leaves : leave_loop (pending.Item b ∷ pending.Turn turn ∷ pending.Item a ∷ []) ≡ Some (3, pending.Item a ∷ [])
leaves = refl

no_loop : leave_loop file ≡ None
no_loop = refl
