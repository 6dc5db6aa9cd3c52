-- The text that a stack of entries stands for.
use Rattle.std.specs.Prelude.{◌≡◌, List, [], ◌∷◌, ◌++◌, Some, None}
use Rattle.mp_values.specs.declared.turn.Pending.{Pending}
use Rattle.mp_values.specs.declared.turn.Pending.TheVariants as pending
use Rattle.mp_input.specs.Lines.{items_pending, first_line}
use Rattle.mp_input.specs.declared.entry.Entry.{Entry}
use Rattle.mp_input.specs.declared.entry.Entry.TheVariants.{Text, File, One, Turn}

abbrev pub entry_items : Entry → List Pending
entry_items (Text items) = items_pending items
entry_items (File items) = items_pending items
entry_items (One (Some item)) = pending.Item item ∷ []
entry_items (One None) = []
entry_items (Turn (Some turn)) = pending.Turn turn ∷ []
entry_items (Turn None) = []

-- the last entry is read first
abbrev pub left_of : List Entry → List Pending
left_of [] = []
left_of (e ∷ es) = left_of es ++ entry_items e

-- ends of lines stand in files alone
abbrev pub IsPlain : Entry → Type 0
IsPlain (File items) = Unit {0}
IsPlain e = first_line (entry_items e) ≡ None

abbrev pub AllPlain : List Entry → Type 0
AllPlain [] = Unit {0}
AllPlain (e ∷ es) = IsPlain e × AllPlain es
