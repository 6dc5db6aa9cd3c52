-- The turns of loops in the text that is left.
use Rattle.std.specs.Prelude.{ℕ, List, [], ◌∷◌, Option, Some, None}
use Rattle.mp_values.specs.declared.turn.Pending.{Pending}
use Rattle.mp_values.specs.declared.turn.Pending.TheVariants.{Item, Turn}

-- the number of conditions that the first turn keeps, and the text behind it
abbrev pub leave_loop : List Pending → Option (ℕ × List Pending)
leave_loop [] = None
leave_loop (Turn turn ∷ text) = Some (turn.conditions, text)
leave_loop (Item item ∷ text) = leave_loop text
