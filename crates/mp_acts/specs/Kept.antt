-- What the code keeps true of a state.
use Rattle.std.specs.Prelude.{◌≡◌, ℕ, List, Option, length}
use Rattle.mp_symbols.specs.Tables.{Table}
use Rattle.mp_solver.specs.States.{Unknowns}
use Rattle.mp_solver.specs.Replay.{Event}
use Rattle.mp_values.specs.declared.meaning.Meaning.{Meaning}
use Rattle.mp_values.specs.declared.value.Value.{Value}
use Rattle.mp_vartree.specs.Variables.{Variables}
use Rattle.mp_acts.specs.Reach.{AreWithin}
use Rattle.mp_acts.specs.Events.{AreEventsOf}

pub record IsKept (count : ℕ) (unknowns : Unknowns) (variables : Variables) (slots : List (Option Value)) (symbols : Table Meaning) (events : List Event) : Type 0 where
  -- so many unknowns were made
  pub counted : count ≡ length unknowns.states
  -- nothing speaks of what there is not
  pub within : AreWithin unknowns.states variables slots symbols
  -- the events, and no others, have made them
  pub history : AreEventsOf events unknowns
