-- What is known of the unknowns of a state stands as the replay of its events leaves it.
use Rattle.std.specs.Prelude.{◌≡◌, Bool, true, false, List, filter, length}
use Rattle.mp_solver.specs.States.{Unknowns}
use Rattle.mp_solver.specs.Replay as event
use Rattle.mp_solver.specs.Replay.{Event, replay, unknowns_made, IsMadeBy}
use Rattle.mp_acts.specs.declared.event.Event.{Event as Kept}
use Rattle.mp_acts.specs.declared.event.Event.TheVariants as kept

-- an event, as the code keeps it
abbrev pub event_of : Kept → Event
event_of (kept.Fresh name) = event.Fresh name.value
event_of (kept.Equation difference) = event.Equation difference.value

-- an unknown or an equation, and no name that is taken away
abbrev pub adds : Event → Bool
adds (event.Fresh name) = true
adds (event.Equation difference) = true
adds (event.Unname serial) = false

-- these events have made the unknowns, with names that were taken away between them, and no others
pub record IsMadeWith (events : List Event) (unknowns : Unknowns) : Type 0 where
  pub every : List Event
  pub made : IsMadeBy every unknowns
  pub adding : filter adds every ≡ events

unfoldable pub AreMadeBy : List Event → Unknowns → Type 0
AreMadeBy events unknowns = ∥ IsMadeWith events unknowns ∥₁

-- the events are those that made the unknowns, as many of them as there are unknowns made one
pub record AreEventsOf (events : List Event) (unknowns : Unknowns) : Type 0 where
  pub made : AreMadeBy events unknowns
  pub replayed : unknowns.states ≡ (replay events).states
  pub counted : unknowns_made events ≡ length unknowns.states
