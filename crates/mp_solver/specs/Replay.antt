-- A system is what its events have made of it.
use Rattle.std.specs.Prelude.{◌≡◌, ℕ, Bool, true, false, List, [], ◌∷◌, ◌++◌, Result, Ok, Err, fold, count_by}
use Rattle.mp_forms.specs.declared.fault.FormFault.{FormFault}
use Rattle.mp_pool.specs.Terms.{AreTerms}
use Rattle.mp_forms.specs.Forms.{LinearForm}
use Rattle.mp_solver.specs.declared.fresh.Fresh.{Fresh as FreshAnswer}
use Rattle.mp_solver.specs.declared.fresh.Fresh.TheVariants.{Made}
use Rattle.mp_solver.specs.declared.equated.Equated.{Equated}
use Rattle.mp_solver.specs.declared.equated.Equated.TheVariants.{Accepted}
use Rattle.mp_solver.specs.States.{States, Unknowns, with_unknown, unnamed, fresh_of, IsOver}
use Rattle.mp_solver.specs.Reduction.{reduce_of}
use Rattle.mp_solver.specs.Elimination.{eliminate}

-- a new unknown of that name; an equation, as its left side minus its right as these stood; a name taken away
pub data Event : Type 0 where
  Fresh : (name : List ℕ) → Event
  Equation : (difference : LinearForm) → Event
  Unname : (serial : ℕ) → Event

-- the states after a difference that was brought up to date, or refused
abbrev pub after_residual : States → Result LinearForm FormFault → States
after_residual states (Ok residual) = (eliminate states residual).1
after_residual states (Err fault) = states

-- the unknowns after an event; an equation is brought up to date before it is solved
abbrev pub after : Unknowns → Event → Unknowns
after unknowns (Fresh name) = with_unknown unknowns name
after unknowns (Equation difference) = record unknowns { states = after_residual unknowns.states (reduce_of unknowns.states difference) }
after unknowns (Unname serial) = unnamed unknowns serial

-- the unknowns after a list of events, from none on
abbrev pub replay : List Event → Unknowns
replay events = fold after (record { states = []; names = [] }) events

abbrev pub is_fresh : Event → Bool
is_fresh (Fresh name) = true
is_fresh (Equation difference) = false
is_fresh (Unname serial) = false

abbrev pub is_equation : Event → Bool
is_equation (Fresh name) = false
is_equation (Equation difference) = true
is_equation (Unname serial) = false

-- the number of unknowns that were made
abbrev pub unknowns_made : List Event → ℕ
unknowns_made events = count_by is_fresh events

-- the number of equations that were accepted
abbrev pub equations_accepted : List Event → ℕ
equations_accepted events = count_by is_equation events

-- the event that a wish for one more unknown is, by its answer
abbrev pub fresh_event : List ℕ → FreshAnswer → List Event
fresh_event name (Made serial) = Fresh name ∷ []
fresh_event name refused = []

-- the event that an equation is, by its answer
abbrev pub equation_event : LinearForm → Equated → List Event
equation_event difference Accepted = Equation difference ∷ []
equation_event difference refused = []

-- the events of any calls from a new system on, and what these have made of it. Each line is a call, as its contract
-- tells it; all other calls leave the unknowns as they are
pub data IsMadeBy : List Event → Unknowns → Type 0 where
  new : IsMadeBy [] (record { states = []; names = [] })
  fresh : {events : List Event} {before : Unknowns} → IsMadeBy events before → (name : List ℕ) (answer : FreshAnswer) (after : Unknowns) → (answer, after) ≡ fresh_of before name → IsMadeBy (events ++ fresh_event name answer) after
  unname : {events : List Event} {before : Unknowns} → IsMadeBy events before → (serial : ℕ) → IsMadeBy (events ++ Unname serial ∷ []) (unnamed before serial)
  equate : {events : List Event} {before : Unknowns} → IsMadeBy events before → (difference residual : LinearForm) (answer : Equated) (after : States) →
      AreTerms difference.terms → IsOver before.states difference → Ok residual ≡ reduce_of before.states difference → (answer, after) ≡ eliminate before.states residual → IsMadeBy (events ++ equation_event difference answer) (record before { states = after })
