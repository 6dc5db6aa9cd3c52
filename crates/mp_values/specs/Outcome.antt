-- What a rule comes to: an answer and the state after it, or the cause that it stopped by and the state in which it did.
use Rattle.std.specs.Prelude.{◌≡◌, ◌≢◌, ℕ, List, Result, Ok, Err}
use Rattle.mp_report.specs.declared.error.SourceError.{SourceError}
use Rattle.mp_report.specs.declared.error.SourceError.TheVariants as error
use Rattle.mp_values.specs.declared.fault.Fault.{Fault}
use Rattle.mp_values.specs.declared.fault.Fault.TheVariants as fault
use Rattle.mp_values.specs.declared.stop.Stop.{Stop}
use Rattle.mp_values.specs.declared.stop.Stop.TheVariants as stop

-- RULES

-- what comes of a rule over states of S, which answers an A or stops by a C
abbrev pub OutcomeBy : Type 0 → Type 0 → Type 0 → Type 0
OutcomeBy C S A = Result (A × S) (C × S)

abbrev pub RuleBy : Type 0 → Type 0 → Type 0 → Type 0
RuleBy C S A = S → OutcomeBy C S A

-- an act of a statement or an operator stops by an error of the source alone
abbrev pub Outcome : Type 0 → Type 0 → Type 0
Outcome S A = OutcomeBy SourceError S A

abbrev pub Rule : Type 0 → Type 0 → Type 0
Rule S A = RuleBy SourceError S A

abbrev pub then : {C S A B : Type 0} → OutcomeBy C S A → (A → RuleBy C S B) → OutcomeBy C S B
then (Ok x) f = f x.0 x.1
then (Err e) f = Err e

infixl 10 ◌>>=◌
abbrev pub ◌>>=◌ : {C S A B : Type 0} → RuleBy C S A → (A → RuleBy C S B) → RuleBy C S B
(m >>= f) s = then (m s) f

abbrev pub give : {C S A : Type 0} → A → RuleBy C S A
give x s = Ok (x, s)

abbrev pub halt : {C S A : Type 0} → C → RuleBy C S A
halt cause s = Err (cause, s)

-- an answer that does not touch the state
abbrev pub in_state : {C S A : Type 0} → Result A C → S → OutcomeBy C S A
in_state (Ok x) s = Ok (x, s)
in_state (Err cause) s = Err (cause, s)

abbrev pub lift : {C S A : Type 0} → Result A C → RuleBy C S A
lift answer s = in_state answer s

-- a change of the state that cannot fail
abbrev pub change : {C S : Type 0} → (S → S) → RuleBy C S (Unit {0})
change f s = Ok (tt, f s)

-- ACTS, AND THE FUNCTIONS THAT DO THEM

-- the error that a fault of the program is. Want of memory is none: no definition knows it, and where this is asked
-- it was left out before
abbrev pub error_of : Fault → SourceError
error_of (fault.Refused error) = error
error_of fault.NoMemory = error.Overflow

-- what a function returned, and the state it left, are this outcome, unless memory ran out
abbrev pub Gives : {S A : Type 0} → Result A Fault → S → Outcome S A → Type 0
Gives (Ok x) new outcome = outcome ≡ Ok (x, new)
Gives (Err made) new outcome = made ≢ fault.NoMemory → outcome ≡ Err (error_of made, new)

-- a function that memory ran out in left the state as it was
abbrev pub IsWhole : {S A : Type 0} → Result A Fault → S → S → Type 0
IsWhole result old new = result ≡ Err fault.NoMemory → new ≡ old

-- a fault that was made is this error, unless memory ran out
abbrev pub IsFault : Fault → SourceError → Type 0
IsFault made error = made ≢ fault.NoMemory → error_of made ≡ error

-- RUNS, AND THE FUNCTIONS THAT MAKE THEM

-- why a run stops before its end
pub data Cause : Type 0 where
  -- the source is refused
  Refused : SourceError → Cause
  -- an item was to be taken, and the budget of steps was used up
  OutOfSteps : Cause
  -- a file of that name was asked for, and could not be read
  Unread : List ℕ → Cause

-- a fault of an act stops the run
abbrev pub stop_of : Fault → Stop
stop_of (fault.Refused error) = stop.Refused error
stop_of fault.NoMemory = stop.NoMemory

-- the cause that a stop of the program has; want of memory has none, as above
abbrev pub cause_of : Stop → Cause
cause_of (stop.Refused error) = Refused error
cause_of stop.OutOfSteps = OutOfSteps
cause_of (stop.Unread name) = Unread name
cause_of stop.NoMemory = OutOfSteps

-- what a function returned, and the state it left, are this outcome of a run, unless memory ran out
abbrev pub Yields : {S A : Type 0} → Result A Stop → S → OutcomeBy Cause S A → Type 0
Yields (Ok x) new outcome = outcome ≡ Ok (x, new)
Yields (Err made) new outcome = made ≢ stop.NoMemory → outcome ≡ Err (cause_of made, new)

-- a stop that was made has this cause, unless memory ran out
abbrev pub IsStop : Stop → Cause → Type 0
IsStop made cause = made ≢ stop.NoMemory → cause_of made ≡ cause
