-- On stops: a fault of an act stops a run by its error.
use Rattle.std.proofs.Common.{◌≡◌, ◌≢◌, refl, ap, Err}
use Rattle.mp_values.specs.Outcome.{Cause, Refused, cause_of, error_of, stop_of}
use Rattle.mp_values.specs.Outcome as act
use Rattle.mp_values.specs.declared.fault.Fault.{Fault}
use Rattle.mp_values.specs.declared.fault.Fault.TheVariants as fault
use Rattle.mp_values.specs.declared.stop.Stop.TheVariants as stop
use Rattle.mp_acts.specs.State.{State}
use Rattle.mp_rules.specs.Machine.{Machine}
use Rattle.mp_rules.specs.Steps.{in_machine}

pub fault_stops : {A : Type 0} (s : Machine) (o : act.Outcome State A) (made : Fault) (after : State)
    → (made ≢ fault.NoMemory → o ≡ Err (error_of made, after)) → stop_of made ≢ stop.NoMemory → in_machine s o ≡ Err (cause_of (stop_of made), record s { acts = after })
fault_stops s o (fault.Refused error) after is other = ap (in_machine s) (is (λ e. cc))
fault_stops s o fault.NoMemory after is other = absurd (other refl)
