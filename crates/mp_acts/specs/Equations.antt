-- Equations between two values.
-- After Hobby, A User's Manual for MetaPost, section 3.2; the lines and the order of the refusals are this project's own.
use Rattle.std.specs.Prelude.{◌≡◌, ℕ, ℤ, pos, Bool, true, false, [], ◌∷◌, ◌++◌, Some, Ok, Err, slice_set, codes}
use Rattle.std.specs.Bool.{beq}
use Rattle.std.specs.Str.{bytes_eq}
use Rattle.mp_scaled.specs.Print.{printed}
use Rattle.mp_forms.specs.Forms.{LinearForm}
use Rattle.mp_solver.specs.States.{States}
use Rattle.mp_solver.specs.Elimination.{eliminate}
use Rattle.mp_solver.specs.Replay as event
use Rattle.mp_solver.specs.declared.equated.Equated.{Equated}
use Rattle.mp_solver.specs.declared.equated.Equated.TheVariants.{Accepted, Redundant, Inconsistent, CoefficientTooLarge, Overflow, Limit}
use Rattle.mp_report.specs.declared.error.Cap.TheVariants as cap
use Rattle.mp_report.specs.declared.error.SourceError.TheVariants as error
use Rattle.mp_values.specs.Outcome.{Rule, ◌>>=◌, halt, change}
use Rattle.mp_values.specs.Refusals.{wrong_type, not_known}
use Rattle.mp_values.specs.declared.value.Value.{Value}
use Rattle.mp_values.specs.declared.value.Value.TheVariants.{Boolean, Numeric, Text, Unset, Vacuous}
use Rattle.mp_values.specs.Kinds.{are_of_one_kind}
use Rattle.mp_ops.specs.Store.{settled}
use Rattle.mp_acts.specs.State.{State}
use Rattle.mp_acts.specs.Operators.{up_to_date, difference_by}
use Rattle.mp_acts.specs.Lines.{line}
use Rattle.mp_solver.specs.declared.limits.TheConstants.{TERM_LIMIT}

-- an equation that holds already is noted, with the difference of its sides
abbrev pub redundant : ℤ → Rule State (Unit {0})
redundant residual s = line (codes "## redundant " ++ printed residual) s

-- the state after an equation that was accepted: it is the newest event
abbrev pub with_equation : State → LinearForm → States → State
with_equation s difference states = record s { unknowns = record s.unknowns { states = states }; events = s.events ++ event.Equation difference ∷ [] }

-- what an answer of the solver means for the run, with the states after it
abbrev pub taken : LinearForm → Equated × States → Rule State (Unit {0})
taken difference (Accepted, states) s = Ok (tt, with_equation s difference states)
taken difference (Redundant r, states) s = redundant r s
taken difference (Inconsistent r, states) s = Err (error.Inconsistent r, s)
taken difference (CoefficientTooLarge, states) s = Err (error.CoefficientTooLarge, s)
taken difference (Overflow, states) s = Err (error.Overflow, s)
taken difference (Limit, states) s = Err (error.Limit cap.Terms TERM_LIMIT, s)

-- a difference, with what it is when it is brought up to date, is made to be 0
unfoldable pub vanish : LinearForm → LinearForm → Rule State (Unit {0})
vanish difference residual s = taken difference (eliminate s.unknowns.states residual) s

-- the solver's answer to a difference that was brought up to date, and the states that it leaves
pub record IsAnswer (difference : LinearForm) (s : State) (answer : Equated) (states : States) : Type 0 where
  pub residual : LinearForm
  pub is_up_to_date : up_to_date difference s ≡ Ok (residual, s)
  pub outcome : (answer, states) ≡ eliminate s.unknowns.states residual

-- two numbers are made equal: their difference is made to be 0
unfoldable pub equate_numbers : Value → Value → Rule State (Unit {0})
equate_numbers a b = do
  difference ← difference_by (codes "=") a b
  residual ← up_to_date difference
  vanish difference residual

-- two known values are equal or not
abbrev pub agree : Bool → Rule State (Unit {0})
agree true s = redundant (pos 0) s
agree false s = Err (error.Inconsistent (pos 0), s)

-- a slot is filled, for all values that have it
abbrev pub fill : ℕ → Value → State → State
fill slot v s = record s { slots = slice_set s.slots slot (Some v) }

-- two values of one type, which have no slots, are made equal
abbrev pub equate_known : Value → Value → Rule State (Unit {0})
equate_known (Numeric p) b = equate_numbers (Numeric p) b
equate_known (Text a) (Text b) = agree (bytes_eq a b)
equate_known (Text a) b = halt (wrong_type (codes "="))
equate_known (Boolean a) (Boolean b) = agree (beq a b)
equate_known (Boolean a) b = halt (wrong_type (codes "="))
equate_known (Unset kind slot) b = halt (not_known (codes "="))
equate_known Vacuous b = halt (wrong_type (codes "="))

-- two values of one type are made equal: an open slot is filled with the other value, but of two slots nothing is kept
abbrev pub equate : Value → Value → Rule State (Unit {0})
equate (Unset kind slot) (Unset other_kind other) = halt (not_known (codes "="))
equate (Unset kind slot) v = change (fill slot v)
equate v (Unset kind slot) = change (fill slot v)
equate a b = equate_known a b

abbrev pub equate_as : Bool → Value → Value → Rule State (Unit {0})
equate_as true a b = equate a b
equate_as false a b = halt (wrong_type (codes "="))

-- an equation is one of two values of one type
unfoldable pub equation : Value → Value → Rule State (Unit {0})
equation a b s = let left = settled s.slots a in let right = settled s.slots b in equate_as (are_of_one_kind left right) left right s
