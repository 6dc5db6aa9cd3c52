-- The operators and the operands of statements, as acts on a state: they read its store, and leave it as it is.
use Rattle.std.specs.Prelude.{ℕ, ℤ, Bool, true, false, List, Ok, Err}
use Rattle.mp_forms.specs.Forms.{LinearForm}
use Rattle.mp_values.specs.Outcome.{Outcome, Rule}
use Rattle.mp_values.specs.declared.value.Value.{Value}
use Rattle.mp_values.specs.declared.value.Value.TheVariants as value
use Rattle.mp_values.specs.declared.word.Nullary.{Nullary}
use Rattle.mp_values.specs.declared.word.Nullary.TheVariants as word
use Rattle.mp_values.specs.declared.word.Unary.{Unary}
use Rattle.mp_values.specs.declared.word.Secondary.{Secondary}
use Rattle.mp_values.specs.declared.word.Tertiary.{Tertiary}
use Rattle.mp_values.specs.declared.word.Expression.{Expression}
use Rattle.mp_ops.specs.Store.{Store}
use Rattle.mp_ops.specs.Operands as operands
use Rattle.mp_ops.specs.Arithmetic as arithmetic
use Rattle.mp_ops.specs.Operators as operators
use Rattle.mp_acts.specs.State.{State}

-- what operators read of a state
abbrev pub store_of : State → Store
store_of s = record { unknowns = s.unknowns.states; slots = s.slots }

abbrev pub from_store : {A : Type 0} → Outcome Store A → State → Outcome State A
from_store (Ok x) s = Ok (x.0, s)
from_store (Err e) s = Err (e.0, s)

-- what a rule answers of the store of a state, which is left as it is
abbrev pub with_store : {A : Type 0} → Rule Store A → Rule State A
with_store rule s = from_store (rule (store_of s)) s

-- THE OPERATORS

-- an operator that stands before a primary
unfoldable pub unary : Unary → Value → Rule State Value
unary op v = with_store (operators.unary op v)

-- an operator that joins primaries
unfoldable pub secondary : Secondary → Value → Value → Rule State Value
secondary op v w = with_store (operators.secondary op v w)

-- an operator that joins secondaries
unfoldable pub tertiary : Tertiary → Value → Value → Rule State Value
tertiary op v w = with_store (operators.tertiary op v w)

-- an operator that joins tertiaries
unfoldable pub expression : Expression → Value → Value → Rule State Value
expression op v w = with_store (operators.expression op v w)

-- what a word stands for that is a primary by itself
unfoldable pub nullary : Nullary → Rule State Value
nullary word.True s = Ok (value.Boolean true, s)
nullary word.False s = Ok (value.Boolean false, s)
nullary word.Jobname s = Ok (value.Text s.job, s)

-- OPERANDS OF STATEMENTS

-- the truth that a value is, for that word
unfoldable pub truth : List ℕ → Value → Rule State Bool
truth op v = with_store (operands.truth op v)

-- the bytes of a string, which must be known
abbrev pub text : List ℕ → Value → Rule State (List ℕ)
text op v = with_store (operands.text op v)

-- a form in which each unknown that equations have solved for is replaced by what it equals
abbrev pub up_to_date : LinearForm → Rule State LinearForm
up_to_date p = with_store (operands.up_to_date p)

-- the form of a number, brought up to date
abbrev pub operand : List ℕ → Value → Rule State LinearForm
operand op v = with_store (operands.operand op v)

-- a number without unknowns, in units of 2^-16
abbrev pub known : List ℕ → LinearForm → Rule State ℤ
known op p = with_store (operands.known op p)

-- the difference of two numbers, for that operator
abbrev pub difference_by : List ℕ → Value → Value → Rule State LinearForm
difference_by op v w = with_store (arithmetic.difference_by op v w)
