-- How operators take their operands: the order that all of them share.
-- The types of all operands are tested first. Then each is brought up to date, the left one before the right. Then what
-- must be known is tested, likewise. What an operator refuses beside comes last.
-- After Hobby, A User's Manual for MetaPost, sections 3 and 5; the order of the refusals is this project's own.
use Rattle.std.specs.Prelude.{ℕ, ℤ, Bool, List, [], ◌∷◌, Option, Some, None, Result, Ok, Err}
use Rattle.mp_pool.specs.declared.Term.{Term}
use Rattle.mp_forms.specs.Forms.{LinearForm}
use Rattle.mp_forms.specs.declared.fault.FormFault.{FormFault}
use Rattle.mp_report.specs.declared.error.SourceError.{SourceError}
use Rattle.mp_solver.specs.States.{States}
use Rattle.mp_solver.specs.Reduction.{reduce_of}
use Rattle.mp_values.specs.Outcome.{Rule, ◌>>=◌, give, lift}
use Rattle.mp_values.specs.Refusals.{error_of_form, wrong_type, not_known}
use Rattle.mp_values.specs.declared.value.Kind.TheVariants as kind
use Rattle.mp_values.specs.declared.value.Value.{Value}
use Rattle.mp_values.specs.declared.value.Value.TheVariants.{Boolean, Numeric, Text, Unset}
use Rattle.mp_ops.specs.Store.{Store, settled}

-- HOW AN OPERAND IS TAKEN

-- what an operator needs of an operand, as an A
pub record Reading (T A : Type 0) : Type 0 where
  -- what there is to bring up to date, of a value of the type; a value of another type has none
  pub of_type : Value → Option T
  pub up_to_date : States → T → Result T SourceError
  -- what is needed of it; none where it is not known
  pub known : T → Option A

abbrev pub or_else : {A : Type 0} → Option A → SourceError → Result A SourceError
or_else (Some x) refusal = Ok x
or_else None refusal = Err refusal

-- what there is of an operand
abbrev pub typed : {T A : Type 0} → Reading T A → List ℕ → Value → Rule Store T
typed r op v s = lift (or_else (r.of_type (settled s.slots v)) (wrong_type op)) s

abbrev pub current : {T A : Type 0} → Reading T A → T → Rule Store T
current r x s = lift (r.up_to_date s.unknowns x) s

abbrev pub needed : {T A : Type 0} → Reading T A → List ℕ → T → Rule Store A
needed r op x = lift (or_else (r.known x) (not_known op))

-- the one operand of that operator
abbrev pub one : {T A : Type 0} → Reading T A → List ℕ → Value → Rule Store A
one r op v = do
  x ← typed r op v
  y ← current r x
  needed r op y

-- both operands
abbrev pub both : {T A U B : Type 0} → Reading T A → Reading U B → List ℕ → Value → Value → Rule Store (A × B)
both r q op v w = do
  x ← typed r op v
  y ← typed q op w
  left ← current r x
  right ← current q y
  a ← needed r op left
  b ← needed q op right
  give (a, b)

-- WHAT OPERATORS TAKE

abbrev pub or_refused : Result LinearForm FormFault → Result LinearForm SourceError
or_refused (Ok p) = Ok p
or_refused (Err fault) = Err (error_of_form fault)

-- a form in which each unknown that equations have solved for is replaced by what it equals
abbrev pub reduced : States → LinearForm → Result LinearForm SourceError
reduced states p = or_refused (reduce_of states p)

abbrev pub up_to_date : LinearForm → Rule Store LinearForm
up_to_date p s = lift (reduced s.unknowns p) s

abbrev pub as_it_is : {T : Type 0} → States → T → Result T SourceError
as_it_is states x = Ok x

abbrev pub form_in : Value → Option LinearForm
form_in (Numeric p) = Some p
form_in v = None

-- a number, known or not
abbrev pub form : Reading LinearForm LinearForm
form = record { of_type = form_in; up_to_date = reduced; known = Some }

abbrev pub constant_by : ℤ → List Term → Option ℤ
constant_by constant [] = Some constant
constant_by constant (t ∷ ts) = None

-- the number that a form without unknowns is, in units of 2^-16
abbrev pub constant_in : LinearForm → Option ℤ
constant_in p = constant_by p.constant p.terms

-- a known number
abbrev pub number : Reading LinearForm ℤ
number = record { of_type = form_in; up_to_date = reduced; known = constant_in }

-- of a string or a truth, by its slot: none where the slot is open
abbrev pub truth_in : Value → Option (Option Bool)
truth_in (Boolean b) = Some (Some b)
truth_in (Unset kind.Boolean slot) = Some None
truth_in v = None

abbrev pub text_in : Value → Option (Option (List ℕ))
text_in (Text bytes) = Some (Some bytes)
text_in (Unset kind.Text slot) = Some None
text_in v = None

abbrev pub itself : {A : Type 0} → A → A
itself x = x

-- a known truth
abbrev pub boolean : Reading (Option Bool) Bool
boolean = record { of_type = truth_in; up_to_date = as_it_is; known = itself }

-- a known string
abbrev pub string : Reading (Option (List ℕ)) (List ℕ)
string = record { of_type = text_in; up_to_date = as_it_is; known = itself }

abbrev pub number_or_error : Result LinearForm SourceError → Result Value SourceError
number_or_error (Ok p) = Ok (Numeric p)
number_or_error (Err refusal) = Err refusal

abbrev pub value_reduced : States → Value → Result Value SourceError
value_reduced states (Numeric p) = number_or_error (reduced states p)
value_reduced states v = Ok v

-- any value, known or not
abbrev pub anything : Reading Value Value
anything = record { of_type = Some; up_to_date = value_reduced; known = Some }

-- a value, whatever it is, brought up to date. No operator is named, as nothing is refused for one
abbrev pub brought : Value → Rule Store Value
brought v = one anything [] v

-- OPERANDS OF STATEMENTS

-- a number, brought up to date
unfoldable pub operand : List ℕ → Value → Rule Store LinearForm
operand op v = one form op v

-- what must be known of a number
abbrev pub known : List ℕ → LinearForm → Rule Store ℤ
known op p = needed number op p

-- the bytes of a string
unfoldable pub text : List ℕ → Value → Rule Store (List ℕ)
text op v = one string op v

unfoldable pub truth : List ℕ → Value → Rule Store Bool
truth op v = one boolean op v
