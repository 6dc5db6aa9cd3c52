-- What is shown of a value.
-- After Knuth, METAFONT: The Program, parts 28 (dependency lists) and 39; the texts are this project's own.
use Rattle.std.specs.Prelude.{ℕ, ℤ, pos, negsuc, zero, suc, ◌++◌, List, [], ◌∷◌, Option, Some, None, Ok, Bool, true, false, codes, decimal, cond, nat_eq, unsigned_abs}
use Rattle.mp_pool.specs.declared.Term.{Term}
use Rattle.mp_scaled.specs.Round.{round}
use Rattle.mp_scaled.specs.Print.{printed}
use Rattle.mp_forms.specs.Forms.{LinearForm}
use Rattle.mp_solver.specs.States.{Unknowns, name_of}
use Rattle.mp_values.specs.Outcome.{Rule, ◌>>=◌, give}
use Rattle.mp_values.specs.Words.{name_of_kind}
use Rattle.mp_values.specs.declared.value.Kind.{Kind}
use Rattle.mp_values.specs.declared.value.Value.{Value}
use Rattle.mp_values.specs.declared.value.Value.TheVariants.{Boolean, Numeric, Text, Unset, Vacuous}
use Rattle.mp_ops.specs.Store.{settled}
use Rattle.mp_acts.specs.State.{State}
use Rattle.mp_acts.specs.Operators.{up_to_date}

abbrev pub name_or_serial : Option (List ℕ) → ℕ → List ℕ
name_or_serial (Some name) serial = name
name_or_serial None serial = codes "?" ++ decimal serial

-- the name of an unknown, or ? and its serial where it has none
abbrev pub unknown_name : Unknowns → ℕ → List ℕ
unknown_name unknowns serial = name_or_serial (name_of unknowns serial) serial

-- a multiple of 2^-16 in front of a name: nothing where it is 1
abbrev pub multiple : ℕ → List ℕ
multiple units = cond (nat_eq units 65536) [] (printed (pos units))

-- the magnitude of a coefficient, from units of 2^-28 to those of 2^-16
abbrev pub coefficient_units : ℤ → ℕ
coefficient_units c = unsigned_abs (round c (pos 4096))

-- + or -, by the sign of a number
abbrev pub sign : ℤ → List ℕ
sign (pos n) = codes "+"
sign (negsuc n) = codes "-"

-- no plus before a first term
abbrev pub first_sign : ℤ → List ℕ
first_sign (pos n) = []
first_sign (negsuc n) = codes "-"

abbrev pub unsigned_term : Unknowns → Term → List ℕ
unsigned_term unknowns t = multiple (coefficient_units t.coefficient) ++ unknown_name unknowns t.serial

-- the terms behind the first
unfoldable pub more_terms : Unknowns → List Term → List ℕ
more_terms unknowns [] = []
more_terms unknowns (t ∷ ts) = (sign t.coefficient ++ unsigned_term unknowns t) ++ more_terms unknowns ts

-- the constant behind terms: nothing where it is 0
abbrev pub last_constant : ℤ → List ℕ
last_constant (pos zero) = []
last_constant (pos (suc n)) = codes "+" ++ printed (pos (suc n))
last_constant (negsuc n) = printed (negsuc n)

-- terms in their order and the constant; a number without terms is printed
abbrev pub form_text_by : Unknowns → ℤ → List Term → List ℕ
form_text_by unknowns constant [] = printed constant
form_text_by unknowns constant (t ∷ ts) =
    ((first_sign t.coefficient ++ unsigned_term unknowns t) ++ more_terms unknowns ts) ++ last_constant constant

unfoldable pub form_text : Unknowns → LinearForm → List ℕ
form_text unknowns p = form_text_by unknowns p.constant p.terms

abbrev pub truth_text : Bool → List ℕ
truth_text true = codes "true"
truth_text false = codes "false"

-- a string between quotation marks
abbrev pub quoted : List ℕ → List ℕ
quoted bytes = codes "\"" ++ bytes ++ codes "\""

abbrev pub unset_text : Kind → List ℕ
unset_text kind = codes "unknown " ++ name_of_kind kind

-- what is shown of a form that is up to date
abbrev pub form_shown : LinearForm → Rule State (List ℕ)
form_shown p s = Ok (form_text s.unknowns p, s)

-- what is shown of a value that is no open slot; a number is brought up to date
abbrev pub settled_text : Value → Rule State (List ℕ)
settled_text (Numeric p) = do
  q ← up_to_date p
  form_shown q
settled_text (Text bytes) = give (quoted bytes)
settled_text (Boolean b) = give (truth_text b)
settled_text (Unset kind slot) = give (unset_text kind)
settled_text Vacuous = give (codes "vacuous")

-- what is shown of a value
unfoldable pub value_text : Value → Rule State (List ℕ)
value_text v s = settled_text (settled s.slots v) s
