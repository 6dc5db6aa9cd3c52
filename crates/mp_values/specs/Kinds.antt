-- The kinds of values.
use Rattle.std.specs.Prelude.{ℕ, Bool, false, nat_eq, Option, Some, None}
use Rattle.mp_values.specs.declared.value.Kind.{Kind}
use Rattle.mp_values.specs.declared.value.Kind.TheVariants as kind
use Rattle.mp_values.specs.declared.value.Value.{Value}
use Rattle.mp_values.specs.declared.value.Value.TheVariants as value

-- the kind of a value; a vacuous one has none
abbrev pub kind_of : Value → Option Kind
kind_of (value.Boolean truth) = Some kind.Boolean
kind_of (value.Numeric form) = Some kind.Numeric
kind_of (value.Text bytes) = Some kind.Text
kind_of (value.Unset k slot) = Some k
kind_of value.Vacuous = None

-- the number of a kind, by which kinds are told apart
abbrev pub kind_number : Kind → ℕ
kind_number kind.Boolean = 0
kind_number kind.Numeric = 1
kind_number kind.Text = 2

abbrev pub kind_eq : Kind → Kind → Bool
kind_eq a b = nat_eq (kind_number a) (kind_number b)

abbrev pub is_kind : Kind → Option Kind → Bool
is_kind wanted None = false
is_kind wanted (Some k) = kind_eq k wanted

-- two values are of one type
abbrev pub kinds_agree : Option Kind → Option Kind → Bool
kinds_agree None other = false
kinds_agree (Some k) other = is_kind k other

abbrev pub are_of_one_kind : Value → Value → Bool
are_of_one_kind a b = kinds_agree (kind_of a) (kind_of b)
