-- The operators of the language, each with what it takes and what it makes of that.
-- After Hobby, A User's Manual for MetaPost, sections 3 and 5.
use Rattle.std.specs.Prelude.{ℕ, Bool, true, false, not, ◌&&◌, ◌||◌, nat_le, List, [], ◌∷◌, ◌++◌, length, Result, Ok, Err, if◌then◌else◌}
use Rattle.mp_pool.specs.declared.Term.{Term}
use Rattle.mp_forms.specs.Forms.{LinearForm}
use Rattle.mp_report.specs.declared.error.Cap.TheVariants as cap
use Rattle.mp_report.specs.declared.error.SourceError.{SourceError}
use Rattle.mp_report.specs.declared.error.SourceError.TheVariants as error
use Rattle.mp_values.specs.Outcome.{Rule}
use Rattle.mp_values.specs.Kinds.{kind_of, is_kind}
use Rattle.mp_values.specs.Words.{name_of_unary, name_of_secondary, name_of_tertiary, name_of_expression}
use Rattle.mp_values.specs.declared.value.Kind.{Kind}
use Rattle.mp_values.specs.declared.value.Value.{Value}
use Rattle.mp_values.specs.declared.value.Value.TheVariants.{Boolean, Numeric, Text, Unset, Vacuous}
use Rattle.mp_values.specs.declared.word.Unary.{Unary}
use Rattle.mp_values.specs.declared.word.Unary.TheVariants as prefix
use Rattle.mp_values.specs.declared.word.Secondary.{Secondary}
use Rattle.mp_values.specs.declared.word.Secondary.TheVariants as factor
use Rattle.mp_values.specs.declared.word.Tertiary.{Tertiary}
use Rattle.mp_values.specs.declared.word.Tertiary.TheVariants as summand
use Rattle.mp_values.specs.declared.word.Expression.{Expression}
use Rattle.mp_values.specs.declared.word.Expression.TheVariants as side
use Rattle.mp_ops.specs.Store.{Store}
use Rattle.mp_ops.specs.Operands.{form, number, boolean, string, anything}
use Rattle.mp_ops.specs.Joins.{applied, joined}
use Rattle.mp_ops.specs.Arithmetic.{sum, difference, negated, product, quotient}
use Rattle.mp_ops.specs.Comparison.{compared}
use Rattle.mp_ops.specs.declared.limits.TheConstants.{TEXT_LIMIT}

-- WHAT THEY MAKE

abbrev pub same_number : LinearForm → Result Value SourceError
same_number p = Ok (Numeric p)

abbrev pub truth_value : Bool → Result Value SourceError
truth_value b = Ok (Boolean b)

abbrev pub denied : Bool → Result Value SourceError
denied b = truth_value (not b)

abbrev pub conjunction : Bool → Bool → Result Value SourceError
conjunction a b = truth_value (a && b)

abbrev pub disjunction : Bool → Bool → Result Value SourceError
disjunction a b = truth_value (a || b)

abbrev pub has_no_terms : List Term → Bool
has_no_terms [] = true
has_no_terms (t ∷ ts) = false

-- a value is known where no unknown is left in it, and no open slot
abbrev pub is_known : Value → Bool
is_known (Numeric p) = has_no_terms p.terms
is_known (Unset kind slot) = false
is_known (Boolean b) = true
is_known (Text bytes) = true
is_known Vacuous = true

abbrev pub known_value : Value → Result Value SourceError
known_value v = truth_value (is_known v)

abbrev pub unknown_value : Value → Result Value SourceError
unknown_value v = truth_value (not (is_known v))

abbrev pub value_of_kind : Kind → Value → Result Value SourceError
value_of_kind kind v = truth_value (is_kind kind (kind_of v))

-- a string of these bytes, whose number has a limit
abbrev pub string_of : List ℕ → Result Value SourceError
string_of bytes = if nat_le (length bytes) TEXT_LIMIT then Ok (Text bytes) else Err (error.Limit cap.Text TEXT_LIMIT)

abbrev pub concatenation : List ℕ → List ℕ → Result Value SourceError
concatenation a b = string_of (a ++ b)

-- THE TABLE

-- before a primary
abbrev pub unary_row : Unary → List ℕ → Value → Rule Store Value
unary_row prefix.Plus op v = applied form op same_number v
unary_row prefix.Minus op v = applied form op negated v
unary_row prefix.Not op v = applied boolean op denied v
unary_row prefix.Known op v = applied anything op known_value v
unary_row prefix.Unknown op v = applied anything op unknown_value v
unary_row (prefix.Is kind) op v = applied anything op (value_of_kind kind) v

-- between primaries
abbrev pub secondary_row : Secondary → List ℕ → Value → Value → Rule Store Value
secondary_row factor.Times op v w = joined form form op product v w
secondary_row factor.Over op v w = joined form number op quotient v w
secondary_row factor.And op v w = joined boolean boolean op conjunction v w

-- between secondaries
abbrev pub tertiary_row : Tertiary → List ℕ → Value → Value → Rule Store Value
tertiary_row summand.Plus op v w = joined form form op sum v w
tertiary_row summand.Minus op v w = joined form form op difference v w
tertiary_row summand.Or op v w = joined boolean boolean op disjunction v w

-- between tertiaries
abbrev pub expression_row : Expression → List ℕ → Value → Value → Rule Store Value
expression_row (side.Compare c) op v w = compared op c v w
expression_row side.Concatenate op v w = joined string string op concatenation v w

unfoldable pub unary : Unary → Value → Rule Store Value
unary operator v = unary_row operator (name_of_unary operator) v

unfoldable pub secondary : Secondary → Value → Value → Rule Store Value
secondary operator v w = secondary_row operator (name_of_secondary operator) v w

unfoldable pub tertiary : Tertiary → Value → Value → Rule Store Value
tertiary operator v w = tertiary_row operator (name_of_tertiary operator) v w

unfoldable pub expression : Expression → Value → Value → Rule Store Value
expression operator v w = expression_row operator (name_of_expression operator) v w
