-- Number tokens.
use Rattle.std.specs.Prelude.{ℤ, [], Result, Ok, Err}
use Rattle.mp_scaled.specs.Round.{make_scaled_of}
use Rattle.mp_scaled.specs.declared.arith.Arith.{Arith}
use Rattle.mp_report.specs.declared.error.SourceError.{SourceError}
use Rattle.mp_values.specs.Refusals.{error_of_arith}
use Rattle.mp_values.specs.declared.value.Value.{Value}
use Rattle.mp_values.specs.declared.value.Value.TheVariants.{Numeric}

abbrev pub known_number : ℤ → Value
known_number units = Numeric (record { constant = units; terms = [] })

abbrev pub number_or_error : Result ℤ Arith → Result Value SourceError
number_or_error (Ok units) = Ok (known_number units)
number_or_error (Err fault) = Err (error_of_arith fault)

-- two number tokens with a slash between them
unfoldable pub fraction : ℤ → ℤ → Result Value SourceError
fraction a b = number_or_error (make_scaled_of a b)
