-- The refusals of a source that a run stops by.
use Rattle.std.specs.Prelude.{ℕ, List}
use Rattle.mp_scaled.specs.declared.arith.Arith.{Arith}
use Rattle.mp_scaled.specs.declared.arith.Arith.TheVariants as arith
use Rattle.mp_forms.specs.declared.fault.FormFault.{FormFault}
use Rattle.mp_forms.specs.declared.fault.FormFault.TheVariants as fault
use Rattle.mp_report.specs.declared.error.SourceError.{SourceError}
use Rattle.mp_report.specs.declared.error.SourceError.TheVariants as error
use Rattle.mp_tokens.specs.declared.token.BadToken.{BadToken}
use Rattle.mp_tokens.specs.declared.token.BadToken.TheVariants as bad
use Rattle.mp_values.specs.Outcome.{Cause, Refused}

abbrev pub error_of_arith : Arith → SourceError
error_of_arith arith.Overflow = error.Overflow
error_of_arith arith.DivisionByZero = error.DivisionByZero

abbrev pub error_of_form : FormFault → SourceError
error_of_form fault.Overflow = error.Overflow
error_of_form fault.CoefficientTooLarge = error.CoefficientTooLarge
error_of_form fault.DivisionByZero = error.DivisionByZero

abbrev pub error_of_token : BadToken → SourceError
error_of_token (bad.Character byte) = error.BadCharacter byte
error_of_token bad.Unfinished = error.UnfinishedString
error_of_token bad.Enormous = error.EnormousNumber

-- a bad token is refused when it is taken
abbrev pub bad_token : BadToken → Cause
bad_token cause = Refused (error_of_token cause)

-- a word that is not built
abbrev pub unbuilt : List ℕ → SourceError
unbuilt word = error.NotBuilt word

-- it is refused as soon as it is met
abbrev pub not_built : List ℕ → Cause
not_built word = Refused (unbuilt word)

-- what stood where something else was wanted
abbrev pub unexpected_error : List ℕ → List ℕ → SourceError
unexpected_error wanted stood = error.Unexpected wanted stood

abbrev pub unexpected : List ℕ → List ℕ → Cause
unexpected wanted stood = Refused (unexpected_error wanted stood)

-- what an operator or a word does not allow
abbrev pub wrong_type : List ℕ → SourceError
wrong_type op = error.WrongType op

abbrev pub not_known : List ℕ → SourceError
not_known op = error.NotKnown op
