-- The unknowns in values.
use Rattle.std.specs.Prelude.{ℕ, List, [], map}
use Rattle.mp_values.specs.declared.value.Value.{Value}
use Rattle.mp_values.specs.declared.value.Value.TheVariants as value

-- the numbers of the unknowns in a value
abbrev pub unknowns_in : Value → List ℕ
unknowns_in (value.Numeric form) = map (λ term. term.serial) form.terms
unknowns_in (value.Boolean truth) = []
unknowns_in (value.Text bytes) = []
unknowns_in (value.Unset k slot) = []
unknowns_in value.Vacuous = []
