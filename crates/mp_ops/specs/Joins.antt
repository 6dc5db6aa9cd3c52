-- What an operator makes of its operands: they are taken in the one order that all share, and then it may refuse.
use Rattle.std.specs.Prelude.{ℕ, List, Result}
use Rattle.mp_report.specs.declared.error.SourceError.{SourceError}
use Rattle.mp_values.specs.Outcome.{Rule, ◌>>=◌, lift}
use Rattle.mp_values.specs.declared.value.Value.{Value}
use Rattle.mp_ops.specs.Store.{Store}
use Rattle.mp_ops.specs.Operands.{Reading, one, both}

abbrev pub applied : {T A : Type 0} → Reading T A → List ℕ → (A → Result Value SourceError) → Value → Rule Store Value
applied r op makes v = do
  x ← one r op v
  lift (makes x)

abbrev pub joined : {T A U B : Type 0} → Reading T A → Reading U B → List ℕ → (A → B → Result Value SourceError) → Value → Value → Rule Store Value
joined r q op makes v w = do
  operands ← both r q op v w
  lift (makes operands.0 operands.1)
