use Rattle.std.proofs.Common.{rules}
use Rattle.std.proofs.lemmas.List.{take_min}
use Rattle.mp_scaled.proofs.decimal.read_fraction.Goals as goal

pub returns-clause-value : goal.returns-clause-value
returns-clause-value c = search (rules, take_min)
