use Rattle.mp_macro.proofs.NumberedLemmas.{symbols_stay_numbered}
use Rattle.mp_macro.proofs.laws.symbols_stay_numbered.Goals as goal

pub returns : goal.returns
returns c = symbols_stay_numbered
