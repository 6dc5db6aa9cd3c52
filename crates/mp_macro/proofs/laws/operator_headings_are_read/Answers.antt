use Rattle.mp_macro.proofs.GrammarLemmas.{operator_headings_are_read}
use Rattle.mp_macro.proofs.laws.operator_headings_are_read.Goals as goal

pub returns : goal.returns
returns c = operator_headings_are_read
