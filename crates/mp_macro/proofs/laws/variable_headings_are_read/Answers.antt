use Rattle.mp_macro.proofs.GrammarLemmas.{variable_headings_are_read}
use Rattle.mp_macro.proofs.laws.variable_headings_are_read.Goals as goal

pub returns : goal.returns
returns c = variable_headings_are_read
