use Rattle.mp_macro.proofs.GrammarLemmas.{headings_are_read}
use Rattle.mp_macro.proofs.laws.headings_are_read.Goals as goal

pub returns : goal.returns
returns c = headings_are_read
