use Rattle.mp_symbols.proofs.LawLemmas.{GivesBack-inside}
use Rattle.mp_symbols.proofs.laws.groups_give_back.Goals as goal

pub returns : goal.returns
returns g c = GivesBack-inside
