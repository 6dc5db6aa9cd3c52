use Rattle.mp_symbols.proofs.NameLemmas.{with_name-given}
use Rattle.mp_symbols.proofs.LawLemmas.{IsForGood-calls}
use Rattle.mp_symbols.proofs.laws.numbers_are_for_good.Goals as goal

pub returns-clause-given : goal.returns-clause-given
returns-clause-given g c table = with_name-given table.names

pub returns-clause-for_good : goal.returns-clause-for_good
returns-clause-for_good g c = IsForGood-calls
