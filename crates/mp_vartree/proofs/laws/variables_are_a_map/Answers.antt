use Rattle.mp_vartree.proofs.LawLemmas.{tells_apart, puts_one, takes_those}
use Rattle.mp_vartree.proofs.laws.variables_are_a_map.Goals as goal

pub returns : goal.returns
returns c = record { apart = tells_apart; puts = puts_one; takes = takes_those }
