use Rattle.mp_vartree.proofs.LawLemmas.{matches_one}
use Rattle.mp_vartree.proofs.laws.one_pattern_matches.Goals as goal

pub returns : goal.returns
returns c = matches_one
