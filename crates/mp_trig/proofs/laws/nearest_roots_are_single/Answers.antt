use Rattle.mp_trig.proofs.RootLemmas.{nearest_root_is, nearest_root_only}
use Rattle.mp_trig.proofs.laws.nearest_roots_are_single.Goals as goal

pub returns-clause-nearest : goal.returns-clause-nearest
returns-clause-nearest c = nearest_root_is

pub returns-clause-only : goal.returns-clause-only
returns-clause-only c = nearest_root_only
