use Rattle.mp_trig.proofs.RootLemmas.{root_above_is}
use Rattle.mp_trig.proofs.roots.root_above.Goals as goal

pub returns-clause-not_below : goal.returns-clause-not_below
returns-clause-not_below c = root_above_is c.args.n c.ranges.n.fits
