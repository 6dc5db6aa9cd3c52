use Rattle.std.proofs.Common.{refl}
use Rattle.mp_trig.specs.Sines.{angle_entry}
use Rattle.mp_trig.proofs.SineLemmas.{angle_entry_bounds}
use Rattle.mp_trig.proofs.table.angle_entry.Goals as goal

pub returns-clause-exact : goal.returns-clause-exact
unfolding angle_entry
returns-clause-exact c = refl

pub returns-clause-positive : goal.returns-clause-positive
unfolding angle_entry
returns-clause-positive c = (angle_entry_bounds c.args.k c.requires.first c.requires.last).0

pub returns-clause-small : goal.returns-clause-small
unfolding angle_entry
returns-clause-small c = (angle_entry_bounds c.args.k c.requires.first c.requires.last).1
