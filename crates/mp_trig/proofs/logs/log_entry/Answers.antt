use Rattle.std.proofs.Common.{refl}
use Rattle.mp_trig.specs.Logs.{log_entry}
use Rattle.mp_trig.proofs.LogLemmas.{log_entry_bounds}
use Rattle.mp_trig.proofs.logs.log_entry.Goals as goal

pub returns-clause-exact : goal.returns-clause-exact
unfolding log_entry
returns-clause-exact c = refl

pub returns-clause-positive : goal.returns-clause-positive
unfolding log_entry
returns-clause-positive c = (log_entry_bounds c.args.k c.requires.first c.requires.last).0

pub returns-clause-below_part : goal.returns-clause-below_part
unfolding log_entry
returns-clause-below_part c = (log_entry_bounds c.args.k c.requires.first c.requires.last).1
