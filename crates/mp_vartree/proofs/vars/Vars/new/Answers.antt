use Rattle.mp_vartree.proofs.VarsLemmas.{seen_empty}
use Rattle.mp_vartree.proofs.vars.Vars.new.Goals as goal

pub returns : goal.returns
returns c = rw c.new.ensures.empty seen_empty
