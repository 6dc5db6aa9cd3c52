use Rattle.mp_vartree.proofs.VarsLemmas.{forgotten}
use Rattle.mp_vartree.proofs.vars.Vars.forget.Goals as goal

pub returns : goal.returns
returns c = rw (← c.self.view_is) (forgotten c.self.inside.roots c.self.inside.tags.entries c.remove.new.self.entries c.args.root c.remove.ensures.updates.0)
