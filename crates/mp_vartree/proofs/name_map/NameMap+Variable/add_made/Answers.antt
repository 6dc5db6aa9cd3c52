use Rattle.mp_vartree.proofs.ResultLemmas.{on_ok}
use Rattle.mp_vartree.proofs.GatherLemmas.{gathers_names}
use Rattle.mp_vartree.proofs.name_map.NameMap+Variable.add_made.Goals as goal

pub returns : goal.returns
returns c =
    rw (← c.self.view_is)
    (on_ok c.add_made.result
    (gathers_names c.args.into.now.keys c.add_made.new.into.keys c.self.inside.groups.paths c.args.below c.args.pattern.now c.self.invariant) c.add_made.ensures)
