use Rattle.mp_vartree.proofs.GroupLemmas.{no_names, grouped_none}
use Rattle.mp_vartree.proofs.name_map.NameMap.new.Goals as goal

pub invariant_of-result : goal.invariant_of-result
invariant_of-result g c = grouped_none c.new.result.paths c.new.ensures

pub returns : goal.returns
returns g c = no_names c.new.result.paths c.new.ensures
