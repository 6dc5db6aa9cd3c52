use Rattle.std.proofs.Common.{ap, ◌∙◌}
use Rattle.mp_vartree.specs.Layout.Groups.{all_names}
use Rattle.mp_vartree.proofs.GroupLemmas.{names_removed, grouped_removed}
use Rattle.mp_vartree.proofs.name_map.NameMap.forget.Goals as goal

pub invariant_of-self : goal.invariant_of-self
invariant_of-self g c = rw c.remove.ensures (grouped_removed c.self.inside.groups.paths _ c.self.invariant)

pub returns : goal.returns
returns g c = rw (← c.self.view_is) (ap all_names c.remove.ensures ∙ names_removed c.self.inside.groups.paths c.args.below c.args.pattern.now)
