use Rattle.std.proofs.Common.{ap, ◌∙◌}
use Rattle.std.specs.FinMap.{get}
use Rattle.mp_vartree.proofs.GroupLemmas.{found_by_name}
use Rattle.mp_vartree.proofs.group.Group.get.Goals as goal

pub returns : goal.returns
returns g c = c.get.ensures.value ∙ found_by_name c.self.inside.names.entries c.args.name.now ∙ ap (λ m. get m c.args.name.now) c.self.view_is
