use Rattle.std.proofs.Common.{[], ap, sym, ◌∙◌}
use Rattle.std.specs.FinMap.{get}
use Rattle.mp_vartree.proofs.OrderLemmas.{by_shape}
use Rattle.mp_vartree.proofs.StepLemmas.{at_node}
use Rattle.mp_vartree.proofs.pattern_tree.PatternTree.held.Goals as goal

pub returns : goal.returns
returns g c = c.as_ref.ensures.value ∙ sym (at_node by_shape c.self.inside.held c.self.inside.children) ∙ ap (λ t. get t.paths []) c.self.view_is
