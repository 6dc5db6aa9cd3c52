use Rattle.mp_vartree.proofs.OrderLemmas.{by_shape}
use Rattle.mp_vartree.proofs.NodeLemmas as node
use Rattle.mp_vartree.proofs.pattern_tree.PatternTree.children.Goals as goal

pub returns-clause-paths : goal.returns-clause-paths
returns-clause-paths g c part rest = rw (← c.self.view_is) (node.get-behind by_shape.order by_shape.total by_shape.only c.self.inside.held c.self.inside.children.entries part rest)
