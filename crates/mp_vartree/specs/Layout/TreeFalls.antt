-- Each child of a node has fewer nodes than the node.
use Rattle.std.specs.Prelude.{◌+◌, ◌≤◌, List, [], ◌∷◌, map}
use Rattle.std.specs.declared.cmp.Ordering.{Ordering}
use Rattle.std.proofs.Common.{arith}
use denote.Param.Weighed.{most}
use Rattle.mp_vartree.specs.Layout.Tree.{Child, nodes_in}

pub most_le-nodes_in : {J K X : Type 0} {R : K → K → Ordering} (es : List (J × Child R X)) → most (λ g. g.value.nodes + 1) (map (λ e. e.1) es) ≤ nodes_in es + 1
most_le-nodes_in [] = omega arith
most_le-nodes_in (e ∷ es) = omega (arith, most_le-nodes_in es)
