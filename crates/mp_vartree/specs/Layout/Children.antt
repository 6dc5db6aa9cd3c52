-- The children of a node, each by its step.
use Rattle.std.specs.Prelude.{List, map}
use Rattle.std.specs.declared.cmp.Ordering.{Ordering}
use Rattle.std.specs.Cmp.Lexicographic.{slice_cmp}
use Rattle.std.specs.FinMap.{FinMap}
use Rattle.mp_vartree.specs.Layout.Tree.{Child}

abbrev pub paths_of : {K X : Type 0} {R : K → K → Ordering} → List (K × Child R X) → List (K × FinMap (slice_cmp R) X)
paths_of children = map (λ e. (e.0, e.1.value.paths)) children
