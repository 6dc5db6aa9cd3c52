-- How a tree is seen: what a node holds, and its children, as one finite map from paths.
use Rattle.std.specs.Prelude.{ℕ, ◌+◌, Bool, false, not, List, [], ◌∷◌, Option, Some, None, refl}
use Rattle.std.specs.Coded.{Coded, code_by, coded×, coded_ℕ, coded_list}
use Rattle.std.specs.Ordering.{eq_by_cmp}
use Rattle.std.specs.declared.cmp.Ordering.{Ordering}
use Rattle.std.specs.Cmp.Lexicographic.{slice_cmp}
use Rattle.std.specs.Global.{Box}
use Rattle.std.specs.FinMap as finite
use Rattle.std.specs.FinMap.{FinMap}

-- a tree: what stands at its paths, and the number of its nodes
pub record Grown {K : Type 0} (R : K → K → Ordering) (X : Type 0) : Type 0 where
  pub paths : FinMap (slice_cmp R) X
  pub nodes : ℕ

abbrev pub grown_code : {K X : Type 0} {R : K → K → Ordering} → Coded K → Coded X → Coded (Grown R X)
grown_code {K} {X} {R} k x =
    code_by (FinMap (slice_cmp R) X × ℕ) (coded× (finite.code (coded_list k) x) coded_ℕ) (λ g. (g.paths, g.nodes)) (λ p. record { paths = p.0; nodes = p.1 }) (λ _. refl)

-- the path begins with that step
abbrev pub starts : {K : Type 0} → (K → K → Ordering) → K → List K → Bool
starts R k [] = false
starts R k (p ∷ ps) = eq_by_cmp R p k

module _ {K X : Type 0} (R : K → K → Ordering) where
  abbrev pub with_each : K → List (List K × X) → FinMap (slice_cmp R) X → FinMap (slice_cmp R) X
  with_each k [] m = m
  with_each k (e ∷ es) m = finite.insert (with_each k es m) (k ∷ e.0) e.1

  -- a child's paths behind its step, in place of what began with that step
  abbrev pub with_child : K → FinMap (slice_cmp R) X → FinMap (slice_cmp R) X → FinMap (slice_cmp R) X
  with_child k child m = with_each k (finite.entries child) (finite.retain_keys m (λ path. not (starts R k path)))

  -- the paths of children, each behind its step
  abbrev pub joined : List (K × FinMap (slice_cmp R) X) → FinMap (slice_cmp R) X
  joined [] = finite.empty
  joined (e ∷ es) = with_child e.0 e.1 (joined es)

  -- a node: what stands at it, and the paths of its children
  abbrev pub node_of : Option X → List (K × FinMap (slice_cmp R) X) → FinMap (slice_cmp R) X
  node_of None children = joined children
  node_of (Some x) children = finite.insert (joined children) [] x

-- a child stands in a box of its own, so that a node's map of children is small
abbrev pub Child : {K : Type 0} → (K → K → Ordering) → Type 0 → Type 0
Child R X = Box (Grown R X)

abbrev pub nodes_in : {J K X : Type 0} {R : K → K → Ordering} → List (J × Child R X) → ℕ
nodes_in [] = 0
nodes_in (e ∷ es) = e.1.value.nodes + nodes_in es
