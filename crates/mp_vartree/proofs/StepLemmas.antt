-- What the map of a node's children says of a tree.
use Rattle.std.proofs.Common.{◌≡◌, Bool, true, false, cond, List, [], ◌∷◌, Option, Some, None, BTreeMap, Bor, refl, sym, ap, ◌∙◌, subst}
use Rattle.std.specs.Option.{option_and_then, option_copied, IsSome}
use Rattle.std.specs.Ordering.{eq_by_cmp}
use Rattle.std.specs.Cmp.Lexicographic.{slice_cmp}
use Rattle.std.specs.BTreeMap as map
use Rattle.std.specs.BTreeMap.{get_by, is_at}
use Rattle.std.specs.FinMap.{FinMap, get, insert, empty}
use Rattle.mp_vartree.specs.Layout.Tree.{Grown, Child, node_of}
use Rattle.mp_vartree.specs.Layout.Children.{paths_of}
use Rattle.mp_vartree.proofs.OrderLemmas.{Steps}
use Rattle.mp_vartree.proofs.TreeLemmas.{ChangesChild, insert_below, insert_here, unchanged_below, tied}
use Rattle.mp_vartree.proofs.NodeLemmas as node
use Rattle.mp_vartree.proofs.NodeLemmas.{then_map}

absent_child : {A : Type 0} (b : Bool) (o o' : Option A) → None ≡ o → (b ≡ true → o ≡ o') → o' ≡ cond b None o'
absent_child true o o' none same = sym (none ∙ same refl)
absent_child false o o' none same = refl

module _ {K X : Type 0} (s : Steps K) where
  -- a node of a tree
  abbrev pub node_at : Option X → BTreeMap K (Child s.order X) → FinMap (slice_cmp s.order) X
  node_at held children = node_of s.order held (paths_of children.entries)

  abbrev pub below : Option (Child s.order X) → FinMap (slice_cmp s.order) X
  below child = node.below s.order s.total s.only child

  -- the map of children has another one for a step
  abbrev pub Updated : BTreeMap K (Child s.order X) → BTreeMap K (Child s.order X) → K → Option (Child s.order X) → Type 0
  Updated old new step w = (q : K) → map.get s.derived new q ≡ cond (is_at (s.derived step) q) w (map.get s.derived old q)

  pub changed : (held : Option X) (old new : BTreeMap K (Child s.order X)) (step : K) (before w : Option (Child s.order X)) → before ≡ get_by (s.derived step) old → Updated old new step w
      → ChangesChild s.order s.total s.only step (node_at held old) (node_at held new) (below before) (below w)
  changed held old new step before w was updates =
      subst (λ child. ChangesChild s.order s.total s.only step (node_at held old) (node_at held new) (below child) (below w))
      (sym (was ∙ ap (λ R. get_by (R step) old) s.same))
      (node.changes_child s.order s.total s.only held old.entries new.entries step w
      (subst (λ R. (q : K) → map.get R new q ≡ cond (is_at (R step) q) w (map.get R old q)) s.same updates))

  pub inserted : (held : Option X) (old new : BTreeMap K (Child s.order X)) (step : K) (before : Option (Child s.order X)) (child : Child s.order X) (rest : List K) (x : X)
      → before ≡ get_by (s.derived step) old → Updated old new step (Some child) → child.value.paths ≡ insert (below before) rest x
      → node_at held new ≡ insert (node_at held old) (step ∷ rest) x
  inserted held old new step before child rest x was updates is =
      insert_below s.order s.total s.only step (node_at held old) (node_at held new) (below before) child.value.paths rest x
      (changed held old new step before (Some child) was updates) is

  pub kept : (held : Option X) (old new : BTreeMap K (Child s.order X)) (step : K) (before : Option (Child s.order X)) (child : Child s.order X)
      → before ≡ get_by (s.derived step) old → Updated old new step (Some child) → child.value.paths ≡ below before → node_at held new ≡ node_at held old
  kept held old new step before child was updates is =
      unchanged_below s.order s.total s.only step (node_at held old) (node_at held new) (below before) child.value.paths
      (changed held old new step before (Some child) was updates) is

  pub put_here : (held : Option X) (children : BTreeMap K (Child s.order X)) (x : X) → node_at (Some x) children ≡ insert (node_at held children) [] x
  put_here held children x =
      insert_here s.order s.total s.only (node_at held children) (node_at (Some x) children) x
      (node.get-here s.order s.total s.only (Some x) children.entries)
      (λ p ps. node.get-behind s.order s.total s.only (Some x) children.entries p ps
      ∙ sym (node.get-behind s.order s.total s.only held children.entries p ps))

  -- what `get_mut` lends is written back as the child of that step
  pub written_back : (old new : BTreeMap K (Child s.order X)) (step : K) (before w : Child s.order X) → Some before ≡ get_by (s.derived step) old
      → map.WritesThrough s.derived (s.derived step) old w new → Updated old new step (Some w)
  written_back old new step before w was through = (through.3 (subst IsSome was refl)).0

  -- a new child, where the step had none
  pub added : (held : Option X) (old same new : BTreeMap K (Child s.order X)) (step : K) (start grown : Grown s.order X) (child : Child s.order X) (rest : List K) (x : X)
      → None ≡ get_by (s.derived step) old → same ≡ old → map.Updates s.derived same new step (Some child)
      → start.paths ≡ empty → grown.paths ≡ insert start.paths rest x → child.value ≡ grown → node_at held new ≡ insert (node_at held old) (step ∷ rest) x
  added held old same new step start grown child rest x none is updates fresh put boxed =
      inserted held old new step None child rest x none
      (subst (λ m. Updated m new step (Some child)) is updates.0) (ap (λ g. g.paths) boxed ∙ put ∙ ap (λ paths. insert paths rest x) fresh)

  -- where a step has no child, to take it away changes nothing
  pub without_child : (old : BTreeMap K (Child s.order X)) (step : K) → None ≡ get_by (s.derived step) old → Updated old old step None
  without_child old step none q =
      subst (λ R. None ≡ get_by (R step) old → map.get R old q ≡ cond (is_at (R step) q) None (map.get R old q)) (sym s.same)
      (λ none. absent_child (eq_by_cmp s.order step q) (map.get s.order old step) (map.get s.order old q) none (λ e. ap (map.get s.order old) (tied s.order s.total s.only step q e))) none

  -- what stands at a node
  pub at_node : (held : Option X) (children : BTreeMap K (Child s.order X)) → get (node_at held children) [] ≡ held
  at_node held children = node.get-here s.order s.total s.only held children.entries

  -- what stands behind a step, by the child that is found there
  pub behind_step : (held : Option X) (children : BTreeMap K (Child s.order X)) (step : K) (found : Option (Bor (Child s.order X))) → option_copied found ≡ get_by (s.derived step) children
      → (rest : List K) → get (node_at held children) (step ∷ rest) ≡ option_and_then (λ child. get child.now.value.paths rest) found
  behind_step held children step found is rest =
      node.get-behind s.order s.total s.only held children.entries step rest
      ∙ ap (option_and_then (λ child. get child.value.paths rest)) (ap (λ R. get_by (R step) children) (sym s.same) ∙ sym is)
      ∙ then_map (λ child. child.now) (λ child. get child.value.paths rest) found
