-- What a pattern takes away of a tree, and what is put into a group there.
use Rattle.std.proofs.Common.{◌≡◌, Bool, true, false, cond, not, List, [], ◌∷◌, Option, Some, None, BTreeMap, refl, sym, ap, ◌∙◌}
use Rattle.std.specs.Ordering.{eq_by_cmp}
use Rattle.std.specs.BTreeMap.{get_by}
use Rattle.std.specs.FinMap.{FinMap, get, insert, empty, retain_keys, get-empty}
use Rattle.mp_vartree.specs.Names.{shape_cmp, pattern_cmp, name_cmp}
use Rattle.mp_vartree.specs.Layout.Tree.{Child}
use Rattle.mp_vartree.specs.Layout.Groups.{covers, group_with, with_name}
use Rattle.mp_vartree.specs.declared.names.Part.{Part}
use Rattle.mp_vartree.specs.declared.names.Shape.{Shape}
use Rattle.mp_vartree.proofs.OrderLemmas.{by_shape}
use Rattle.mp_vartree.proofs.TreeLemmas.{retain_steps, retain_below, retain_empty, unchanged_below}
use Rattle.mp_vartree.proofs.NodeLemmas as node
use Rattle.mp_vartree.proofs.NameLemmas.{unless}
use Rattle.mp_vartree.proofs.StepLemmas as step
use Rattle.mp_vartree.proofs.StepLemmas.{without_child}

abbrev pub Children : Type 0 → Type 0
Children X = BTreeMap Shape (Child shape_cmp X)

-- the patterns that are left
abbrev pub is_left : Bool → List Shape → List Shape → Bool
is_left below pattern other = not (covers below pattern other)

left_behind : (below : Bool) (s : Shape) (rest : List Shape) (q : Shape) (qs : List Shape) → is_left below (s ∷ rest) (q ∷ qs) ≡ cond (eq_by_cmp shape_cmp s q) (is_left below rest qs) true
left_behind below s rest q qs = unless (eq_by_cmp shape_cmp s q) (covers below rest qs)

module _ {X : Type 0} where
  abbrev pub tree : Option X → Children X → FinMap pattern_cmp X
  tree held children = step.node_at by_shape held children

  abbrev pub below : Option (Child shape_cmp X) → FinMap pattern_cmp X
  below child = step.below by_shape child

  -- nothing is left below the empty pattern
  pub none_left : (paths : FinMap pattern_cmp X) → empty ≡ retain_keys paths (is_left true [])
  none_left paths = retain_steps shape_cmp by_shape.total by_shape.only paths empty (is_left true []) (get-empty pattern_cmp []) (λ p ps. get-empty pattern_cmp (p ∷ ps))

  -- and all but the empty pattern where what is below stays
  pub here_removed : (held : Option X) (children : Children X) → tree None children ≡ retain_keys (tree held children) (is_left false [])
  here_removed held children = node.retained_children shape_cmp by_shape.total by_shape.only held None children.entries children.entries (is_left false []) refl (λ q ps. refl)

  -- behind a shape
  pub child_removed : (held : Option X) (old new : Children X) (s : Shape) (before w : Option (Child shape_cmp X)) (below_too : Bool) (rest : List Shape)
      → before ≡ get_by (by_shape.derived s) old → step.Updated by_shape old new s w → below w ≡ retain_keys (below before) (is_left below_too rest)
      → tree held new ≡ retain_keys (tree held old) (is_left below_too (s ∷ rest))
  child_removed held old new s before w below_too rest was updates is =
      retain_below shape_cmp by_shape.total by_shape.only s (tree held old) (tree held new) (below before) (below w)
      (is_left below_too (s ∷ rest)) (is_left below_too rest) (step.changed by_shape held old new s before w was updates) is refl (left_behind below_too s rest)

  -- the same where it has no child
  pub no_child_removed : (held : Option X) (old same : Children X) (s : Shape) (below_too : Bool) (rest : List Shape)
      → None ≡ get_by (by_shape.derived s) old → same ≡ old → tree held same ≡ retain_keys (tree held old) (is_left below_too (s ∷ rest))
  no_child_removed held old same s below_too rest none is =
      ap (tree held) is
      ∙ child_removed held old old s None None below_too rest none (without_child by_shape old s none)
      (sym (retain_empty shape_cmp by_shape.total by_shape.only (is_left below_too rest)))

  -- a child in which nothing stands is dropped
  pub pruned : (held : Option X) (old new : Children X) (s : Shape) (child : Child shape_cmp X)
      → Some child ≡ get_by (by_shape.derived s) old → step.Updated by_shape old new s None → child.value.paths ≡ empty → tree held new ≡ tree held old
  pruned held old new s child was updates bare =
      unchanged_below shape_cmp by_shape.total by_shape.only s (tree held old) (tree held new) (below (Some child)) (below None)
      (step.changed by_shape held old new s (Some child) None was updates) (sym bare)

module _ {X : Type 0} where
  -- something more in the group at the node
  pub group_here : (group : FinMap name_cmp X) (children : Children (FinMap name_cmp X)) (name : List Part) (x : X)
      → tree (Some (insert group name x)) children ≡ with_name (tree (Some group) children) [] name x
  group_here group children name x =
      step.put_here by_shape (Some group) children (insert group name x)
      ∙ ap (λ o. group_with (tree (Some group) children) [] o name x) (sym (step.at_node by_shape (Some group) children))

  -- nothing where there is no group
  pub no_group_here : (children : Children (FinMap name_cmp X)) (name : List Part) (x : X) → tree None children ≡ with_name (tree None children) [] name x
  no_group_here children name x = ap (λ o. group_with (tree None children) [] o name x) (sym (step.at_node by_shape None children))

  -- in a group behind a shape
  pub group_behind : (held : Option (FinMap name_cmp X)) (old new : Children (FinMap name_cmp X)) (s : Shape) (before : Option (Child shape_cmp (FinMap name_cmp X))) (child : Child shape_cmp (FinMap name_cmp X))
      (rest : List Shape) (name : List Part) (x : X) → before ≡ get_by (by_shape.derived s) old → step.Updated by_shape old new s (Some child)
      → child.value.paths ≡ with_name (below before) rest name x → tree held new ≡ with_name (tree held old) (s ∷ rest) name x
  group_behind held old new s before child rest name x was updates is =
      let there = (step.changed by_shape held old new s before (Some child) was updates).before rest in
      elim (get (below before) rest) as (λ o. get (below before) rest ≡ o → child.value.paths ≡ group_with (below before) rest o name x → tree held new ≡ with_name (tree held old) (s ∷ rest) name x) [
        | None ↦ λ none put.
            step.kept by_shape held old new s before child was updates put ∙ ap (λ o. group_with (tree held old) (s ∷ rest) o name x) (sym (there ∙ none))
        | Some g ↦ λ some put.
            step.inserted by_shape held old new s before child rest (insert g name x) was updates put ∙ ap (λ o. group_with (tree held old) (s ∷ rest) o name x) (sym (there ∙ some))
      ] refl is

  -- and nothing where the shape has no child
  pub no_group_behind : (held : Option (FinMap name_cmp X)) (old same : Children (FinMap name_cmp X)) (s : Shape) (rest : List Shape) (name : List Part) (x : X)
      → None ≡ get_by (by_shape.derived s) old → same ≡ old → tree held same ≡ with_name (tree held old) (s ∷ rest) name x
  no_group_behind held old same s rest name x none is =
      ap (tree held) is
      ∙ ap (λ o. group_with (tree held old) (s ∷ rest) o name x)
      (sym ((step.changed by_shape held old old s None None none (without_child by_shape old s none)).before rest ∙ get-empty pattern_cmp rest))
