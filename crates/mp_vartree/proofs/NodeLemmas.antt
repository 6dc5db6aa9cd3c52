-- What stands at a path, by what its node holds and by the children there; and what changes with one child.
use Rattle.std.proofs.Common.{◌≡◌, suc, ◌<◌, Bool, true, false, cond, List, [], ◌∷◌, ◌++◌, arith, Option, Some, None, refl, sym, ap, ◌∙◌}
use Rattle.std.specs.Option.{option_map, option_and_then}
use Rattle.std.specs.Ordering.{is_eq}
use Rattle.std.specs.declared.cmp.Ordering.{Ordering}
use Rattle.std.specs.Cmp.{IsTotalOrder}
use Rattle.std.specs.Cmp.Lexicographic.{slice_cmp}
use Rattle.std.specs.FinMap.{FinMap, IsAntisymmetric, get, empty, get-empty, retain_keys}
use Rattle.std.specs.Map.{lookup}
use Rattle.mp_vartree.specs.Layout.Tree.{Child, node_of, nodes_in}
use Rattle.mp_vartree.specs.Layout.Children.{paths_of}
use Rattle.mp_vartree.proofs.TreeLemmas.{ChangesChild, get-node_of, get-node_of-here, retain_steps}

pub passed : {A B : Type 0} (f : A → B) (b : Bool) (x : A) (o : Option A) (p : Option B) → p ≡ option_map f o → cond b (Some (f x)) p ≡ option_map f (cond b (Some x) o)
passed f true x o p e = refl
passed f false x o p e = e

pub then_map : {A B C : Type 0} (f : A → B) (g : B → Option C) (o : Option A) → option_and_then g (option_map f o) ≡ option_and_then (λ a. g (f a)) o
then_map f g None = refl
then_map f g (Some x) = refl

module _ {K X : Type 0} (R : K → K → Ordering) (o : IsTotalOrder R) (same' : IsAntisymmetric R) where
  child_paths : (p : K) (children : List (K × Child R X)) → lookup (λ k. is_eq (R p k)) (paths_of children) ≡ option_map (λ g. g.value.paths) (lookup (λ k. is_eq (R p k)) children)
  child_paths p [] = refl
  child_paths p (e ∷ es) = passed (λ g. g.value.paths) (is_eq (R p e.0)) e.1 _ _ (child_paths p es)

  pub get-here : (held : Option X) (children : List (K × Child R X)) → get (node_of R held (paths_of children)) [] ≡ held
  get-here held children = get-node_of-here R o same' held (paths_of children)

  pub get-behind : (held : Option X) (children : List (K × Child R X)) (p : K) (rest : List K)
      → get (node_of R held (paths_of children)) (p ∷ rest) ≡ option_and_then (λ g. get g.value.paths rest) (lookup (λ k. is_eq (R p k)) children)
  get-behind held children p rest =
      get-node_of R o same' held (paths_of children) p rest ∙ ap (option_and_then (λ child. get child rest)) (child_paths p children)
      ∙ then_map (λ g. g.value.paths) (λ child. get child rest) (lookup (λ k. is_eq (R p k)) children)

  -- a child's paths, or none
  abbrev pub below : Option (Child R X) → FinMap (slice_cmp R) X
  below None = empty
  below (Some g) = g.value.paths

  get-below : (child : Option (Child R X)) (ps : List K) → option_and_then (λ g. get g.value.paths ps) child ≡ get (below child) ps
  get-below None ps = sym (get-empty (slice_cmp R) ps)
  get-below (Some g) ps = refl

  changed : (b : Bool) (w : Option (Child R X)) (old : Option (Child R X)) (ps : List K) → option_and_then (λ g. get g.value.paths ps) (cond b w old) ≡ cond b (get (below w) ps) (option_and_then (λ g. get g.value.paths ps) old)
  changed true w old ps = get-below w ps
  changed false w old ps = refl

  -- where one child changes
  pub changes_child : (held : Option X) (children new : List (K × Child R X)) (k : K) (w : Option (Child R X))
      → ((q : K) → lookup (λ p. is_eq (R q p)) new ≡ cond (is_eq (R k q)) w (lookup (λ p. is_eq (R q p)) children))
      → ChangesChild R o same' k (node_of R held (paths_of children)) (node_of R held (paths_of new)) (below (lookup (λ p. is_eq (R k p)) children)) (below w)
  changes_child held children new k w updates = record {
    here = get-here held new ∙ sym (get-here held children);
    behind = λ p ps.
        get-behind held new p ps ∙ ap (option_and_then (λ g. get g.value.paths ps)) (updates p)
        ∙ changed (is_eq (R k p)) w (lookup (λ q. is_eq (R p q)) children) ps ∙ ap (cond (is_eq (R k p)) (get (below w) ps)) (sym (get-behind held children p ps));
    before = λ ps. get-behind held children k ps ∙ get-below (lookup (λ p. is_eq (R k p)) children) ps;
  }

  -- where of each child those paths are kept that pass
  pub retained_children : (held held' : Option X) (children new : List (K × Child R X)) (test : List K → Bool) → held' ≡ cond (test []) held None
      → ((q : K) (ps : List K) → option_and_then (λ g. get g.value.paths ps) (lookup (λ k. is_eq (R q k)) new) ≡ cond (test (q ∷ ps)) (option_and_then (λ g. get g.value.paths ps) (lookup (λ k. is_eq (R q k)) children)) None)
      → node_of R held' (paths_of new) ≡ retain_keys (node_of R held (paths_of children)) test
  retained_children held held' children new test here behind =
      retain_steps R o same' (node_of R held (paths_of children)) (node_of R held' (paths_of new)) test
      (get-here held' new ∙ here ∙ ap (λ h. cond (test []) h None) (sym (get-here held children)))
      (λ p ps. get-behind held' new p ps ∙ behind p ps ∙ ap (λ found. cond (test (p ∷ ps)) found None) (sym (get-behind held children p ps)))

pub child_falls : {J K X : Type 0} {R : K → K → Ordering} (before after : List (J × Child R X)) (k : J) (child : Child R X) → child.value.nodes < suc (nodes_in (before ++ (k, child) ∷ after))
child_falls [] after k child = omega arith
child_falls (e ∷ es) after k child = omega (arith, child_falls es after k child)
