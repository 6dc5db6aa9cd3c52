-- What stands at the paths of a tree, step by step.
use Rattle.std.proofs.Common.{◌≡◌, Bool, true, false, cond, not, ◌&&◌, List, [], ◌∷◌, Option, Some, None, refl, sym, ap, ◌∙◌}
use Rattle.std.specs.Option.{option_and_then}
use Rattle.std.specs.Ordering.{eq_by_cmp, is_eq, ordering_then}
use Rattle.std.specs.declared.cmp.Ordering.{Ordering}
use Rattle.std.specs.declared.cmp.Ordering.TheVariants.{Less, Equal, Greater}
use Rattle.std.specs.Cmp.{IsTotalOrder, eq_by_cmp_equiv}
use Rattle.std.specs.Cmp.Lexicographic.{slice_cmp, lists_total}
use Rattle.std.specs.FinMap.{FinMap, IsAntisymmetric, slice_cmp-IsAntisymmetric, empty, get, insert, find, entries, retain_keys, get-insert, get-empty, get-entries, get-retain_keys, same_map}
use Rattle.std.specs.Map.{lookup}
use Rattle.mp_vartree.specs.Layout.Tree.{starts, with_each, with_child, joined, node_of}

-- the first, if there is one, else the other
abbrev pub option_or : {X : Type 0} → Option X → Option X → Option X
option_or None other = other
option_or (Some x) other = Some x

option_or_none : {X : Type 0} (o : Option X) → option_or o None ≡ o
option_or_none None = refl
option_or_none (Some x) = refl

then_is_eq : (r s : Ordering) → is_eq (ordering_then r s) ≡ (is_eq r && is_eq s)
then_is_eq Less s = refl
then_is_eq Equal s = refl
then_is_eq Greater s = refl

-- an entry put behind a step
one_more : {X : Type 0} (a b : Bool) (x : X) (found other : Option X) → cond (a && b) (Some x) (cond a (option_or found other) other) ≡ cond a (option_or (cond b (Some x) found) other) other
one_more true true x found other = refl
one_more true false x found other = refl
one_more false b x found other = refl

by_step : {K : Type 0} (P : List K → Type 0) → P [] → ((p : K) (ps : List K) → P (p ∷ ps)) → (q : List K) → P q
by_step P here behind [] = here
by_step P here behind (p ∷ ps) = behind p ps

pub both_same : {X : Type 0} (b : Bool) (x : X) → x ≡ cond b x x
both_same true x = refl
both_same false x = refl

pub through : {A X : Type 0} (b : Bool) (f : A → Option X) (a : A) (other : Option A) → cond b (f a) (option_and_then f other) ≡ option_and_then f (cond b (Some a) other)
through true f a other = refl
through false f a other = refl

pub is_equal : (r : Ordering) → is_eq r ≡ true → r ≡ Equal
is_equal Less e = cc
is_equal Equal e = refl
is_equal Greater e = cc

replaced : {X : Type 0} (a : Bool) (found other : Option X) → cond a (option_or found (cond (not a) other None)) (cond (not a) other None) ≡ cond a found other
replaced true found other = option_or_none found
replaced false found other = refl

module _ {K : Type 0} (R : K → K → Ordering) (o : IsTotalOrder R) (same : IsAntisymmetric R) where
  abbrev paths_total : IsTotalOrder (slice_cmp R)
  paths_total = lists_total o

  abbrev paths_same : IsAntisymmetric (slice_cmp R)
  paths_same = slice_cmp-IsAntisymmetric same

  -- steps that tie are equal
  pub tied : (k p : K) → eq_by_cmp R k p ≡ true → k ≡ p
  tied k p e = same k p (is_equal (R k p) e)

  module _ {X : Type 0} where
    -- behind another step nothing changes, and behind the step itself what is put there comes first
    get-with_each : (k p : K) (ps : List K) (es : List (List K × X)) (m : FinMap (slice_cmp R) X)
        → get (with_each R k es m) (p ∷ ps) ≡ cond (eq_by_cmp R p k) (option_or (find (slice_cmp R) ps es) (get m (p ∷ ps))) (get m (p ∷ ps))
    get-with_each k p ps [] m = both_same (eq_by_cmp R p k) _
    get-with_each k p ps (e ∷ es) m =
        get-insert paths_total (with_each R k es m) (k ∷ e.0) e.1 (p ∷ ps)
        ∙ ap (λ b. cond b (Some e.1) (get (with_each R k es m) (p ∷ ps))) (then_is_eq (R p k) (slice_cmp R ps e.0))
        ∙ ap (cond (eq_by_cmp R p k && eq_by_cmp (slice_cmp R) ps e.0) (Some e.1)) (get-with_each k p ps es m)
        ∙ one_more (eq_by_cmp R p k) (eq_by_cmp (slice_cmp R) ps e.0) e.1 (find (slice_cmp R) ps es) (get m (p ∷ ps))

    get-with_each-here : (k : K) (es : List (List K × X)) (m : FinMap (slice_cmp R) X) → get (with_each R k es m) [] ≡ get m []
    get-with_each-here k [] m = refl
    get-with_each-here k (e ∷ es) m = get-insert paths_total (with_each R k es m) (k ∷ e.0) e.1 [] ∙ get-with_each-here k es m

    get-others : (k : K) (q : List K) (m : FinMap (slice_cmp R) X) → get (retain_keys m (λ path. not (starts R k path))) q ≡ cond (not (starts R k q)) (get m q) None
    get-others k q m = get-retain_keys m (λ path. not (starts R k path)) q (λ x e. ap (λ path. not (starts R k path)) (sym (paths_same q x e)))

    get-with_child : (k p : K) (ps : List K) (child m : FinMap (slice_cmp R) X) → get (with_child R k child m) (p ∷ ps) ≡ cond (eq_by_cmp R p k) (get child ps) (get m (p ∷ ps))
    get-with_child k p ps child m =
        get-with_each k p ps (entries child) (retain_keys m (λ path. not (starts R k path)))
        ∙ ap (λ other. cond (eq_by_cmp R p k) (option_or (find (slice_cmp R) ps (entries child)) other) other) (get-others k (p ∷ ps) m)
        ∙ replaced (eq_by_cmp R p k) (find (slice_cmp R) ps (entries child)) (get m (p ∷ ps))
        ∙ ap (λ found. cond (eq_by_cmp R p k) found (get m (p ∷ ps))) (sym (get-entries child ps))

    get-with_child-here : (k : K) (child m : FinMap (slice_cmp R) X) → get (with_child R k child m) [] ≡ get m []
    get-with_child-here k child m = get-with_each-here k (entries child) (retain_keys m (λ path. not (starts R k path))) ∙ get-others k [] m

    pub get-joined : (es : List (K × FinMap (slice_cmp R) X)) (p : K) (ps : List K) → get (joined R es) (p ∷ ps) ≡ option_and_then (λ child. get child ps) (lookup (λ k. is_eq (R p k)) es)
    get-joined [] p ps = get-empty (slice_cmp R) (p ∷ ps)
    get-joined (e ∷ es) p ps =
        get-with_child e.0 p ps e.1 (joined R es) ∙ ap (cond (eq_by_cmp R p e.0) (get e.1 ps)) (get-joined es p ps)
        ∙ through (eq_by_cmp R p e.0) (λ child. get child ps) e.1 (lookup (λ k. is_eq (R p k)) es)

    pub get-joined-here : (es : List (K × FinMap (slice_cmp R) X)) → get (joined R es) [] ≡ None
    get-joined-here [] = get-empty (slice_cmp R) []
    get-joined-here (e ∷ es) = get-with_child-here e.0 e.1 (joined R es) ∙ get-joined-here es

    -- at the node itself
    pub get-node_of-here : (held : Option X) (es : List (K × FinMap (slice_cmp R) X)) → get (node_of R held es) [] ≡ held
    get-node_of-here None es = get-joined-here es
    get-node_of-here (Some x) es = get-insert paths_total (joined R es) [] x []

    -- behind a step it is what stands in the child
    pub get-node_of : (held : Option X) (es : List (K × FinMap (slice_cmp R) X)) (p : K) (ps : List K)
        → get (node_of R held es) (p ∷ ps) ≡ option_and_then (λ child. get child ps) (lookup (λ k. is_eq (R p k)) es)
    get-node_of None es p ps = get-joined es p ps
    get-node_of (Some x) es p ps = get-insert paths_total (joined R es) [] x (p ∷ ps) ∙ get-joined es p ps

    -- two trees with the same at each path are one
    pub same_paths : (m n : FinMap (slice_cmp R) X) → get m [] ≡ get n [] → ((p : K) (ps : List K) → get m (p ∷ ps) ≡ get n (p ∷ ps)) → m ≡ n
    same_paths m n here behind = same_map paths_total paths_same m n (by_step (λ q. get m q ≡ get n q) here behind)

    -- a tree and what it is after a change behind one step, where the child's paths were others
    pub record ChangesChild (k : K) (m n child child' : FinMap (slice_cmp R) X) : Type 0 where
      pub here : get n [] ≡ get m []
      pub behind : (p : K) (ps : List K) → get n (p ∷ ps) ≡ cond (eq_by_cmp R k p) (get child' ps) (get m (p ∷ ps))
      pub before : (ps : List K) → get m (k ∷ ps) ≡ get child ps

    inserted_behind : (k p : K) (ps rest : List K) (x : X) (m child : FinMap (slice_cmp R) X) → ((qs : List K) → get m (k ∷ qs) ≡ get child qs)
        → cond (eq_by_cmp R k p) (get (insert child rest x) ps) (get m (p ∷ ps)) ≡ get (insert m (k ∷ rest) x) (p ∷ ps)
    inserted_behind k p ps rest x m child before =
        elim (eq_by_cmp R k p) as (λ b. eq_by_cmp R k p ≡ b → cond b (get (insert child rest x) ps) (get m (p ∷ ps)) ≡ get (insert m (k ∷ rest) x) (p ∷ ps)) [
          | true ↦ λ e.
              get-insert paths_total child rest x ps
              ∙ ap (cond (eq_by_cmp (slice_cmp R) ps rest) (Some x)) (sym (before ps) ∙ ap (λ q. get m (q ∷ ps)) (tied k p e))
              ∙ ap (λ b. cond (b && eq_by_cmp (slice_cmp R) ps rest) (Some x) (get m (p ∷ ps))) (sym ((eq_by_cmp_equiv o).symm p k ∙ e))
              ∙ ap (λ b. cond b (Some x) (get m (p ∷ ps))) (sym (then_is_eq (R p k) (slice_cmp R ps rest))) ∙ sym (get-insert paths_total m (k ∷ rest) x (p ∷ ps))
          | false ↦ λ e.
              ap (λ b. cond (b && eq_by_cmp (slice_cmp R) ps rest) (Some x) (get m (p ∷ ps))) (sym ((eq_by_cmp_equiv o).symm p k ∙ e))
              ∙ ap (λ b. cond b (Some x) (get m (p ∷ ps))) (sym (then_is_eq (R p k) (slice_cmp R ps rest))) ∙ sym (get-insert paths_total m (k ∷ rest) x (p ∷ ps))
        ] refl

    -- what is put into a child is put into the tree
    pub insert_below : (k : K) (m n child child' : FinMap (slice_cmp R) X) (rest : List K) (x : X) → ChangesChild k m n child child' → child' ≡ insert child rest x → n ≡ insert m (k ∷ rest) x
    insert_below k m n child child' rest x c is =
        same_paths n (insert m (k ∷ rest) x) (c.here ∙ sym (get-insert paths_total m (k ∷ rest) x []))
        (λ p ps. c.behind p ps ∙ ap (λ t. cond (eq_by_cmp R k p) (get t ps) (get m (p ∷ ps))) is ∙ inserted_behind k p ps rest x m child c.before)

    -- what is put at the node itself
    pub insert_here : (m n : FinMap (slice_cmp R) X) (x : X) → get n [] ≡ Some x → ((p : K) (ps : List K) → get n (p ∷ ps) ≡ get m (p ∷ ps)) → n ≡ insert m [] x
    insert_here m n x here behind =
        same_paths n (insert m [] x) (here ∙ sym (get-insert paths_total m [] x [])) (λ p ps. behind p ps ∙ sym (get-insert paths_total m [] x (p ∷ ps)))

    kept_behind : (k p : K) (ps : List K) (m child child' : FinMap (slice_cmp R) X) → ((qs : List K) → get m (k ∷ qs) ≡ get child qs) → child' ≡ child
        → cond (eq_by_cmp R k p) (get child' ps) (get m (p ∷ ps)) ≡ get m (p ∷ ps)
    kept_behind k p ps m child child' before is =
        elim (eq_by_cmp R k p) as (λ b. eq_by_cmp R k p ≡ b → cond b (get child' ps) (get m (p ∷ ps)) ≡ get m (p ∷ ps)) [
          | true ↦ λ e. ap (λ t. get t ps) is ∙ sym (before ps) ∙ ap (λ q. get m (q ∷ ps)) (tied k p e)
          | false ↦ λ e. refl
        ] refl

    -- nothing changes with a child that stays
    pub unchanged_below : (k : K) (m n child child' : FinMap (slice_cmp R) X) → ChangesChild k m n child child' → child' ≡ child → n ≡ m
    unchanged_below k m n child child' c is =
        same_paths n m c.here (λ p ps. c.behind p ps ∙ kept_behind k p ps m child child' c.before is)

    pub get-kept : (m : FinMap (slice_cmp R) X) (f : List K → Bool) (q : List K) → get (retain_keys m f) q ≡ cond (f q) (get m q) None
    get-kept m f q = get-retain_keys m f q (λ x e. ap f (sym (paths_same q x e)))

    -- what stays of a tree, step by step
    pub retain_steps : (m n : FinMap (slice_cmp R) X) (f : List K → Bool) → get n [] ≡ cond (f []) (get m []) None
        → ((p : K) (ps : List K) → get n (p ∷ ps) ≡ cond (f (p ∷ ps)) (get m (p ∷ ps)) None) → n ≡ retain_keys m f
    retain_steps m n f here behind = same_paths n (retain_keys m f) (here ∙ sym (get-kept m f [])) (λ p ps. behind p ps ∙ sym (get-kept m f (p ∷ ps)))

    kept_of_child : (k p : K) (ps : List K) (m child child' : FinMap (slice_cmp R) X) (f f' : List K → Bool) → ((qs : List K) → get m (k ∷ qs) ≡ get child qs) → child' ≡ retain_keys child f'
        → ((q : K) (qs : List K) → f (q ∷ qs) ≡ cond (eq_by_cmp R k q) (f' qs) true)
        → cond (eq_by_cmp R k p) (get child' ps) (get m (p ∷ ps)) ≡ cond (f (p ∷ ps)) (get m (p ∷ ps)) None
    kept_of_child k p ps m child child' f f' before is tests =
        elim (eq_by_cmp R k p) as (λ b. eq_by_cmp R k p ≡ b → cond b (get child' ps) (get m (p ∷ ps)) ≡ cond (f (p ∷ ps)) (get m (p ∷ ps)) None) [
          | true ↦ λ e.
              ap (λ t. get t ps) is ∙ get-kept child f' ps ∙ ap (λ o. cond (f' ps) o None) (sym (before ps) ∙ ap (λ q. get m (q ∷ ps)) (tied k p e))
              ∙ ap (λ b. cond b (get m (p ∷ ps)) None) (sym (tests p ps ∙ ap (λ b. cond b (f' ps) true) e))
          | false ↦ λ e. ap (λ b. cond b (get m (p ∷ ps)) None) (sym (tests p ps ∙ ap (λ b. cond b (f' ps) true) e))
        ] refl

    -- where the test is one of the paths of a child, and passes all others
    pub retain_below : (k : K) (m n child child' : FinMap (slice_cmp R) X) (f f' : List K → Bool) → ChangesChild k m n child child' → child' ≡ retain_keys child f'
        → f [] ≡ true → ((q : K) (qs : List K) → f (q ∷ qs) ≡ cond (eq_by_cmp R k q) (f' qs) true) → n ≡ retain_keys m f
    retain_below k m n child child' f f' c is here tests =
        retain_steps m n f (c.here ∙ ap (λ b. cond b (get m []) None) (sym here))
        (λ p ps. c.behind p ps ∙ kept_of_child k p ps m child child' f f' c.before is tests)

    -- no paths are kept of none
    pub retain_empty : (f : List K → Bool) → retain_keys (empty {X = X} {R = slice_cmp R}) f ≡ empty
    retain_empty f = same_map paths_total paths_same _ _ (λ q. get-kept empty f q ∙ ap (λ o. cond (f q) o None) (get-empty (slice_cmp R) q) ∙ sym (both_same (f q) None) ∙ sym (get-empty (slice_cmp R) q))

    pub retain_none : (m : FinMap (slice_cmp R) X) → empty ≡ retain_keys m (λ path. false)
    retain_none m = same_map paths_total paths_same _ _ (λ q. get-empty (slice_cmp R) q ∙ sym (get-kept m (λ path. false) q))
