-- Unknowns that are gathered group by group.
use Rattle.std.proofs.Common.{◌≡◌, ℕ, zero, suc, cond, map, take, get_or, ◌+◌, ◌<◌, Bool, true, false, ◌&&◌, ◌||◌, List, [], ◌∷◌, length, ◌⊎◌, inl, inr, Option, Some, None, T, slice_get, refl, sym, ap, ◌∙◌, subst, arith}
use Rattle.std.specs.Global.{Vec}
use Rattle.std.specs.Option.{option_and_then, unwrap_or}
use Rattle.std.proofs.lemmas.Bool.{cases_order, and_parts}
use Rattle.std.proofs.lemmas.List.{take_more, map-append}
use Rattle.std.proofs.lemmas.List.Folds.{list_any-append}
use Rattle.std.specs.declared.cmp.Ordering.TheVariants.{Less}
use Rattle.std.specs.Ordering.{is_eq, is_lt, eq_by_cmp, nat_cmp}
use Rattle.std.specs.Map.{lookup, keys_of}
use Rattle.std.specs.List.{IsDistinct, AllByRecursion}
use Rattle.std.specs.List.Sorted.{IsStrictlySortedBy}
use Rattle.std.specs.Cmp.{eq_by_cmp_equiv, nat_cmp_total, tied_itself}
use Rattle.std.specs.Cmp.Lexicographic.{slice_cmp}
use Rattle.std.specs.FinMap.{FinMap, get, get-from_entries, is_sorted}
use Rattle.std.specs.FinMap.Entries.{below_all, where_key}
use Rattle.std.proofs.lemmas.Option.{slice_get_within}
use Rattle.std.proofs.lemmas.Map.Entries.{place_from_lookup, lookup_from_place}
use Rattle.std.proofs.lemmas.Map.Keys.{IsDistinct-from_sorted}
use Rattle.mp_pool.specs.declared.Term.{Term}
use Rattle.mp_vartree.specs.Names.{name_cmp, shape_cmp, pattern_cmp, is_meant, pattern_of}
use Rattle.mp_vartree.specs.Layout.Tree.{Child, nodes_in}
use Rattle.mp_vartree.specs.Layout.Groups.{covers, listed, by_names, all_names, AreGrouped}
use Rattle.mp_vartree.specs.Variables.{made_for, made_for_any}
use Rattle.mp_vartree.specs.Layout.Gathered.{has, Occurs, Gathers, InVariable, InGroup}
use Rattle.mp_vartree.specs.declared.names.Part.{Part}
use Rattle.mp_vartree.specs.declared.names.Shape.{Shape}
use Rattle.mp_vartree.specs.declared.entry.Variable.{Variable}
use Rattle.mp_vartree.proofs.OrderLemmas.{by_part, by_shape}
use Rattle.mp_vartree.proofs.TreeLemmas.{tied}
use Rattle.mp_vartree.proofs.GroupLemmas.{held_cmp, names_total, covers_name, get-all_names, same_some}
use Rattle.mp_vartree.proofs.MadeLemmas.{has_append, made_from, made_to}

both : (c : Bool) → cond c true true ≡ true
both true = refl
both false = refl

or-true : (a : Bool) → (a || true) ≡ true
or-true true = refl
or-true false = refl

either : (a b : Bool) → (a || b) ≡ true → (a ≡ true) ⊎ (b ≡ true)
either true b e = inl refl
either false b e = inr e

both_hold : (a b : Bool) → T a → T b → T (a && b)
both_hold true b p q = q
both_hold false b p q = absurd p

T_true : (b : Bool) → T b → b ≡ true
T_true true t = refl
T_true false t = absurd t

abbrev pub Names : Type 0
Names = FinMap name_cmp Variable

abbrev pub Groups : Type 0
Groups = FinMap pattern_cmp Names

abbrev pub Children : Type 0
Children = List (Shape × Child shape_cmp Names)

-- an unknown was made for a variable of one of the first children
abbrev pub OccursBefore : ℕ → Children → ℕ → Type 0
OccursBefore i es n = (j : ℕ) × (j < i) × (k : Shape) × (c : Child shape_cmp Names) × (slice_get es j ≡ Some (k, c)) × Occurs InGroup c.value.paths (covers true []) n

-- the same as `Gathers`, for the first children
pub record GathersBefore (i : ℕ) (old new : List ℕ) (es : Children) : Type 0 where
  pub stays : (n : ℕ) → has n old ≡ true → has n new ≡ true
  pub all : (n : ℕ) → OccursBefore i es n → has n new ≡ true
  pub only : (n : ℕ) → has n new ≡ true → (has n old ≡ true) ⊎ OccursBefore i es n

-- the place of one more: it is the last, or one before
below_suc : (j i : ℕ) → j < i + 1 → (j < i) ⊎ (j ≡ i)
below_suc j i h = elim (cases_order j i) [ inl e ↦ inr e | inr (inl less) ↦ inl less | inr (inr more) ↦ absurd (omega (arith, h, more)) ]

same_entry : {A : Type 0} (x y : A) → Some x ≡ Some y → x ≡ y
same_entry x y e = ap (λ o. unwrap_or o x) e

-- one more child
pub next_child : (i : ℕ) (old mid new : List ℕ) (es : Children) (k : Shape) (c : Child shape_cmp Names) → slice_get es i ≡ Some (k, c)
    → GathersBefore i old mid es → Gathers InGroup mid new c.value.paths (covers true []) → GathersBefore (i + 1) old new es
next_child i old mid new es k c place before one = record {
  stays = λ n h. one.stays n (before.stays n h);
  all = λ n o.
      elim (below_suc o.0 i o.1) [
        | inl less ↦ one.stays n (before.all n (o.0, less, o.2, o.3, o.4, o.5))
        | inr same ↦
            let e : (o.2, o.3) ≡ (k, c) = same_entry (o.2, o.3) (k, c) (sym o.4 ∙ ap (slice_get es) same ∙ place) in
            one.all n (subst (λ e. Occurs InGroup e.1.value.paths (covers true []) n) e o.5)
      ];
  only = λ n h.
      elim (one.only n h) [
        | inl there ↦ elim (before.only n there) [ inl first ↦ inl first | inr o ↦ inr (o.0, omega (arith, o.1), o.2, o.3, o.4, o.5) ]
        | inr o ↦ inr (i, omega arith, k, c, place, o)
      ];
}

covers_all : (pattern : List Shape) → covers true [] pattern ≡ true
covers_all [] = refl
covers_all (s ∷ ss) = refl

covers_itself : (pattern : List Shape) → covers false [] pattern ≡ true → pattern ≡ []
covers_itself [] e = refl
covers_itself (s ∷ ss) e = cc

covers_behind : (below : Bool) (s : Shape) (rest pattern : List Shape) → covers below (s ∷ rest) pattern ≡ true → (ps : List Shape) × (pattern ≡ s ∷ ps) × (covers below rest ps ≡ true)
covers_behind below s rest [] e = cc
covers_behind below s rest (t ∷ ts) e =
    let parts = and_parts (eq_by_cmp shape_cmp s t) (covers below rest ts) e in
    (ts, ap (λ k. k ∷ ts) (sym (tied shape_cmp by_shape.total by_shape.only s t parts.0)), parts.1)

through_child : {A B : Type 0} (f : A → Option B) (o : Option A) (b : B) → option_and_then f o ≡ Some b → (a : A) × (o ≡ Some a) × (f a ≡ Some b)
through_child f None b e = cc
through_child f (Some a) b e = (a, refl, e)

-- from the group at the node
pub gathers_held : (old new : List ℕ) (paths : Groups) (group : Names) → get paths [] ≡ Some group → Gathers InVariable old new group (λ name. true) → Gathers InGroup old new paths (covers false [])
gathers_held old new paths group there g = record {
  stays = g.stays;
  all = λ n o. g.all n (subst (λ h. InGroup h n) (same_some o.1 group (sym o.2 ∙ ap (get paths) (covers_itself o.0 o.3) ∙ there)) o.4);
  only = λ n h. elim (g.only n h) [ inl first ↦ inl first | inr o ↦ inr ([], group, there, refl, o) ];
}

-- behind a shape, what is gathered from the child there
pub gathers_child : (old new : List ℕ) (paths child : Groups) (below : Bool) (s : Shape) (rest : List Shape) → ((ps : List Shape) → get paths (s ∷ ps) ≡ get child ps)
    → Gathers InGroup old new child (covers below rest) → Gathers InGroup old new paths (covers below (s ∷ rest))
gathers_child old new paths child below s rest behind g = record {
  stays = g.stays;
  all = λ n o.
      let k = covers_behind below s rest o.0 o.3 in
      g.all n (k.0, o.1, sym (behind k.0) ∙ ap (get paths) (sym k.1) ∙ o.2, k.2, o.4);
  only = λ n h.
      elim (g.only n h) [
        | inl first ↦ inl first
        | inr o ↦ inr (s ∷ o.0, o.1, behind o.0 ∙ o.2, ap (λ r. is_eq r && covers below rest o.0) (tied_itself by_shape.total s) ∙ o.3, o.4)
      ];
}

module _ (paths : Groups) (es : Children)
    (behind : (p : Shape) (ps : List Shape) → get paths (p ∷ ps) ≡ option_and_then (λ c. get c.value.paths ps) (lookup (λ k. is_eq (shape_cmp p k)) es))
    (distinct : IsDistinct (eq_by_cmp shape_cmp) (keys_of es)) where
  to_child : (n : ℕ) (p : Shape) (ps : List Shape) (x : Names) → get paths (p ∷ ps) ≡ Some x → InGroup x n → OccursBefore (length es) es n
  to_child n p ps x there is_in =
      let child = through_child (λ c. get c.value.paths ps) (lookup (λ k. is_eq (shape_cmp p k)) es) x (sym (behind p ps) ∙ there) in
      let place = place_from_lookup (λ k. is_eq (shape_cmp p k)) es child.0 child.1 in
      (place.0, slice_get_within es place.0 (place.1, child.0) place.2, place.1, child.0, place.2, (ps, x, child.2, covers_all ps, is_in))

  from_child : (n : ℕ) → OccursBefore (length es) es n → Occurs InGroup paths (covers true []) n
  from_child n o =
      let found = lookup_from_place (eq_by_cmp_equiv by_shape.total) es o.0 o.2 o.3 distinct o.4 in
      (o.2 ∷ o.5.0, o.5.1, behind o.2 o.5.0 ∙ ap (option_and_then (λ c. get c.value.paths o.5.0)) found ∙ o.5.2, refl, o.5.4)

  all_gathered : (old mid new : List ℕ) → Gathers InGroup old mid paths (covers false []) → GathersBefore (length es) mid new es
      → (n : ℕ) (pattern : List Shape) (x : Names) → get paths pattern ≡ Some x → InGroup x n → has n new ≡ true
  all_gathered old mid new here children n [] x there is_in = children.stays n (here.all n ([], x, there, refl, is_in))
  all_gathered old mid new here children n (p ∷ ps) x there is_in = children.all n (to_child n p ps x there is_in)

  -- what is gathered at the node and from all children
  pub gathers_all : (old mid new : List ℕ) → Gathers InGroup old mid paths (covers false []) → GathersBefore (length es) mid new es → Gathers InGroup old new paths (covers true [])
  gathers_all old mid new here children = record {
    stays = λ n h. children.stays n (here.stays n h);
    all = λ n o. all_gathered old mid new here children n o.0 o.1 o.2 o.4;
    only = λ n h.
        elim (children.only n h) [
          | inl there ↦ elim (here.only n there) [ inl first ↦ inl first | inr o ↦ inr (o.0, o.1, o.2, covers_all o.0, o.4) ]
          | inr o ↦ inr (from_child n o)
        ];
  }

pub distinct_shapes : (es : Children) → IsStrictlySortedBy by_shape.derived (keys_of es) → IsDistinct (eq_by_cmp shape_cmp) (keys_of es)
distinct_shapes es sorted = IsDistinct-from_sorted shape_cmp (keys_of es) (subst (λ R. IsStrictlySortedBy R (keys_of es)) by_shape.same sorted)

-- a child has fewer nodes
pub child_at_falls : (es : Children) (j : ℕ) (k : Shape) (c : Child shape_cmp Names) → slice_get es j ≡ Some (k, c) → c.value.nodes < suc (nodes_in es)
child_at_falls [] j k c e = cc
child_at_falls (e ∷ es) zero k c at = omega (arith, ap (λ e. e.1.value.nodes) (same_entry e (k, c) at))
child_at_falls (e ∷ es) (suc j) k c at = omega (arith, child_at_falls es j k c at)

-- from the groups of the patterns that are meant, all that is meant
pub gathers_names : (old new : List ℕ) (groups : Groups) (below : Bool) (pattern : List Shape) → AreGrouped groups → Gathers InGroup old new groups (covers below pattern)
    → Gathers InVariable old new (all_names groups) (is_meant below pattern)
gathers_names old new groups below pattern are g = record {
  stays = g.stays;
  all = λ n o.
      let group = through_child (λ g. get g o.0) (get groups (pattern_of o.0)) o.1 (sym (get-all_names groups o.0) ∙ o.2) in
      g.all n (pattern_of o.0, group.0, group.1, covers_name below pattern o.0 ∙ o.3, (o.0, o.1, group.2, refl, o.4));
  only = λ n h.
      elim (g.only n h) [
        | inl first ↦ inl first
        | inr o ↦
            let name = o.4.0 in
            let is = are o.0 o.1 o.2 name o.4.1 o.4.2 in
            inr (name, o.4.1, get-all_names groups name ∙ ap (option_and_then (λ g. get g name)) (ap (get groups) is ∙ o.2) ∙ o.4.2, sym (covers_name below pattern name) ∙ ap (covers below pattern) is ∙ o.3, o.4.4)
      ];
}

less_all : (k : Vec Part) (es : List (Vec Part × Variable)) → AllByRecursion (λ q. held_cmp k q ≡ Less) (keys_of es) → T (below_all name_cmp k.items (listed es))
less_all k [] h = tt
less_all k (e ∷ es) h = both_hold (is_lt (name_cmp k.items e.0.items)) (below_all name_cmp k.items (listed es))
    (subst (λ r. T (is_lt r)) (sym (ap (λ R. slice_cmp R k.items e.0.items) (sym by_part.same) ∙ h.0)) tt) (less_all k es h.1)

listed_sorted : (es : List (Vec Part × Variable)) → IsStrictlySortedBy held_cmp (keys_of es) → T (is_sorted name_cmp (listed es))
unfolding IsStrictlySortedBy
listed_sorted [] h = tt
listed_sorted (e ∷ es) h = both_hold (below_all name_cmp e.0.items (listed es)) (is_sorted name_cmp (listed es)) (less_all e.0 es h.0) (listed_sorted es h.1)

all_kept : (es : List (List Part × Variable)) → where_key name_cmp (λ name. true) es ≡ es
all_kept [] = refl
all_kept (e ∷ es) = ap (λ rest. e ∷ rest) (all_kept es)

-- the unknowns of each entry of a group are those of its names
pub gathers_listed : (old new : List ℕ) (es : List (Vec Part × Variable)) → IsStrictlySortedBy held_cmp (keys_of es) → ((n : ℕ) → has n new ≡ (has n old || has n (made_for_any (listed es))))
    → Gathers InVariable old new (by_names es) (λ name. true)
gathers_listed old new es sorted added =
    let found = λ (q : List Part). get-from_entries names_total (listed es) q in record {
      stays = λ n h. added n ∙ ap (λ b. b || has n (made_for_any (listed es))) h;
      all = λ n o.
          added n ∙ ap (λ b. has n old || b) (ap (λ xs. has n (made_for_any xs)) (sym (all_kept (listed es))) ∙ made_to (listed es) (λ name. true) n o.0 o.1 (sym (found o.0) ∙ o.2) refl o.4)
          ∙ or-true (has n old);
      only = λ n h.
          elim (either (has n old) (has n (made_for_any (listed es))) (sym (added n) ∙ h)) [
            | inl first ↦ inl first
            | inr there ↦
                let m = made_from (listed es) (λ name. true) n (T_true _ (listed_sorted es sorted)) (ap (λ xs. has n (made_for_any xs)) (all_kept (listed es)) ∙ there) in
                inr (m.0, m.1, found m.0 ∙ m.2, refl, m.4)
          ];
    }

-- a number that is added
or_last : (a b c d : Bool) → c ≡ d → cond c true (a || b) ≡ (a || (b || (d || false)))
or_last true b true d e = refl
or_last true b false d e = refl
or_last false true c d e = both c
or_last false false true d e = ap (λ x. x || false) e
or_last false false false d e = ap (λ x. x || false) e

-- one more term's unknown
pub added_next : (old mid new : List ℕ) (terms : List Term) (i : ℕ) (d : Term) → i < length terms
    → ((n : ℕ) → has n new ≡ cond (is_eq (nat_cmp (get_or terms i d).serial n)) true (has n mid))
    → (n : ℕ) → has n mid ≡ (has n old || has n (map (λ term. term.serial) (take i terms)))
    → has n new ≡ (has n old || has n (map (λ term. term.serial) (take (i + 1) terms)))
added_next old mid new terms i d within updates n before =
    let serial = (get_or terms i d).serial in
    let serials = map (λ term. term.serial) (take i terms) in
    updates n ∙ ap (cond (is_eq (nat_cmp serial n)) true) before
    ∙ or_last (has n old) (has n serials) (is_eq (nat_cmp serial n)) (is_eq (nat_cmp n serial)) ((eq_by_cmp_equiv nat_cmp_total).symm serial n)
    ∙ ap (λ b. has n old || b) (sym (list_any-append (λ k. is_eq (nat_cmp n k)) serials (serial ∷ [])))
    ∙ ap (λ ns. has n old || has n ns) (sym (map-append (λ term. term.serial) (take i terms) (get_or terms i d ∷ [])))
    ∙ ap (λ ts. has n old || has n (map (λ term. term.serial) ts)) (sym (take_more terms i d within))

or_assoc : (a b c : Bool) → ((a || b) || c) ≡ (a || (b || c))
or_assoc true b c = refl
or_assoc false b c = refl

or_none : (a : Bool) → (a || false) ≡ a
or_none true = refl
or_none false = refl

-- one more entry of a group
pub next_entry : (new mid : List ℕ) (n : ℕ) (all : Bool) (es rest : List (Vec Part × Variable)) (k : Vec Part) (x : Variable) → es ≡ (k, x) ∷ rest → has n new ≡ (has n mid || has n (made_for x))
    → (has n mid || has n (made_for_any (listed es))) ≡ all → (has n new || has n (made_for_any (listed rest))) ≡ all
next_entry new mid n all es rest k x is added before =
    ap (λ b. b || has n (made_for_any (listed rest))) added ∙ or_assoc (has n mid) (has n (made_for x)) (has n (made_for_any (listed rest)))
    ∙ ap (λ b. has n mid || b) (sym (has_append n (made_for x) (made_for_any (listed rest)))) ∙ ap (λ xs. has n mid || has n (made_for_any (listed xs))) (sym is) ∙ before

-- and no more
pub last_entry : (new : List ℕ) (n : ℕ) (all : Bool) (es : List (Vec Part × Variable)) → es ≡ [] → (has n new || has n (made_for_any (listed es))) ≡ all → has n new ≡ all
last_entry new n all es is before = sym (or_none (has n new)) ∙ ap (λ xs. has n new || has n (made_for_any (listed xs))) (sym is) ∙ before
