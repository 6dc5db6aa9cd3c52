-- The unknowns that were made for variables, by the tags of their roots.
use Rattle.std.proofs.Common.{◌≡◌, ℕ, Bool, true, false, ◌||◌, cond, T, List, [], ◌∷◌, ◌++◌, ◌⊎◌, inl, inr, Option, Some, None, is_some, refl, sym, ap, ◌∙◌}
use Rattle.std.specs.Option.{unwrap_or}
use Rattle.std.specs.Ordering.{is_eq, is_lt, nat_cmp, eq_by_cmp, ordering_reverse}
use Rattle.std.specs.declared.cmp.Ordering.{Ordering}
use Rattle.std.specs.declared.cmp.Ordering.TheVariants.{Less, Equal, Greater}
use Rattle.std.specs.Cmp.{IsTotalOrder, both_ways, tied_itself}
use Rattle.std.specs.Cmp.Lexicographic.{lists_total}
use Rattle.std.specs.List.Sorted.{IsStrictlySortedBy}
use Rattle.std.proofs.lemmas.Bool.{and_parts}
use Rattle.std.proofs.lemmas.List.Folds.{list_any-append}
use Rattle.std.specs.FinMap.{find, get, entries, entries_sorted, get-empty, is_sorted, slice_cmp-IsAntisymmetric, IsAntisymmetric}
use Rattle.std.specs.FinMap.Entries.{below_all, where_key}
use mathlib.Core.Bool.{true≢false}
use Rattle.mp_vartree.specs.Names.{name_cmp, full_name, full_pattern, is_meant}
use Rattle.mp_vartree.specs.Layout.Gathered.{has, Gathers, InVariable}
use Rattle.mp_vartree.specs.Variables.{Variables, made_for, made_for_any, made_for_one, made, made_at, variable_at}
use Rattle.mp_vartree.specs.Layout.Tags.{variables_in}
use Rattle.mp_vartree.specs.declared.names.Part.{Part}
use Rattle.mp_vartree.specs.declared.names.Shape.{Shape}
use Rattle.mp_vartree.specs.declared.entry.Variable.{Variable}
use Rattle.mp_vartree.specs.declared.tag.Tag.{Tag}
use Rattle.mp_vartree.proofs.OrderLemmas.{by_part}
use Rattle.mp_vartree.proofs.TreeLemmas.{is_equal}
use Rattle.mp_vartree.proofs.NameLemmas.{meant_behind, meant_root}
use Rattle.mp_vartree.proofs.SerialLemmas.{increasing_is}
use Rattle.mp_vartree.proofs.VarsLemmas.{seen, tag_at, held_by, held_seen}

same_value : {A : Type 0} (x y : A) → Some x ≡ Some y → x ≡ y
same_value x y e = ap (λ o. unwrap_or o x) e

either : (a b : Bool) → (a || b) ≡ true → (a ≡ true) ⊎ (b ≡ true)
either true b e = inl refl
either false b e = inr e

or_true : (a : Bool) → (a || true) ≡ true
or_true true = refl
or_true false = refl

names_total : IsTotalOrder name_cmp
names_total = lists_total by_part.total

names_same : IsAntisymmetric name_cmp
names_same = slice_cmp-IsAntisymmetric by_part.only

pub has_append : (n : ℕ) (ms ns : List ℕ) → has n (ms ++ ns) ≡ (has n ms || has n ns)
has_append n ms ns = list_any-append (λ k. is_eq (nat_cmp n k)) ms ns

not_equal : (r : Ordering) → r ≡ Less → is_eq (ordering_reverse r) ≡ false
not_equal r e = ap (λ s. is_eq (ordering_reverse s)) e

is_less : (r : Ordering) → is_lt r ≡ true → r ≡ Less
is_less Less e = refl
is_less Equal e = cc
is_less Greater e = cc

pub T_is : (b : Bool) → T b → b ≡ true
T_is true t = refl
T_is false t = absurd t

-- a name that is found behind others is none of them
not_before : (x0 k : List Part) (es : List (List Part × Variable)) (x : Variable) → below_all name_cmp x0 es ≡ true → find name_cmp k es ≡ Some x → eq_by_cmp name_cmp k x0 ≡ false
not_before x0 k [] x below found = cc
not_before x0 k (e ∷ es) x below found =
    let parts = and_parts (is_lt (name_cmp x0 e.0)) (below_all name_cmp x0 es) below in
    elim (eq_by_cmp name_cmp k e.0) as (λ b. eq_by_cmp name_cmp k e.0 ≡ b → cond b (Some e.1) (find name_cmp k es) ≡ Some x → eq_by_cmp name_cmp k x0 ≡ false) [
      | true ↦ λ same _.
          ap is_eq (names_total.antisymm k x0)
          ∙ not_equal (name_cmp x0 k) (ap (name_cmp x0) (names_same k e.0 (is_equal (name_cmp k e.0) same)) ∙ is_less (name_cmp x0 e.0) parts.0)
      | false ↦ λ _ f. not_before x0 k es x parts.1 f
    ] refl found

-- an entry that is found, and was made for
abbrev pub Made : List (List Part × Variable) → (List Part → Bool) → ℕ → Type 0
Made es test n = (k : List Part) × (x : Variable) × (find name_cmp k es ≡ Some x) × (test k ≡ true) × (has n (made_for x) ≡ true)

later : (e : List Part × Variable) (es : List (List Part × Variable)) (test : List Part → Bool) (n : ℕ) → below_all name_cmp e.0 es ≡ true → Made es test n → Made (e ∷ es) test n
later e es test n below m = (m.0, m.1, ap (λ b. cond b (Some e.1) (find name_cmp m.0 es)) (not_before e.0 m.0 es m.1 below m.2) ∙ m.2, m.3, m.4)

pub made_from : (es : List (List Part × Variable)) (test : List Part → Bool) (n : ℕ) → is_sorted name_cmp es ≡ true → has n (made_for_any (where_key name_cmp test es)) ≡ true → Made es test n
made_from [] test n sorted h = cc
made_from (e ∷ es) test n sorted h =
    let parts = and_parts (below_all name_cmp e.0 es) (is_sorted name_cmp es) sorted in
    elim (test e.0) as (λ b. test e.0 ≡ b → has n (made_for_any (cond b (e ∷ where_key name_cmp test es) (where_key name_cmp test es))) ≡ true → Made (e ∷ es) test n) [
      | true ↦ λ passes g.
          elim (either (has n (made_for e.1)) _ (sym (has_append n (made_for e.1) (made_for_any (where_key name_cmp test es))) ∙ g)) [
            | inl here ↦ (e.0, e.1, ap (λ r. cond (is_eq r) (Some e.1) (find name_cmp e.0 es)) (tied_itself names_total e.0), passes, here)
            | inr rest ↦ later e es test n parts.0 (made_from es test n parts.1 rest)
          ]
      | false ↦ λ _ g. later e es test n parts.0 (made_from es test n parts.1 g)
    ] refl h

kept_or : (b : Bool) (n : ℕ) (e : List Part × Variable) (rest : List (List Part × Variable)) → has n (made_for_any rest) ≡ true → has n (made_for_any (cond b (e ∷ rest) rest)) ≡ true
kept_or true n e rest h = has_append n (made_for e.1) (made_for_any rest) ∙ ap (λ b. has n (made_for e.1) || b) h ∙ or_true (has n (made_for e.1))
kept_or false n e rest h = h

pub made_to : (es : List (List Part × Variable)) (test : List Part → Bool) (n : ℕ) (k : List Part) (x : Variable) → find name_cmp k es ≡ Some x → test k ≡ true → has n (made_for x) ≡ true
    → has n (made_for_any (where_key name_cmp test es)) ≡ true
made_to [] test n k x found passes made = cc
made_to (e ∷ es) test n k x found passes made =
    elim (eq_by_cmp name_cmp k e.0) as (λ b. eq_by_cmp name_cmp k e.0 ≡ b → cond b (Some e.1) (find name_cmp k es) ≡ Some x → has n (made_for_any (where_key name_cmp test (e ∷ es))) ≡ true) [
      | true ↦ λ same f.
          ap (λ b. has n (made_for_any (cond b (e ∷ where_key name_cmp test es) (where_key name_cmp test es)))) (ap test (sym (names_same k e.0 (is_equal (name_cmp k e.0) same))) ∙ passes)
          ∙ has_append n (made_for e.1) (made_for_any (where_key name_cmp test es))
          ∙ ap (λ b. b || has n (made_for_any (where_key name_cmp test es))) (ap (λ y. has n (made_for y)) (same_value e.1 x f) ∙ made)
      | false ↦ λ _ f. kept_or (test e.0) n e (where_key name_cmp test es) (made_to es test n k x f passes made)
    ] refl found

none_some : {A : Type 0} (x : A) (o : Option A) → o ≡ None → o ≡ Some x → ⊥
none_some x o e f = true≢false (ap is_some (sym f ∙ e))

-- without a tag nothing is made
pub made_of_none : (test : List Part → Bool) → Gathers InVariable [] [] (held_by None) test
made_of_none test = record { stays = λ n h. h; all = λ n o. absurd (none_some o.1 _ (get-empty name_cmp o.0) o.2); only = λ n h. inl h }

module _ (roots : ℕ) (tags : List (ℕ × Tag)) (a : ℕ) (tag : Option Tag) (is : tag ≡ tag_at tags a) where
  there : (name : List Part) → find name_cmp (full_name a name) (entries (variables_in tags)) ≡ get (held_by tag) name
  there name = held_seen roots tags a name ∙ ap (λ t. get (held_by t) name) (sym is)

  forth : (pattern : List Shape) (below : Bool) (ks : List ℕ) → Gathers InVariable [] ks (held_by tag) (is_meant below pattern) → (n : ℕ) → has n ks ≡ true
      → has n (made_for_any (where_key name_cmp (is_meant below (full_pattern a pattern)) (entries (variables_in tags)))) ≡ true
  forth pattern below ks gathered n h =
      elim (gathered.only n h) [
        | inl none ↦ absurd (true≢false (sym none))
        | inr o ↦
            made_to (entries (variables_in tags)) (is_meant below (full_pattern a pattern)) n (full_name a o.0) o.1 (there o.0 ∙ o.2) (meant_behind below a pattern o.0 ∙ o.3) o.4
      ]

  back : (pattern : List Shape) (below : Bool) (ks : List ℕ) → Gathers InVariable [] ks (held_by tag) (is_meant below pattern) → (n : ℕ)
      → has n (made_for_any (where_key name_cmp (is_meant below (full_pattern a pattern)) (entries (variables_in tags)))) ≡ true → has n ks ≡ true
  back pattern below ks gathered n h =
      let m = made_from (entries (variables_in tags)) (is_meant below (full_pattern a pattern)) n (T_is _ (entries_sorted (variables_in tags))) h in
      let k = meant_root below a pattern m.0 m.3 in
      gathered.all n (k.0, m.1, sym (there k.0) ∙ ap (λ q. find name_cmp q (entries (variables_in tags))) (sym k.1) ∙ m.2, k.2, m.4)

  -- what was gathered is what was made
  pub made_is : (pattern : List Shape) (below : Bool) (ks : List ℕ) → IsStrictlySortedBy nat_cmp ks → Gathers InVariable [] ks (held_by tag) (is_meant below pattern) → ks ≡ made (seen roots tags) a pattern below
  made_is pattern below ks sorted gathered =
      increasing_is ks (made_for_any (where_key name_cmp (is_meant below (full_pattern a pattern)) (entries (variables_in tags)))) sorted
      (λ n. both_ways (has n ks) _ (forth pattern below ks gathered n) (back pattern below ks gathered n))

-- and what was added for one variable
pub made_one : (v : Variables) (a : ℕ) (name : List Part) (ks : List ℕ) → IsStrictlySortedBy nat_cmp ks → ((n : ℕ) → has n ks ≡ has n (made_for_one (variable_at v a name))) → ks ≡ made_at v a name
made_one v a name ks sorted same = increasing_is ks (made_for_one (variable_at v a name)) sorted same
