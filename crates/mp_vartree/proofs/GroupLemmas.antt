-- Names in groups by their patterns.
use Rattle.std.proofs.Common.{◌≡◌, Bool, true, false, cond, not, ◌&&◌, List, [], ◌∷◌, Option, Some, None, is_some, refl, sym, ap, ◌∙◌}
use Rattle.std.specs.Option.{option_and_then, unwrap_or}
use Rattle.std.specs.Ordering.{is_eq, eq_by_cmp, match_ordering}
use Rattle.std.specs.Cmp.{IsTotalOrder, tied_itself, both_ways, unsigned_ties}
use Rattle.std.specs.Cmp.Lexicographic.{lists_total}
use Rattle.std.specs.FinMap.{FinMap, IsAntisymmetric, slice_cmp-IsAntisymmetric, empty, get, insert, find, entries, retain_keys, get-insert, get-empty, get-entries, get-from_entries, get-retain_keys, same_map}
use Rattle.std.specs.FinMap.Entries.{put, by_order, find-put}
use Rattle.std.specs.Global.{Vec}
use Rattle.std.specs.Map.{lookup, set_value}
use Rattle.std.specs.BTreeMap.{insert_entry}
use Rattle.std.specs.Cmp.Lexicographic.{slice_cmp}
use Rattle.std.specs.declared.cmp.Ordering.{Ordering}
use Rattle.std.specs.declared.cmp.Ordering.TheVariants.{Less, Equal, Greater}
use mathlib.Core.Bool.{true≢false}
use Rattle.mp_vartree.specs.Names.{name_cmp, shape_cmp, pattern_cmp, fits, matches, is_meant, shape_of, pattern_of}
use Rattle.mp_vartree.specs.Layout.Groups.{covers, listed, by_names, with_each, with_group, grouped, all_names, AreGrouped, group_with, with_name}
use Rattle.mp_vartree.specs.declared.names.Part.{Part}
use Rattle.mp_vartree.specs.declared.names.Part.TheVariants as part
use Rattle.mp_vartree.specs.declared.names.Shape.{Shape}
use Rattle.mp_vartree.specs.declared.names.Shape.TheVariants as shape
use Rattle.mp_vartree.proofs.OrderLemmas.{by_part, by_shape}
use Rattle.mp_vartree.proofs.TreeLemmas.{option_or, is_equal, through}
use Rattle.mp_vartree.proofs.LawLemmas.{matches_one}

pub names_total : IsTotalOrder name_cmp
names_total = lists_total by_part.total

pub names_same : IsAntisymmetric name_cmp
names_same = slice_cmp-IsAntisymmetric by_part.only

pub patterns_total : IsTotalOrder pattern_cmp
patterns_total = lists_total by_shape.total

pub patterns_same : IsAntisymmetric pattern_cmp
patterns_same = slice_cmp-IsAntisymmetric by_shape.only

fits_is : (s : Shape) (p : Part) → eq_by_cmp shape_cmp s (shape_of p) ≡ fits s p
fits_is (shape.Sym a) (part.Sym b) = sym (unsigned_ties a b)
fits_is (shape.Sym a) (part.Sub v) = refl
fits_is shape.Any (part.Sym b) = refl
fits_is shape.Any (part.Sub v) = refl

-- the patterns that are meant are those of the names that are meant
pub covers_name : (below : Bool) (pattern : List Shape) (name : List Part) → covers below pattern (pattern_of name) ≡ is_meant below pattern name
covers_name true [] [] = refl
covers_name false [] [] = refl
covers_name true [] (p ∷ ps) = refl
covers_name false [] (p ∷ ps) = refl
covers_name true (s ∷ ss) [] = refl
covers_name false (s ∷ ss) [] = refl
covers_name true (s ∷ ss) (p ∷ ps) = λ i. fits_is s p i && covers_name true ss ps i
covers_name false (s ∷ ss) (p ∷ ps) = λ i. fits_is s p i && covers_name false ss ps i

matches_is : (pattern : List Shape) (name : List Part) → matches pattern name ≡ eq_by_cmp pattern_cmp (pattern_of name) pattern
matches_is pattern name =
    both_ways (matches pattern name) (eq_by_cmp pattern_cmp (pattern_of name) pattern)
    (λ e. ap (λ p. is_eq (pattern_cmp (pattern_of name) p)) ((matches_one pattern name).0 e) ∙ ap is_eq (tied_itself patterns_total (pattern_of name)))
    (λ e. (matches_one pattern name).1 (sym (patterns_same (pattern_of name) pattern (is_equal (pattern_cmp (pattern_of name) pattern) e))))

first_of : {X : Type 0} (b : Bool) (x : X) (found other : Option X) → cond b (Some x) (option_or found other) ≡ option_or (cond b (Some x) found) other
first_of true x found other = refl
first_of false x found other = refl

chosen : {X : Type 0} (b : Bool) (found other : Option X) → option_or (cond b found None) (cond (not b) other None) ≡ cond b found other
chosen true None other = refl
chosen true (Some x) other = refl
chosen false found other = refl

then_kept : {A X : Type 0} (b : Bool) (f : A → Option X) (o : Option A) → option_and_then f (cond b o None) ≡ cond b (option_and_then f o) None
then_kept true f o = refl
then_kept false f o = refl

was_there : {A : Type 0} (b : Bool) (o : Option A) (a : A) → cond b o None ≡ Some a → o ≡ Some a
was_there true o a e = e
was_there false o a e = cc

pub none_some : {A : Type 0} (o : Option A) (a : A) → o ≡ None → o ≡ Some a → ⊥
none_some o a e f = true≢false (ap is_some (sym f ∙ e))

pub same_some : {A : Type 0} (x y : A) → Some x ≡ Some y → x ≡ y
same_some x y e = ap (λ o. unwrap_or o x) e

module _ {X : Type 0} where
  get-kept_names : (m : FinMap name_cmp X) (f : List Part → Bool) (q : List Part) → get (retain_keys m f) q ≡ cond (f q) (get m q) None
  get-kept_names m f q = get-retain_keys m f q (λ x e. ap f (sym (names_same q x e)))

  get-with_each : (es : List (List Part × X)) (m : FinMap name_cmp X) (q : List Part) → get (with_each es m) q ≡ option_or (find name_cmp q es) (get m q)
  get-with_each [] m q = refl
  get-with_each (e ∷ es) m q =
      get-insert names_total (with_each es m) e.0 e.1 q ∙ ap (cond (eq_by_cmp name_cmp q e.0) (Some e.1)) (get-with_each es m q)
      ∙ first_of (eq_by_cmp name_cmp q e.0) e.1 (find name_cmp q es) (get m q)

  get-with_group : (pattern : List Shape) (group m : FinMap name_cmp X) (q : List Part) → get (with_group pattern group m) q ≡ cond (matches pattern q) (get group q) (get m q)
  get-with_group pattern group m q =
      get-with_each (entries (retain_keys group (matches pattern))) (retain_keys m (λ name. not (matches pattern name))) q
      ∙ ap (λ o. option_or o (get (retain_keys m (λ name. not (matches pattern name))) q)) (sym (get-entries (retain_keys group (matches pattern)) q) ∙ get-kept_names group (matches pattern) q)
      ∙ ap (option_or (cond (matches pattern q) (get group q) None)) (get-kept_names m (λ name. not (matches pattern name)) q)
      ∙ chosen (matches pattern q) (get group q) (get m q)

  get-grouped : (es : List (List Shape × FinMap name_cmp X)) (q : List Part) → get (grouped es) q ≡ option_and_then (λ g. get g q) (find pattern_cmp (pattern_of q) es)
  get-grouped [] q = get-empty name_cmp q
  get-grouped (e ∷ es) q =
      get-with_group e.0 e.1 (grouped es) q ∙ ap (λ b. cond b (get e.1 q) (get (grouped es) q)) (matches_is e.0 q)
      ∙ ap (cond (eq_by_cmp pattern_cmp (pattern_of q) e.0) (get e.1 q)) (get-grouped es q)
      ∙ through (eq_by_cmp pattern_cmp (pattern_of q) e.0) (λ g. get g q) e.1 (find pattern_cmp (pattern_of q) es)

  -- what stands at a name stands in the group of its pattern
  pub get-all_names : (m : FinMap pattern_cmp (FinMap name_cmp X)) (q : List Part) → get (all_names m) q ≡ option_and_then (λ g. get g q) (get m (pattern_of q))
  get-all_names m q = get-grouped (entries m) q ∙ ap (option_and_then (λ g. get g q)) (sym (get-entries m (pattern_of q)))

  pub no_names : (m : FinMap pattern_cmp (FinMap name_cmp X)) → m ≡ empty → all_names m ≡ empty
  no_names m e = same_map names_total names_same _ _ (λ q. get-all_names m q ∙ ap (option_and_then (λ g. get g q)) (ap (λ m. get m (pattern_of q)) e ∙ get-empty pattern_cmp (pattern_of q)) ∙ sym (get-empty name_cmp q))

  -- the group of a pattern, or an empty one
  abbrev pub group_or_none : Option (FinMap name_cmp X) → FinMap name_cmp X
  group_or_none None = empty
  group_or_none (Some g) = g

  get-group_or_none : (o : Option (FinMap name_cmp X)) (q : List Part) → get (group_or_none o) q ≡ option_and_then (λ g. get g q) o
  get-group_or_none None q = get-empty name_cmp q
  get-group_or_none (Some g) q = refl

  module _ (m : FinMap pattern_cmp (FinMap name_cmp X)) (name : List Part) (x : X) where
    abbrev pub put_into : Option (FinMap name_cmp X) → FinMap pattern_cmp (FinMap name_cmp X)
    put_into group = insert m (pattern_of name) (insert (group_or_none group) name x)

    other_name : (q : List Part) → eq_by_cmp pattern_cmp (pattern_of q) (pattern_of name) ≡ false → eq_by_cmp name_cmp q name ≡ false
    other_name q e =
        elim (eq_by_cmp name_cmp q name) as (λ b. eq_by_cmp name_cmp q name ≡ b → eq_by_cmp name_cmp q name ≡ false) [
          | true ↦ λ same.
              absurd (true≢false (sym (ap is_eq (tied_itself patterns_total (pattern_of name))) ∙ ap (λ k. eq_by_cmp pattern_cmp (pattern_of k) (pattern_of name)) (sym (names_same q name (is_equal (name_cmp q name) same))) ∙ e))
          | false ↦ λ other. other
        ] refl

    got : (group : Option (FinMap name_cmp X)) → get m (pattern_of name) ≡ group → (q : List Part)
        → option_and_then (λ g. get g q) (cond (eq_by_cmp pattern_cmp (pattern_of q) (pattern_of name)) (Some (insert (group_or_none group) name x)) (get m (pattern_of q)))
        ≡ cond (eq_by_cmp name_cmp q name) (Some x) (option_and_then (λ g. get g q) (get m (pattern_of q)))
    got group there q =
        elim (eq_by_cmp pattern_cmp (pattern_of q) (pattern_of name)) as (λ b. eq_by_cmp pattern_cmp (pattern_of q) (pattern_of name) ≡ b
        → option_and_then (λ g. get g q) (cond b (Some (insert (group_or_none group) name x)) (get m (pattern_of q)))
        ≡ cond (eq_by_cmp name_cmp q name) (Some x) (option_and_then (λ g. get g q) (get m (pattern_of q)))) [
          | true ↦ λ e.
              get-insert names_total (group_or_none group) name x q
              ∙ ap (cond (eq_by_cmp name_cmp q name) (Some x))
              (get-group_or_none group q ∙ ap (option_and_then (λ g. get g q)) (sym there ∙ ap (get m) (sym (patterns_same (pattern_of q) (pattern_of name) (is_equal (pattern_cmp (pattern_of q) (pattern_of name)) e)))))
          | false ↦ λ e. ap (λ b. cond b (Some x) (option_and_then (λ g. get g q) (get m (pattern_of q)))) (sym (other_name q e))
        ] refl

    -- what is put into the group of its pattern is put among all names
    pub names_put : (group : Option (FinMap name_cmp X)) → get m (pattern_of name) ≡ group → all_names (put_into group) ≡ insert (all_names m) name x
    names_put group there =
        same_map names_total names_same _ _
        (λ q. get-all_names (put_into group) q
        ∙ ap (option_and_then (λ g. get g q)) (get-insert patterns_total m (pattern_of name) (insert (group_or_none group) name x) (pattern_of q))
        ∙ got group there q ∙ sym (get-insert names_total (all_names m) name x q ∙ ap (cond (eq_by_cmp name_cmp q name) (Some x)) (get-all_names m q)))

    its_group : (group : Option (FinMap name_cmp X)) → get m (pattern_of name) ≡ group → AreGrouped m → (q : List Part) (y : X) → get (insert (group_or_none group) name x) q ≡ Some y → pattern_of q ≡ pattern_of name
    its_group group there are q y e =
        elim (eq_by_cmp name_cmp q name) as (λ b. eq_by_cmp name_cmp q name ≡ b → cond b (Some x) (get (group_or_none group) q) ≡ Some y → pattern_of q ≡ pattern_of name) [
          | true ↦ λ same f. ap pattern_of (names_same q name (is_equal (name_cmp q name) same))
          | false ↦ λ other f.
              elim group as (λ o. get m (pattern_of name) ≡ o → get (group_or_none o) q ≡ Some y → pattern_of q ≡ pattern_of name) [
                | None ↦ λ t g. absurd (none_some (get empty q) y (get-empty name_cmp q) g)
                | Some h ↦ λ t g. are (pattern_of name) h t q y g
              ] there f
        ] refl (sym (get-insert names_total (group_or_none group) name x q) ∙ e)

    pub grouped_put : (group : Option (FinMap name_cmp X)) → get m (pattern_of name) ≡ group → AreGrouped m → AreGrouped (put_into group)
    grouped_put group there are p g e q y f =
        elim (eq_by_cmp pattern_cmp p (pattern_of name)) as (λ b. eq_by_cmp pattern_cmp p (pattern_of name) ≡ b → cond b (Some (insert (group_or_none group) name x)) (get m p) ≡ Some g → pattern_of q ≡ p) [
          | true ↦ λ same h.
              its_group group there are q y (ap (λ g. get g q) (same_some _ g h) ∙ f) ∙ sym (patterns_same p (pattern_of name) (is_equal (pattern_cmp p (pattern_of name)) same))
          | false ↦ λ other h. are p g h q y f
        ] refl (sym (get-insert patterns_total m (pattern_of name) (insert (group_or_none group) name x) p) ∙ e)

  get-kept_patterns : (m : FinMap pattern_cmp (FinMap name_cmp X)) (f : List Shape → Bool) (p : List Shape) → get (retain_keys m f) p ≡ cond (f p) (get m p) None
  get-kept_patterns m f p = get-retain_keys m f p (λ x e. ap f (sym (patterns_same p x e)))

  -- the groups that a pattern takes away are the names that it means
  pub names_removed : (m : FinMap pattern_cmp (FinMap name_cmp X)) (below : Bool) (pattern : List Shape)
      → all_names (retain_keys m (λ other. not (covers below pattern other))) ≡ retain_keys (all_names m) (λ name. not (is_meant below pattern name))
  names_removed m below pattern =
      same_map names_total names_same _ _
      (λ q. get-all_names (retain_keys m (λ other. not (covers below pattern other))) q
      ∙ ap (option_and_then (λ g. get g q)) (get-kept_patterns m (λ other. not (covers below pattern other)) (pattern_of q))
      ∙ then_kept (not (covers below pattern (pattern_of q))) (λ g. get g q) (get m (pattern_of q))
      ∙ ap (λ b. cond (not b) (option_and_then (λ g. get g q) (get m (pattern_of q))) None) (covers_name below pattern q)
      ∙ ap (λ o. cond (not (is_meant below pattern q)) o None) (sym (get-all_names m q))
      ∙ sym (get-kept_names (all_names m) (λ name. not (is_meant below pattern name)) q))

  pub grouped_removed : (m : FinMap pattern_cmp (FinMap name_cmp X)) (f : List Shape → Bool) → AreGrouped m → AreGrouped (retain_keys m f)
  grouped_removed m f are p g e = are p g (was_there (f p) (get m p) g (sym (get-kept_patterns m f p) ∙ e))

  pub grouped_none : (m : FinMap pattern_cmp (FinMap name_cmp X)) → m ≡ empty → AreGrouped m
  grouped_none m is p g e = absurd (none_some (get m p) g (ap (λ m. get m p) is ∙ get-empty pattern_cmp p) e)

  -- where there is a group, something more in it
  pub with_name_put : (m : FinMap pattern_cmp (FinMap name_cmp X)) (name : List Part) (x : X) → is_some (get m (pattern_of name)) ≡ true
      → with_name m (pattern_of name) name x ≡ put_into m name x (get m (pattern_of name))
  with_name_put m name x there =
      elim (get m (pattern_of name)) as (λ o. is_some o ≡ true → group_with m (pattern_of name) o name x ≡ put_into m name x o) [
        | None ↦ λ e. absurd (true≢false (sym e))
        | Some g ↦ λ e. refl
      ] there

-- how the code compares the vectors that hold names
abbrev pub held_cmp : Vec Part → Vec Part → Ordering
held_cmp a b = slice_cmp by_part.derived a.items b.items

module _ {X : Type 0} where
  found_listed : (es : List (Vec Part × X)) (name : List Part) → lookup (λ k. is_eq (slice_cmp by_part.derived name k.items)) es ≡ find name_cmp name (listed es)
  found_listed [] name = refl
  found_listed (e ∷ es) name = λ i. cond (is_eq (slice_cmp (by_part.same i) name e.0.items)) (Some e.1) (found_listed es name i)

  -- what the map of a group finds
  pub found_by_name : (es : List (Vec Part × X)) (name : List Part) → lookup (λ k. is_eq (slice_cmp by_part.derived name k.items)) es ≡ get (by_names es) name
  found_by_name es name = found_listed es name ∙ sym (get-from_entries names_total (listed es) name)

  listed_cases : (r : Ordering) (k : Vec Part) (x : X) (e : Vec Part × X) (es rest : List (Vec Part × X))
      → listed (match_ordering r ((k, x) ∷ e ∷ es) ((e.0, x) ∷ es) (e ∷ rest)) ≡ by_order r ((k.items, x) ∷ listed (e ∷ es)) ((e.0.items, x) ∷ listed es) ((e.0.items, e.1) ∷ listed rest)
  listed_cases Less k x e es rest = refl
  listed_cases Equal k x e es rest = refl
  listed_cases Greater k x e es rest = refl

  listed_put : (k : Vec Part) (x : X) (es : List (Vec Part × X)) → listed (insert_entry held_cmp es k x) ≡ put name_cmp k.items x (listed es)
  listed_put k x [] = refl
  listed_put k x (e ∷ es) =
      listed_cases (held_cmp k e.0) k x e es (insert_entry held_cmp es k x)
      ∙ (λ i. by_order (slice_cmp (by_part.same i) k.items e.0.items) ((k.items, x) ∷ listed (e ∷ es)) ((e.0.items, x) ∷ listed es) ((e.0.items, e.1) ∷ listed_put k x es i))

  -- what is put into the map of a group
  pub put_by_name : (old new : List (Vec Part × X)) (k : Vec Part) (name : List Part) (x : X) → k.items ≡ name → new ≡ insert_entry held_cmp old k x → by_names new ≡ insert (by_names old) name x
  put_by_name old new k name x is entries =
      same_map names_total names_same _ _
      (λ q. get-from_entries names_total (listed new) q ∙ ap (find name_cmp q) (ap listed entries ∙ listed_put k x old) ∙ find-put name_cmp names_total q k.items x (listed old)
      ∙ ap (λ n. cond (eq_by_cmp name_cmp q n) (Some x) (find name_cmp q (listed old))) is
      ∙ sym (get-insert names_total (by_names old) name x q ∙ ap (cond (eq_by_cmp name_cmp q name) (Some x)) (get-from_entries names_total (listed old) q)))

  shadowed : (b : Bool) (x y : X) (other : Option X) → cond b (Some x) other ≡ cond b (Some x) (cond b (Some y) other)
  shadowed true x y other = refl
  shadowed false x y other = refl

  -- another value at a key that is there
  set_found : (es : List (Vec Part × X)) (q name : List Part) (x old : X) → lookup (λ k. eq_by_cmp name_cmp name k.items) es ≡ Some old
      → find name_cmp q (listed (set_value (λ k. eq_by_cmp name_cmp name k.items) es x)) ≡ cond (eq_by_cmp name_cmp q name) (Some x) (find name_cmp q (listed es))
  set_found [] q name x old found = cc
  set_found (e ∷ es) q name x old found =
      let others = set_value (λ k. eq_by_cmp name_cmp name k.items) es x in
      let rest = find name_cmp q (listed es) in
      elim (eq_by_cmp name_cmp name e.0.items) as (λ b. eq_by_cmp name_cmp name e.0.items ≡ b → cond b (Some e.1) (lookup (λ k. eq_by_cmp name_cmp name k.items) es) ≡ Some old
      → find name_cmp q (listed (cond b ((e.0, x) ∷ es) (e ∷ others))) ≡ cond (eq_by_cmp name_cmp q name) (Some x) (cond (eq_by_cmp name_cmp q e.0.items) (Some e.1) rest)) [
        | true ↦ λ same f.
            let is = names_same name e.0.items (is_equal (name_cmp name e.0.items) same) in
            ap (λ k. cond (eq_by_cmp name_cmp q k) (Some x) rest) (sym is) ∙ shadowed (eq_by_cmp name_cmp q name) x e.1 rest
            ∙ ap (λ k. cond (eq_by_cmp name_cmp q name) (Some x) (cond (eq_by_cmp name_cmp q k) (Some e.1) rest)) is
        | false ↦ λ other f.
            ap (cond (eq_by_cmp name_cmp q e.0.items) (Some e.1)) (set_found es q name x old f)
            ∙ elim (eq_by_cmp name_cmp q name) as (λ b. eq_by_cmp name_cmp q name ≡ b
            → cond (eq_by_cmp name_cmp q e.0.items) (Some e.1) (cond b (Some x) rest) ≡ cond b (Some x) (cond (eq_by_cmp name_cmp q e.0.items) (Some e.1) rest)) [
              | true ↦ λ t. ap (λ a. cond a (Some e.1) (Some x)) (ap (λ k. eq_by_cmp name_cmp k e.0.items) (names_same q name (is_equal (name_cmp q name) t)) ∙ other)
              | false ↦ λ t. refl
            ] refl
      ] refl found

  pub written_by_name : (old new : List (Vec Part × X)) (name : List Part) (x was : X) → lookup (λ k. is_eq (slice_cmp by_part.derived name k.items)) old ≡ Some was
      → new ≡ set_value (λ k. is_eq (slice_cmp by_part.derived name k.items)) old x → by_names new ≡ insert (by_names old) name x
  written_by_name old new name x was found entries =
      same_map names_total names_same _ _
      (λ q. get-from_entries names_total (listed new) q ∙ ap (λ es. find name_cmp q (listed es)) entries
      ∙ (λ i. find name_cmp q (listed (set_value (λ k. is_eq (slice_cmp (by_part.same i) name k.items)) old x)))
      ∙ set_found old q name x was (sym (λ i. lookup (λ k. is_eq (slice_cmp (by_part.same i) name k.items)) old) ∙ found)
      ∙ sym (get-insert names_total (by_names old) name x q ∙ ap (cond (eq_by_cmp name_cmp q name) (Some x)) (get-from_entries names_total (listed old) q)))
