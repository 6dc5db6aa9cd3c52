-- What is known of roots by their tags.
use Rattle.std.proofs.Common.{◌≡◌, ℕ, Bool, true, false, cond, List, [], ◌∷◌, map, ◌⊎◌, inl, inr, Option, Some, None, refl, sym, ap, ◌∙◌, subst}
use Rattle.std.specs.Option.{option_map, option_and_then}
use Rattle.std.specs.Ordering.{is_eq, nat_cmp}
use Rattle.std.specs.Map.{lookup}
use Rattle.std.specs.Cmp.Lexicographic.{slice_cmp}
use Rattle.std.specs.FinMap.{FinMap, get, empty, get-empty, insert, retain_keys}
use Rattle.mp_vartree.specs.Layout.Tree.{joined}
use Rattle.mp_vartree.specs.declared.names.Part.{Part}
use Rattle.mp_vartree.specs.declared.names.Part.TheVariants as part
use Rattle.mp_vartree.specs.declared.names.Shape.{Shape}
use Rattle.mp_vartree.specs.declared.names.Shape.TheVariants as shape
use Rattle.mp_vartree.proofs.OrderLemmas.{Steps, by_part, by_shape}
use Rattle.mp_vartree.proofs.TreeLemmas.{ChangesChild, get-joined, get-joined-here, unchanged_below, insert_below, retain_below}
use Rattle.mp_vartree.proofs.NodeLemmas.{passed, then_map}

-- how roots are steps: by their number, apart from all other steps
pub record Roots {K : Type 0} (s : Steps K) : Type 0 where
  pub step : ℕ → K
  pub ranked : (a b : ℕ) → s.order (step a) (step b) ≡ nat_cmp a b
  pub cases : (p : K) → ((a : ℕ) × (p ≡ step a)) ⊎ ((a : ℕ) → (is_eq (s.order p (step a)) ≡ false) × (is_eq (s.order (step a) p) ≡ false))

pub part_cases : (p : Part) → ((a : ℕ) × (p ≡ part.Sym a)) ⊎ ((a : ℕ) → (is_eq (by_part.order p (part.Sym a)) ≡ false) × (is_eq (by_part.order (part.Sym a) p) ≡ false))
part_cases (part.Sym a) = inl (a, refl)
part_cases (part.Sub v) = inr (λ a. (refl, refl))

abbrev pub part_roots : Roots by_part
part_roots = record { step = part.Sym; ranked = λ a b. refl; cases = part_cases }

pub shape_cases : (p : Shape) → ((a : ℕ) × (p ≡ shape.Sym a)) ⊎ ((a : ℕ) → (is_eq (by_shape.order p (shape.Sym a)) ≡ false) × (is_eq (by_shape.order (shape.Sym a) p) ≡ false))
shape_cases (shape.Sym a) = inl (a, refl)
shape_cases shape.Any = inr (λ a. (refl, refl))

abbrev pub shape_roots : Roots by_shape
shape_roots = record { step = shape.Sym; ranked = λ a b. refl; cases = shape_cases }

module _ {K T X : Type 0} (s : Steps K) (r : Roots s) (paths : T → FinMap (slice_cmp s.order) X) where
  -- all paths of the tags, behind their roots
  abbrev pub rooted : List (ℕ × T) → FinMap (slice_cmp s.order) X
  rooted tags = joined s.order (map (λ e. (r.step e.0, paths e.1)) tags)

  tag_of : (p : K) (a : ℕ) (tags : List (ℕ × T)) → ((b : ℕ) → is_eq (s.order p (r.step b)) ≡ is_eq (nat_cmp a b))
      → lookup (λ k. is_eq (s.order p k)) (map (λ e. (r.step e.0, paths e.1)) tags) ≡ option_map paths (lookup (λ k. is_eq (nat_cmp a k)) tags)
  tag_of p a [] same = refl
  tag_of p a (e ∷ es) same =
      ap (λ b. cond b (Some (paths e.1)) (lookup (λ k. is_eq (s.order p k)) (map (λ e. (r.step e.0, paths e.1)) es))) (same e.0)
      ∙ passed paths (is_eq (nat_cmp a e.0)) e.1 _ _ (tag_of p a es same)

  no_tag : (p : K) (tags : List (ℕ × T)) → ((b : ℕ) → is_eq (s.order p (r.step b)) ≡ false) → lookup (λ k. is_eq (s.order p k)) (map (λ e. (r.step e.0, paths e.1)) tags) ≡ None
  no_tag p [] other = refl
  no_tag p (e ∷ es) other =
      ap (λ b. cond b (Some (paths e.1)) (lookup (λ k. is_eq (s.order p k)) (map (λ e. (r.step e.0, paths e.1)) es))) (other e.0) ∙ no_tag p es other

  -- a tag's paths, or none
  abbrev pub tag_paths : Option T → FinMap (slice_cmp s.order) X
  tag_paths None = empty
  tag_paths (Some t) = paths t

  get-tag : (t : Option T) (ps : List K) → option_and_then (λ t. get (paths t) ps) t ≡ get (tag_paths t) ps
  get-tag None ps = sym (get-empty (slice_cmp s.order) ps)
  get-tag (Some t) ps = refl

  -- behind a root
  pub get-rooted : (a : ℕ) (tags : List (ℕ × T)) (ps : List K) → get (rooted tags) (r.step a ∷ ps) ≡ get (tag_paths (lookup (λ k. is_eq (nat_cmp a k)) tags)) ps
  get-rooted a tags ps =
      get-joined s.order s.total s.only (map (λ e. (r.step e.0, paths e.1)) tags) (r.step a) ps
      ∙ ap (option_and_then (λ child. get child ps)) (tag_of (r.step a) a tags (λ b. ap is_eq (r.ranked a b)))
      ∙ then_map paths (λ child. get child ps) (lookup (λ k. is_eq (nat_cmp a k)) tags) ∙ get-tag (lookup (λ k. is_eq (nat_cmp a k)) tags) ps

  get-unrooted : (p : K) (tags : List (ℕ × T)) (ps : List K) → ((b : ℕ) → is_eq (s.order p (r.step b)) ≡ false) → get (rooted tags) (p ∷ ps) ≡ None
  get-unrooted p tags ps other =
      get-joined s.order s.total s.only (map (λ e. (r.step e.0, paths e.1)) tags) p ps ∙ ap (option_and_then (λ child. get child ps)) (no_tag p tags other)

  changed_tag : (b : Bool) (w old : Option T) (ps : List K) → get (tag_paths (cond b w old)) ps ≡ cond b (get (tag_paths w) ps) (get (tag_paths old) ps)
  changed_tag true w old ps = refl
  changed_tag false w old ps = refl

  -- one tag changes
  pub changes_tag : (a : ℕ) (tags new : List (ℕ × T)) (w : Option T)
      → ((q : ℕ) → lookup (λ k. is_eq (nat_cmp q k)) new ≡ cond (is_eq (nat_cmp a q)) w (lookup (λ k. is_eq (nat_cmp q k)) tags))
      → ChangesChild s.order s.total s.only (r.step a) (rooted tags) (rooted new) (tag_paths (lookup (λ k. is_eq (nat_cmp a k)) tags)) (tag_paths w)
  changes_tag a tags new w updates = record {
    here = get-joined-here s.order s.total s.only _ ∙ sym (get-joined-here s.order s.total s.only _);
    behind = λ p ps.
        elim (r.cases p) [
          | inl (q, is) ↦
              rw is (get-rooted q new ps ∙ ap (λ t. get (tag_paths t) ps) (updates q) ∙ changed_tag (is_eq (nat_cmp a q)) w (lookup (λ k. is_eq (nat_cmp q k)) tags) ps
              ∙ ap (λ b. cond b (get (tag_paths w) ps) (get (tag_paths (lookup (λ k. is_eq (nat_cmp q k)) tags)) ps)) (sym (ap is_eq (r.ranked a q)))
              ∙ ap (cond (is_eq (s.order (r.step a) (r.step q))) (get (tag_paths w) ps)) (sym (get-rooted q tags ps)))
          | inr other ↦
              get-unrooted p new ps (λ b. (other b).0) ∙ sym (get-unrooted p tags ps (λ b. (other b).0))
              ∙ ap (λ b. cond b (get (tag_paths w) ps) (get (rooted tags) (p ∷ ps))) (sym (other a).1)
        ];
    before = λ ps. get-rooted a tags ps;
  }

  -- the tags with another one for a root
  abbrev pub TagUpdated : List (ℕ × T) → List (ℕ × T) → ℕ → Option T → Type 0
  TagUpdated tags new a w = (q : ℕ) → lookup (λ k. is_eq (nat_cmp q k)) new ≡ cond (is_eq (nat_cmp a q)) w (lookup (λ k. is_eq (nat_cmp q k)) tags)

  tag_change : (a : ℕ) (tags new : List (ℕ × T)) (before w : Option T) → before ≡ lookup (λ k. is_eq (nat_cmp a k)) tags → TagUpdated tags new a w
      → ChangesChild s.order s.total s.only (r.step a) (rooted tags) (rooted new) (tag_paths before) (tag_paths w)
  tag_change a tags new before w was updates =
      subst (λ t. ChangesChild s.order s.total s.only (r.step a) (rooted tags) (rooted new) (tag_paths t) (tag_paths w)) (sym was) (changes_tag a tags new w updates)

  -- nothing changes with a tag whose paths stay
  pub tag_kept : (a : ℕ) (tags new : List (ℕ × T)) (before w : Option T) → before ≡ lookup (λ k. is_eq (nat_cmp a k)) tags → TagUpdated tags new a w
      → tag_paths w ≡ tag_paths before → rooted new ≡ rooted tags
  tag_kept a tags new before w was updates is =
      unchanged_below s.order s.total s.only (r.step a) (rooted tags) (rooted new) (tag_paths before) (tag_paths w) (tag_change a tags new before w was updates) is

  -- what is put into a tag
  pub tag_inserted : (a : ℕ) (tags new : List (ℕ × T)) (before w : Option T) (rest : List K) (x : X) → before ≡ lookup (λ k. is_eq (nat_cmp a k)) tags → TagUpdated tags new a w
      → tag_paths w ≡ insert (tag_paths before) rest x → rooted new ≡ insert (rooted tags) (r.step a ∷ rest) x
  tag_inserted a tags new before w rest x was updates is =
      insert_below s.order s.total s.only (r.step a) (rooted tags) (rooted new) (tag_paths before) (tag_paths w) rest x (tag_change a tags new before w was updates) is

  -- what stays of a tag
  pub tag_retained : (a : ℕ) (tags new : List (ℕ × T)) (before w : Option T) (test test' : List K → Bool) → before ≡ lookup (λ k. is_eq (nat_cmp a k)) tags → TagUpdated tags new a w
      → tag_paths w ≡ retain_keys (tag_paths before) test' → test [] ≡ true → ((q : K) (qs : List K) → test (q ∷ qs) ≡ cond (is_eq (s.order (r.step a) q)) (test' qs) true)
      → rooted new ≡ retain_keys (rooted tags) test
  tag_retained a tags new before w test test' was updates is here tests =
      retain_below s.order s.total s.only (r.step a) (rooted tags) (rooted new) (tag_paths before) (tag_paths w) test test' (tag_change a tags new before w was updates) is here tests
