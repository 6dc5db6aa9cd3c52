-- Names in groups, one for each pattern, as one finite map from names.
use Rattle.std.specs.Prelude.{◌≡◌, Bool, true, false, not, ◌&&◌, List, [], ◌∷◌, map, Option, Some, None}
use Rattle.std.specs.Global.{Vec}
use Rattle.std.specs.Ordering.{eq_by_cmp}
use Rattle.std.specs.FinMap as finite
use Rattle.std.specs.FinMap.{FinMap, get, entries, retain_keys}
use Rattle.mp_vartree.specs.Names.{name_cmp, shape_cmp, pattern_cmp, matches, pattern_of}
use Rattle.mp_vartree.specs.declared.names.Part.{Part}
use Rattle.mp_vartree.specs.declared.names.Shape.{Shape}

-- a pattern is that pattern, or may also go on behind it
abbrev pub covers : Bool → List Shape → List Shape → Bool
covers below [] [] = true
covers below [] (s ∷ ss) = below
covers below (s ∷ ss) [] = false
covers below (s ∷ ss) (t ∷ ts) = eq_by_cmp shape_cmp s t && covers below ss ts

module _ {X : Type 0} where
  -- entries whose keys are held in vectors
  abbrev pub listed : List (Vec Part × X) → List (List Part × X)
  listed es = map (λ e. (e.0.items, e.1)) es

  abbrev pub by_names : List (Vec Part × X) → FinMap name_cmp X
  by_names es = finite.from_entries (listed es)

  abbrev pub with_each : List (List Part × X) → FinMap name_cmp X → FinMap name_cmp X
  with_each [] m = m
  with_each (e ∷ es) m = finite.insert (with_each es m) e.0 e.1

  -- the names of a group that match its pattern, in place of what matched it
  abbrev pub with_group : List Shape → FinMap name_cmp X → FinMap name_cmp X → FinMap name_cmp X
  with_group pattern group m = with_each (entries (retain_keys group (matches pattern))) (retain_keys m (λ name. not (matches pattern name)))

  abbrev pub grouped : List (List Shape × FinMap name_cmp X) → FinMap name_cmp X
  grouped [] = finite.empty
  grouped (e ∷ es) = with_group e.0 e.1 (grouped es)

  -- the names of all groups
  abbrev pub all_names : FinMap pattern_cmp (FinMap name_cmp X) → FinMap name_cmp X
  all_names groups = grouped (entries groups)

  -- a group has names of its pattern alone
  abbrev pub AreGrouped : FinMap pattern_cmp (FinMap name_cmp X) → Type 0
  AreGrouped groups =
      (pattern : List Shape) (group : FinMap name_cmp X) → get groups pattern ≡ Some group → (name : List Part) (x : X) → get group name ≡ Some x → pattern_of name ≡ pattern

  -- a group with something more
  abbrev pub group_with : FinMap pattern_cmp (FinMap name_cmp X) → List Shape → Option (FinMap name_cmp X) → List Part → X → FinMap pattern_cmp (FinMap name_cmp X)
  group_with groups pattern None name x = groups
  group_with groups pattern (Some group) name x = finite.insert groups pattern (finite.insert group name x)

  -- something stands at a name in the group of a pattern, if there is one
  abbrev pub with_name : FinMap pattern_cmp (FinMap name_cmp X) → List Shape → List Part → X → FinMap pattern_cmp (FinMap name_cmp X)
  with_name groups pattern name x = group_with groups pattern (get groups pattern) name x
