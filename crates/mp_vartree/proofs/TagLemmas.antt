-- What changes of all names with one tag.
use Rattle.std.proofs.Common.{◌≡◌, ℕ, false, Option, Some, None, BTreeMap, is_some, refl}
use Rattle.std.specs.Ordering.{nat_cmp}
use Rattle.std.specs.BTreeMap as map
use Rattle.std.specs.FinMap.{FinMap, empty}
use Rattle.mp_vartree.specs.Names.{name_cmp, pattern_cmp}
use Rattle.mp_vartree.specs.Layout.Tags.{declarations_in, variables_in}
use Rattle.mp_vartree.specs.declared.entry.Declared.{Declared}
use Rattle.mp_vartree.specs.declared.entry.Variable.{Variable}
use Rattle.mp_vartree.specs.declared.tag.Tag.{Tag}
use Rattle.mp_vartree.proofs.OrderLemmas.{by_part, by_shape}
use Rattle.mp_vartree.proofs.RootLemmas as root
use Rattle.mp_vartree.proofs.RootLemmas.{part_roots, shape_roots}

abbrev pub declarations_of : Tag → FinMap pattern_cmp Declared
declarations_of tag = tag.declarations.paths

abbrev pub variables_of : Tag → FinMap name_cmp Variable
variables_of tag = tag.variables

pub none_there : {A : Type 0} (o : Option A) → is_some o ≡ false → None ≡ o
none_there None e = refl
none_there (Some x) e = cc

-- a fresh tag where there was none
pub fresh_declarations : (tags new : BTreeMap ℕ Tag) (a : ℕ) (tag : Tag) → is_some (map.get nat_cmp tags a) ≡ false → map.Updates nat_cmp tags new a (Some tag) → tag.declarations.paths ≡ empty
    → declarations_in new.entries ≡ declarations_in tags.entries
fresh_declarations tags new a tag none updates fresh =
    root.tag_kept by_shape shape_roots declarations_of a tags.entries new.entries None (Some tag) (none_there (map.get nat_cmp tags a) none) updates.0 fresh

pub fresh_variables : (tags new : BTreeMap ℕ Tag) (a : ℕ) (tag : Tag) → is_some (map.get nat_cmp tags a) ≡ false → map.Updates nat_cmp tags new a (Some tag) → tag.variables ≡ empty
    → variables_in new.entries ≡ variables_in tags.entries
fresh_variables tags new a tag none updates fresh =
    root.tag_kept by_part part_roots variables_of a tags.entries new.entries None (Some tag) (none_there (map.get nat_cmp tags a) none) updates.0 fresh
