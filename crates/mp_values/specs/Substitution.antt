-- A body with its arguments in place of its parameters.
use Rattle.std.specs.Prelude.{List, [], ◌∷◌, slice_get, unwrap_or}
use Rattle.std.specs.List.{flat_map}
use Rattle.mp_values.specs.declared.item.Item.{Item}
use Rattle.mp_values.specs.declared.item.Item.TheVariants.{Param}

-- what an item of a body stands for: a parameter for the items of its argument, any other for itself
abbrev pub stands_for : List (List Item) → Item → List Item
stands_for arguments (Param n) = unwrap_or (slice_get arguments n) []
stands_for arguments item = item ∷ []

abbrev pub substitute : List Item → List (List Item) → List Item
substitute body arguments = flat_map (stands_for arguments) body
