-- What is left of a body with its arguments.
use Rattle.std.specs.Prelude.{ℕ, List, [], ◌∷◌, ◌++◌, ◌+◌, drop}
use Rattle.mp_values.specs.declared.item.Item.{Item}
use Rattle.mp_values.specs.declared.item.Item.TheVariants.{Param}
use Rattle.mp_values.specs.Substitution.{stands_for, substitute}
use Rattle.mp_input.specs.declared.text.Position.{Position}

-- without the first `inner` items that the first item of the body stands for
abbrev pub substitute_behind : List Item → ℕ → List (List Item) → List Item
substitute_behind [] inner arguments = []
substitute_behind (x ∷ body) inner arguments = drop inner (stands_for arguments x) ++ substitute body arguments

-- from a position on
abbrev pub text_left : List Item → Position → List (List Item) → List Item
text_left body p arguments = substitute_behind (drop p.at body) p.inner arguments

-- at the next item of the body
abbrev pub past : Position → Position
past p = record { at = p.at + 1; inner = 0 }

-- behind one item that an item of the body gave; what is no parameter gives no more
abbrev pub behind : Item → Position → Position
behind (Param n) p = record { at = p.at; inner = p.inner + 1 }
behind item p = past p
