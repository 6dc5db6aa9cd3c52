-- Worked examples: the definitions compute. The tag `a` has root 0; `b` and `c` are the symbols 5 and 6. The subscript
-- 1 is 65536 units.
use Rattle.std.proofs.Common.{◌≡◌, ℕ, ℤ, pos, true, false, List, [], ◌∷◌, Some, None, Err, refl}
use Rattle.mp_values.specs.declared.macros.Macro.{Macro}
use Rattle.mp_values.specs.declared.macros.Level.TheVariants as level
use Rattle.mp_values.specs.declared.value.Kind.TheVariants as kind
use Rattle.mp_values.specs.declared.value.Value.{Value}
use Rattle.mp_values.specs.declared.value.Value.TheVariants as value
use Rattle.mp_vartree.specs.declared.names.Part.{Part}
use Rattle.mp_vartree.specs.declared.names.Part.TheVariants as part
use Rattle.mp_vartree.specs.declared.names.Shape.{Shape}
use Rattle.mp_vartree.specs.declared.names.Shape.TheVariants as shape
use Rattle.mp_vartree.specs.declared.answers.Found.TheVariants as found
use Rattle.mp_vartree.specs.Names.{matches, pattern_of}
use Rattle.mp_vartree.specs.Variables.{Variables, no_variables, declare, define_macro, find_of, type_of, store, store_made, made, made_at, forget}

abbrev number : ℤ → Value
number n = value.Numeric (record { constant = n; terms = [] })

-- the unknown with that number
abbrev unknown : ℕ → Value
unknown n = value.Numeric (record { constant = pos 0; terms = record { serial = n; coefficient = pos 268435456 } ∷ [] })

-- a[]b and a1b, a2b
abbrev ab : List Shape
ab = shape.Any ∷ shape.Sym 5 ∷ []

abbrev a1b : List Part
a1b = part.Sub (pos 65536) ∷ part.Sym 5 ∷ []

abbrev a2b : List Part
a2b = part.Sub (pos 131072) ∷ part.Sym 5 ∷ []

its_pattern : pattern_of a1b ≡ ab
its_pattern = refl

not_its_pattern : matches (shape.Any ∷ shape.Sym 6 ∷ []) a1b ≡ false
not_its_pattern = refl

-- numeric a[]b; a1b and a2b are read, a2b is assigned
abbrev declared : Variables
declared = (declare no_variables 0 ab kind.Numeric).1

abbrev read : Variables
read = (store declared 0 a2b (number (pos 7))).1

abbrev two : Variables
two = (store_made read 0 a1b (unknown 3)).1

found_one : find_of two 0 a1b ≡ found.Value (unknown 3)
found_one = refl

found_two : find_of two 0 a2b ≡ found.Value (number (pos 7))
found_two = refl

found_none : find_of two 0 (part.Sub (pos 65536) ∷ []) ≡ found.Nothing
found_none = refl

other_root : find_of two 1 a1b ≡ found.Nothing
other_root = refl

its_type : type_of two 0 a2b ≡ Some kind.Numeric
its_type = refl

no_type : type_of two 0 [] ≡ None
no_type = refl

-- a1b alone has an unknown of its own
its_unknown : made two 0 ab false ≡ 3 ∷ []
its_unknown = refl

no_unknown : made_at two 0 a2b ≡ []
no_unknown = refl

all_below : made (store_made two 0 [] (unknown 2)).1 0 [] true ≡ 2 ∷ 3 ∷ []
all_below = refl

-- string a; declares a alone
abbrev text_declared : Variables
text_declared = (declare two 0 [] kind.Text).1

kept : find_of text_declared 0 a1b ≡ found.Value (unknown 3)
kept = refl

wrong_type : store text_declared 0 [] (number (pos 1)) ≡ (Err (record {}), text_declared)
wrong_type = refl

undeclared_is_numeric : store text_declared 0 (part.Sym 6 ∷ []) (value.Boolean true) ≡ (Err (record {}), text_declared)
undeclared_is_numeric = refl

-- numeric a[]b; once more forgets both
both_forgotten : (declare two 0 ab kind.Numeric).1 ≡ declared
both_forgotten = refl

-- vardef a[]; a1 and a1b call it, a does not
abbrev macro : Macro
macro = record { params = []; body = []; level = level.Variable }

abbrev with_macro : Variables
with_macro = (define_macro two 0 (shape.Any ∷ []) macro).1

called : find_of with_macro 0 a1b ≡ found.Macro macro 1
called = refl

not_called : find_of with_macro 0 [] ≡ found.Nothing
not_called = refl

-- what was below it is forgotten, and nothing can be declared there
none_made : made with_macro 0 [] true ≡ []
none_made = refl

below_a_macro : declare with_macro 0 ab kind.Numeric ≡ (Err (record {}), with_macro)
below_a_macro = refl

-- but its own name can
in_its_place : type_of (declare with_macro 0 (shape.Any ∷ []) kind.Text).1 0 (part.Sub (pos 0) ∷ []) ≡ Some kind.Text
in_its_place = refl

-- the shortest name counts
shortest : find_of (define_macro with_macro 0 [] macro).1 0 a1b ≡ found.Macro macro 0
shortest = refl

-- with a tag all of its names go
nothing_left : forget with_macro 0 ≡ no_variables
nothing_left = refl
