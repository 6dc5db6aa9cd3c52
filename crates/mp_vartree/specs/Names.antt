-- Full names and patterns.
-- After Knuth, METAFONT: The Program, part 15, and The METAFONTbook, chapter 7.
use Rattle.std.specs.Prelude.{ℕ, Bool, true, false, cond, ◌&&◌, nat_eq, List, [], ◌∷◌, map}
use Rattle.std.specs.Ordering.{nat_cmp, int_cmp}
use Rattle.std.specs.declared.cmp.Ordering.{Ordering}
use Rattle.std.specs.declared.cmp.Ordering.TheVariants.{Less, Equal, Greater}
use Rattle.std.specs.Cmp.Lexicographic.{slice_cmp}
use Rattle.mp_vartree.specs.declared.names.Part.{Part}
use Rattle.mp_vartree.specs.declared.names.Part.TheVariants as part
use Rattle.mp_vartree.specs.declared.names.Shape.{Shape}
use Rattle.mp_vartree.specs.declared.names.Shape.TheVariants as shape

-- parts in their order: symbols, then subscripts, each by number
abbrev pub part_cmp : Part → Part → Ordering
part_cmp (part.Sym a) (part.Sym b) = nat_cmp a b
part_cmp (part.Sym a) (part.Sub b) = Less
part_cmp (part.Sub a) (part.Sym b) = Greater
part_cmp (part.Sub a) (part.Sub b) = int_cmp a b

abbrev pub shape_cmp : Shape → Shape → Ordering
shape_cmp (shape.Sym a) (shape.Sym b) = nat_cmp a b
shape_cmp (shape.Sym a) shape.Any = Less
shape_cmp shape.Any (shape.Sym b) = Greater
shape_cmp shape.Any shape.Any = Equal

-- names and patterns are in the order of dictionaries
abbrev pub name_cmp : List Part → List Part → Ordering
name_cmp = slice_cmp part_cmp

abbrev pub pattern_cmp : List Shape → List Shape → Ordering
pattern_cmp = slice_cmp shape_cmp

-- a full name: the root stands in front of the parts, as a symbol
abbrev pub full_name : ℕ → List Part → List Part
full_name root name = part.Sym root ∷ name

abbrev pub full_pattern : ℕ → List Shape → List Shape
full_pattern root name = shape.Sym root ∷ name

-- a subscript is any subscript to a pattern
abbrev pub shape_of : Part → Shape
shape_of (part.Sym symbol) = shape.Sym symbol
shape_of (part.Sub value) = shape.Any

-- the one pattern that a name matches
abbrev pub pattern_of : List Part → List Shape
pattern_of name = map shape_of name

abbrev pub fits : Shape → Part → Bool
fits (shape.Sym a) (part.Sym b) = nat_eq a b
fits (shape.Sym a) (part.Sub b) = false
fits shape.Any (part.Sym b) = false
fits shape.Any (part.Sub b) = true

-- a name matches a pattern of its length, part by part
abbrev pub matches : List Shape → List Part → Bool
matches [] [] = true
matches [] (p ∷ ps) = false
matches (s ∷ ss) [] = false
matches (s ∷ ss) (p ∷ ps) = fits s p && matches ss ps

-- the name or a beginning of it matches the pattern
abbrev pub begins : List Shape → List Part → Bool
begins [] ps = true
begins (s ∷ ss) [] = false
begins (s ∷ ss) (p ∷ ps) = fits s p && begins ss ps

-- the name matches the pattern, or also a beginning of it may
abbrev pub is_meant : Bool → List Shape → List Part → Bool
is_meant below pattern name = cond below (begins pattern name) (matches pattern name)

-- the pattern of a root
abbrev pub is_of_root : ℕ → List Shape → Bool
is_of_root root [] = false
is_of_root root (shape.Sym a ∷ ss) = nat_eq root a
is_of_root root (shape.Any ∷ ss) = false
