-- Parts and shapes as numbers, by which proofs tell them apart. No contract cites this.
use Rattle.std.specs.Prelude.{◌≡◌, refl, ℕ, ℤ, ◌⊎◌}
use Rattle.std.specs.Coded.{Coded, code_by, coded_ℕ, coded_ℤ, coded⊎}
use Rattle.std.proofs.Common.{inl, inr}
use base.Stored.{coded_unit}
use Rattle.mp_vartree.specs.declared.names.Part.{Part}
use Rattle.mp_vartree.specs.declared.names.Part.TheVariants as part
use Rattle.mp_vartree.specs.declared.names.Shape.{Shape}
use Rattle.mp_vartree.specs.declared.names.Shape.TheVariants as shape

abbrev pub of_part : Part → ℕ ⊎ ℤ
of_part (part.Sym symbol) = inl symbol
of_part (part.Sub value) = inr value

abbrev pub to_part : ℕ ⊎ ℤ → Part
to_part (inl symbol) = part.Sym symbol
to_part (inr value) = part.Sub value

pub to_part-of_part : (p : Part) → to_part (of_part p) ≡ p
to_part-of_part (part.Sym symbol) = refl
to_part-of_part (part.Sub value) = refl

abbrev pub part_code : Coded Part
part_code = code_by (ℕ ⊎ ℤ) (coded⊎ coded_ℕ coded_ℤ) of_part to_part to_part-of_part

abbrev pub of_shape : Shape → ℕ ⊎ Unit {0}
of_shape (shape.Sym symbol) = inl symbol
of_shape shape.Any = inr tt

abbrev pub to_shape : ℕ ⊎ Unit {0} → Shape
to_shape (inl symbol) = shape.Sym symbol
to_shape (inr u) = shape.Any

pub to_shape-of_shape : (s : Shape) → to_shape (of_shape s) ≡ s
to_shape-of_shape (shape.Sym symbol) = refl
to_shape-of_shape shape.Any = refl

abbrev pub shape_code : Coded Shape
shape_code = code_by (ℕ ⊎ Unit {0}) (coded⊎ coded_ℕ coded_unit) of_shape to_shape to_shape-of_shape
