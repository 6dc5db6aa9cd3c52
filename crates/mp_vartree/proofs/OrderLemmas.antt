-- The orders of parts and of shapes are total, and only equal ones tie.
use Rattle.std.proofs.Common.{◌≡◌, refl, ap}
use Rattle.std.specs.Ordering.{ordering_reverse}
use Rattle.std.specs.declared.cmp.Ordering.{Ordering}
use Rattle.std.specs.declared.cmp.Ordering.TheVariants.{Less, Equal}
use Rattle.std.specs.Cmp.{IsTotalOrder, nat_cmp_total, int_cmp_total}
use Rattle.std.specs.FinMap.{IsAntisymmetric, nat_cmp-IsAntisymmetric, int_cmp-IsAntisymmetric}
use Rattle.mp_vartree.specs.declared.names.Part.{Part}
use Rattle.mp_vartree.specs.declared.names.Part.TheVariants as part
use Rattle.mp_vartree.specs.declared.names.Shape.{Shape}
use Rattle.mp_vartree.specs.declared.names.Shape.TheVariants as shape
use Rattle.mp_vartree.specs.Names.{part_cmp, shape_cmp}
use Rattle.mp_vartree.specs.contracts.names.PartOrd.TheImpl as parts
use Rattle.mp_vartree.specs.contracts.names.ShapeOrd.TheImpl as shapes

part_antisymm : (x y : Part) → part_cmp x y ≡ ordering_reverse (part_cmp y x)
part_antisymm (part.Sym a) (part.Sym b) = nat_cmp_total.antisymm a b
part_antisymm (part.Sym a) (part.Sub b) = refl
part_antisymm (part.Sub a) (part.Sym b) = refl
part_antisymm (part.Sub a) (part.Sub b) = int_cmp_total.antisymm a b

part_trans : (x y z : Part) → part_cmp x y ≡ Less → part_cmp y z ≡ Less → part_cmp x z ≡ Less
part_trans (part.Sym a) (part.Sym b) (part.Sym c) e f = nat_cmp_total.trans a b c e f
part_trans (part.Sym a) (part.Sym b) (part.Sub c) e f = refl
part_trans (part.Sym a) (part.Sub b) (part.Sym c) e f = cc
part_trans (part.Sym a) (part.Sub b) (part.Sub c) e f = refl
part_trans (part.Sub a) (part.Sym b) z e f = cc
part_trans (part.Sub a) (part.Sub b) (part.Sym c) e f = cc
part_trans (part.Sub a) (part.Sub b) (part.Sub c) e f = int_cmp_total.trans a b c e f

part_congr : (x y z : Part) → part_cmp x y ≡ Equal → part_cmp x z ≡ part_cmp y z
part_congr (part.Sym a) (part.Sym b) (part.Sym c) e = nat_cmp_total.congr a b c e
part_congr (part.Sym a) (part.Sym b) (part.Sub c) e = refl
part_congr (part.Sym a) (part.Sub b) z e = cc
part_congr (part.Sub a) (part.Sym b) z e = cc
part_congr (part.Sub a) (part.Sub b) (part.Sym c) e = refl
part_congr (part.Sub a) (part.Sub b) (part.Sub c) e = int_cmp_total.congr a b c e

pub part_cmp_total : IsTotalOrder part_cmp
part_cmp_total = record { antisymm = part_antisymm; trans = part_trans; congr = part_congr }

pub part_cmp-IsAntisymmetric : IsAntisymmetric part_cmp
part_cmp-IsAntisymmetric (part.Sym a) (part.Sym b) e = ap part.Sym (nat_cmp-IsAntisymmetric a b e)
part_cmp-IsAntisymmetric (part.Sym a) (part.Sub b) e = cc
part_cmp-IsAntisymmetric (part.Sub a) (part.Sym b) e = cc
part_cmp-IsAntisymmetric (part.Sub a) (part.Sub b) e = ap part.Sub (int_cmp-IsAntisymmetric a b e)

shape_antisymm : (x y : Shape) → shape_cmp x y ≡ ordering_reverse (shape_cmp y x)
shape_antisymm (shape.Sym a) (shape.Sym b) = nat_cmp_total.antisymm a b
shape_antisymm (shape.Sym a) shape.Any = refl
shape_antisymm shape.Any (shape.Sym b) = refl
shape_antisymm shape.Any shape.Any = refl

shape_trans : (x y z : Shape) → shape_cmp x y ≡ Less → shape_cmp y z ≡ Less → shape_cmp x z ≡ Less
shape_trans (shape.Sym a) (shape.Sym b) (shape.Sym c) e f = nat_cmp_total.trans a b c e f
shape_trans (shape.Sym a) y shape.Any e f = refl
shape_trans (shape.Sym a) shape.Any (shape.Sym c) e f = cc
shape_trans shape.Any (shape.Sym b) z e f = cc
shape_trans shape.Any shape.Any z e f = cc

shape_congr : (x y z : Shape) → shape_cmp x y ≡ Equal → shape_cmp x z ≡ shape_cmp y z
shape_congr (shape.Sym a) (shape.Sym b) (shape.Sym c) e = nat_cmp_total.congr a b c e
shape_congr (shape.Sym a) (shape.Sym b) shape.Any e = refl
shape_congr (shape.Sym a) shape.Any z e = cc
shape_congr shape.Any (shape.Sym b) z e = cc
shape_congr shape.Any shape.Any z e = refl

pub shape_cmp_total : IsTotalOrder shape_cmp
shape_cmp_total = record { antisymm = shape_antisymm; trans = shape_trans; congr = shape_congr }

pub shape_cmp-IsAntisymmetric : IsAntisymmetric shape_cmp
shape_cmp-IsAntisymmetric (shape.Sym a) (shape.Sym b) e = ap shape.Sym (nat_cmp-IsAntisymmetric a b e)
shape_cmp-IsAntisymmetric (shape.Sym a) shape.Any e = cc
shape_cmp-IsAntisymmetric shape.Any (shape.Sym b) e = cc
shape_cmp-IsAntisymmetric shape.Any shape.Any e = refl

-- the derived comparison of parts is that of the definition
derived_part : (x y : Part) → (parts.cmp-value).it x y ≡ part_cmp x y
derived_part (part.Sym a) (part.Sym b) = refl
derived_part (part.Sym a) (part.Sub b) = refl
derived_part (part.Sub a) (part.Sym b) = refl
derived_part (part.Sub a) (part.Sub b) = refl

pub part_order : (parts.cmp-value).it ≡ part_cmp
part_order = λ i x y. derived_part x y i

-- the same of shapes
derived_shape : (x y : Shape) → (shapes.cmp-value).it x y ≡ shape_cmp x y
derived_shape (shape.Sym a) (shape.Sym b) = refl
derived_shape (shape.Sym a) shape.Any = refl
derived_shape shape.Any (shape.Sym b) = refl
derived_shape shape.Any shape.Any = refl

pub shape_order : (shapes.cmp-value).it ≡ shape_cmp
shape_order = λ i x y. derived_shape x y i

-- the steps of a tree: how the code compares them, and how the definition does
pub record Steps (K : Type 0) : Type 0 where
  pub derived : K → K → Ordering
  pub order : K → K → Ordering
  pub same : derived ≡ order
  pub total : IsTotalOrder order
  pub only : IsAntisymmetric order

abbrev pub by_part : Steps Part
by_part = record { derived = (parts.cmp-value).it; order = part_cmp; same = part_order; total = part_cmp_total; only = part_cmp-IsAntisymmetric }

abbrev pub by_shape : Steps Shape
by_shape = record { derived = (shapes.cmp-value).it; order = shape_cmp; same = shape_order; total = shape_cmp_total; only = shape_cmp-IsAntisymmetric }
