-- Sines and cosines, by turns whose tangents are powers of 1/2.
-- After Knuth, METAFONT: The Program, part 8 (algebraic and transcendental functions). Every constant is this project's choice.
use Rattle.std.specs.Prelude.{ℕ, zero, suc, ◌+◌, ◌-◌, ◌/◌, ◌%◌, ◌^◌, ◌≤◌, ℤ, pos, neg_ℤ, ◌+ℤ◌, ◌-ℤ◌, ◌*ℤ◌, ◌≤ℤ◌, int_lt, int_div, unsigned_abs, nat_eq, nat_le, cond, List, [], ◌∷◌, slice_index}
use Rattle.std.specs.Int.{int_rem_euclid}
use Rattle.mp_scaled.specs.Round.{round}
use Rattle.mp_scaled.specs.declared.units.TheConstants.{FRACTION_ONE}
use Rattle.mp_trig.specs.Roots.{nearest_root, square}
use Rattle.mp_trig.specs.declared.sines.TheConstants.{TURN, OCTANT}

-- the angles whose tangents are 2^-k, for k from 1 to 26, in units of 2^-20 degree
abbrev pub arctangents : List ℕ
arctangents =
    27855475 ∷ 14718068 ∷ 7471121 ∷ 3750058 ∷ 1876857 ∷ 938658 ∷ 469357 ∷ 234682 ∷ 117342 ∷ 58671 ∷
    29335 ∷ 14668 ∷ 7334 ∷ 3667 ∷ 1833 ∷ 917 ∷ 458 ∷ 229 ∷ 115 ∷ 57 ∷ 29 ∷ 14 ∷ 7 ∷ 4 ∷ 2 ∷ 1 ∷ []

unfoldable pub angle_entry : ℕ → ℕ
angle_entry k = slice_index arctangents (k - 1)

-- a point, and the angle that it is still to be turned by, towards the first axis
pub record Turned : Type 0 where
  pub x : ℤ
  pub y : ℤ
  pub left : ℕ

-- a turn with tangent 2^-k, for k = n + 1, where the angle left is not smaller; quotients are cut toward zero
abbrev pub sine_turn : ℕ → Turned → Turned
sine_turn n s =
    cond (nat_le (angle_entry (n + 1)) s.left)
    (record {
      x = s.x +ℤ int_div s.y (pos (2 ^ (n + 1)));
      y = s.y -ℤ int_div s.x (pos (2 ^ (n + 1)));
      left = s.left - angle_entry (n + 1);
    })
    s

-- after so many turns; once nothing is left, no turn changes anything
unfoldable pub sine_after : ℕ → Turned → Turned
sine_after zero s = s
sine_after (suc n) s = sine_turn n (sine_after n s)

-- how far a coordinate can be from 0 after so many turns
unfoldable pub bound_after : ℕ → ℕ
bound_after zero = FRACTION_ONE
bound_after (suc n) = bound_after n + bound_after n / 2 ^ (n + 1)

-- the point at 45 degrees, turned by the angle
abbrev pub turned_by : ℕ → Turned
turned_by angle = sine_after 26 (record { x = pos FRACTION_ONE; y = pos FRACTION_ONE; left = angle })

pub record Point : Type 0 where
  pub x : ℤ
  pub y : ℤ

-- a point of the first octant, from the angle between 45 degrees and it
abbrev pub octant_point : ℕ → Point
octant_point angle = let s = turned_by angle in
    record { x = s.x; y = cond (int_lt s.y (pos 0)) (pos 0) s.y }

-- the same point in another octant of the turn
abbrev pub in_octant : ℕ → Point → Point
in_octant octant p =
    cond (nat_eq octant 0) p
    (cond (nat_eq octant 1) (record { x = p.y; y = p.x })
    (cond (nat_eq octant 2) (record { x = neg_ℤ p.y; y = p.x })
    (cond (nat_eq octant 3) (record { x = neg_ℤ p.x; y = p.y })
    (cond (nat_eq octant 4) (record { x = neg_ℤ p.x; y = neg_ℤ p.y })
    (cond (nat_eq octant 5) (record { x = neg_ℤ p.y; y = neg_ℤ p.x })
    (cond (nat_eq octant 6) (record { x = p.y; y = neg_ℤ p.x })
    (record { x = p.x; y = neg_ℤ p.y })))))))

-- an angle brought into one turn of 360 degrees
abbrev pub in_one_turn : ℤ → ℕ
in_one_turn z = unsigned_abs (int_rem_euclid z TURN)

-- the angle between 45 degrees and the angle that stands in the first octant for one within a turn
abbrev pub from_middle : ℕ → ℕ
from_middle angle =
    cond (nat_eq (angle / OCTANT % 2) 0) (OCTANT - angle % OCTANT) (angle % OCTANT)

abbrev pub first_point : ℤ → Point
first_point z = octant_point (from_middle (in_one_turn z))

abbrev pub direction : ℤ → Point
direction z = in_octant (in_one_turn z / OCTANT) (first_point z)

-- how far the point is from the origin
abbrev pub radius : ℤ → ℕ
radius z = let p = first_point z in nearest_root (square p.x + square p.y)

-- the sine and the cosine of an angle, as fractions
abbrev pub sine_of : ℤ → ℤ
sine_of z = round ((direction z).y *ℤ pos FRACTION_ONE) (pos (radius z))

abbrev pub cosine_of : ℤ → ℤ
cosine_of z = round ((direction z).x *ℤ pos FRACTION_ONE) (pos (radius z))

-- the bounds that hold after n turns
pub record IsBoundedAfter (n : ℕ) (x y : ℤ) : Type 0 where
  pub near_x : unsigned_abs x ≤ bound_after n
  pub near_y : unsigned_abs y ≤ bound_after n
  pub low_x : pos 1342177280 ≤ℤ (pos 4 *ℤ x +ℤ pos (bound_after n))
  pub low_y : pos 536870912 ≤ℤ (y +ℤ pos (bound_after n))
