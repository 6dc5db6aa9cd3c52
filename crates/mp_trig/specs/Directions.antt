-- The angle of a direction, by turns whose tangents are powers of 1/2.
-- After Knuth, METAFONT: The Program, part 8 (algebraic and transcendental functions). Every constant is this project's choice.
use Rattle.std.specs.Prelude.{ℕ, zero, suc, ◌+◌, ◌-◌, ◌*◌, ◌/◌, ◌^◌, ℤ, pos, neg_ℤ, ◌+ℤ◌, ◌-ℤ◌, int_lt, unsigned_abs, nat_eq, nat_lt, Bool, true, false, ◌&&◌, cond, Result, Ok, Err}
use Rattle.mp_trig.specs.Sines.{angle_entry}
use Rattle.mp_trig.specs.declared.directions.TheConstants.{QUARTER, HALF}
use Rattle.mp_trig.specs.declared.fault.TrigFault.{TrigFault}
use Rattle.mp_trig.specs.declared.fault.TrigFault.TheVariants.{OutOfDomain}

-- the magnitudes of a direction's coordinates, the greater one first
pub record Legs : Type 0 where
  pub long : ℕ
  pub short : ℕ

abbrev pub legs_of : ℕ → ℕ → Legs
legs_of width height =
    cond (nat_lt width height) (record { long = height; short = width }) (record { long = width; short = height })

abbrev pub halved : Legs → Legs
halved legs = record { long = legs.long / 2; short = legs.short / 2 }

abbrev pub doubled : Legs → Legs
doubled legs = record { long = legs.long * 2; short = legs.short * 2 }

-- halved until the longer leg is below 2^29; as many turns as its own length are enough
unfoldable pub shrunk_within : ℕ → Legs → Legs
shrunk_within zero legs = legs
shrunk_within (suc turns) legs =
    elim (nat_lt legs.long 536870912) [ true ↦ legs | false ↦ shrunk_within turns (halved legs) ]

abbrev pub shrunk : Legs → Legs
shrunk legs = shrunk_within legs.long legs

-- doubled until the longer leg is 2^28 or more; 28 turns are enough where it is above 0
unfoldable pub grown_within : ℕ → Legs → Legs
grown_within zero legs = legs
grown_within (suc turns) legs =
    elim (nat_lt legs.long 268435456) [ true ↦ grown_within turns (doubled legs) | false ↦ legs ]

abbrev pub grown : Legs → Legs
grown legs = grown_within 28 legs

-- legs that are turned, the shorter one as a multiple, and the angle that they were turned by
pub record Leaning : Type 0 where
  pub long : ℕ
  pub short : ℕ
  pub angle : ℕ

-- what the longer leg gains by a turn with tangent 2^-k, for k = n + 1; nothing after the 15th
abbrev pub gain : ℕ → ℕ → ℕ
gain n short = cond (nat_lt n 15) (short / 2 ^ (2 * (n + 1))) 0

-- a turn, where the shorter leg is then the greater one
abbrev pub angle_turn : ℕ → Leaning → Leaning
angle_turn n s =
    cond (nat_lt s.long (2 * s.short))
    (record {
      long = s.long + gain n (2 * s.short);
      short = 2 * s.short - s.long;
      angle = s.angle + angle_entry (n + 1);
    })
    (record { long = s.long; short = 2 * s.short; angle = s.angle })

unfoldable pub angle_after : ℕ → Leaning → Leaning
angle_after zero s = s
angle_after (suc n) s = angle_turn n (angle_after n s)

abbrev pub angle_sum : Legs → ℕ
angle_sum legs = (angle_after 26 (record { long = legs.long; short = legs.short; angle = 0 })).angle

-- the angle between the longer leg and the hypotenuse
abbrev pub slope_angle : Legs → ℕ
slope_angle legs = cond (nat_eq legs.short 0) 0 (angle_sum (grown (shrunk legs)))

-- the same in the octant where x is negative, y is negative, and y has the greater magnitude
abbrev pub octant_angle : Bool → Bool → Bool → ℕ → ℤ
octant_angle false false false angle = pos angle
octant_angle false false true angle = QUARTER -ℤ pos angle
octant_angle true false true angle = QUARTER +ℤ pos angle
octant_angle true false false angle = HALF -ℤ pos angle
octant_angle true true false angle = pos angle -ℤ HALF
octant_angle true true true angle = neg_ℤ (QUARTER +ℤ pos angle)
octant_angle false true true angle = pos angle -ℤ QUARTER
octant_angle false true false angle = neg_ℤ (pos angle)

-- the angle from the first axis to a direction, in units of 2^-20 degree
abbrev pub direction_angle : ℤ → ℤ → Result ℤ TrigFault
direction_angle x y =
    let width = unsigned_abs x in
    let height = unsigned_abs y in
    cond (nat_eq width 0 && nat_eq height 0) (Err OutOfDomain)
    (Ok (octant_angle (int_lt x (pos 0)) (int_lt y (pos 0)) (nat_lt width height) (slope_angle (legs_of width height))))
