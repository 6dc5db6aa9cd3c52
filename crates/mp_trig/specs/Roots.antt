-- Square roots and Pythagorean sums: the whole number that is nearest to the root.
use Rattle.std.specs.Prelude.{ℕ, zero, suc, ◌+◌, ◌-◌, ◌*◌, ◌/◌, ◌<◌, ◌≤◌, ℤ, pos, int_lt, unsigned_abs, nat_eq, nat_lt, nat_le, true, false, cond, Result, Ok, Err}
use Rattle.mp_scaled.specs.declared.units.TheConstants.{SCALED_ONE, MAGNITUDE_LIMIT}
use Rattle.mp_trig.specs.declared.fault.TrigFault.{TrigFault}
use Rattle.mp_trig.specs.declared.fault.TrigFault.TheVariants.{OutOfDomain, Overflow}

-- no whole number is nearer to the root of n than r is
pub record IsNearestRoot (n r : ℕ) : Type 0 where
  pub not_above : (2 * r - 1) * (2 * r - 1) ≤ 4 * n
  pub not_below : 4 * n < (2 * r + 1) * (2 * r + 1)

-- r or the number behind it, where that one's square is not above n
abbrev pub refined : ℕ → ℕ → ℕ
refined n r = cond (nat_le ((r + 1) * (r + 1)) n) (r + 1) r

-- the greatest number whose square is not above n, from that of a quarter of n
unfoldable pub whole_root_within : ℕ → ℕ → ℕ
whole_root_within zero n = 0
whole_root_within (suc turns) n =
    elim (nat_eq n 0) [ true ↦ 0 | false ↦ refined n (2 * whole_root_within turns (n / 4)) ]

-- the number nearest to the root of n: the only one that IsNearestRoot holds of
unfoldable pub nearest_root : ℕ → ℕ
nearest_root n = (whole_root_within (4 * n) (4 * n) + 1) / 2

-- the square of a magnitude
abbrev pub square : ℤ → ℕ
square a = unsigned_abs a * unsigned_abs a

-- a root, where it is below the limit
abbrev pub root_in_range : ℕ → Result ℤ TrigFault
root_in_range root = cond (nat_lt root MAGNITUDE_LIMIT) (Ok (pos root)) (Err Overflow)

-- the root of a scaled number
abbrev pub square_root_of : ℤ → Result ℤ TrigFault
square_root_of x = cond (int_lt x (pos 0)) (Err OutOfDomain) (Ok (pos (nearest_root (SCALED_ONE * unsigned_abs x))))

-- the root of a^2 + b^2
abbrev pub pyth_add_of : ℤ → ℤ → Result ℤ TrigFault
pyth_add_of a b = root_in_range (nearest_root (square a + square b))

-- the root of a^2 - b^2
abbrev pub pyth_sub_of : ℤ → ℤ → Result ℤ TrigFault
pyth_sub_of a b =
    cond (nat_lt (unsigned_abs a) (unsigned_abs b)) (Err OutOfDomain)
    (root_in_range (nearest_root (square a - square b)))
