-- How a scaled number is printed: with digits that read back to the same number.
-- After Knuth, METAFONT: The Program, part 7 (print_scaled).
use Rattle.std.specs.Prelude.{ℕ, zero, suc, ◌+◌, ◌-◌, ◌*◌, ◌/◌, ◌%◌, ℤ, pos, unsigned_abs, int_lt, List, [], ◌∷◌, ◌++◌, nat_lt, nat_le, nat_eq, cond, decimal}
use Rattle.mp_scaled.specs.declared.decimal.TheConstants.{POINT, MINUS, DIGIT_ZERO}
use Rattle.mp_scaled.specs.declared.units.TheConstants.{SCALED_ONE}

-- what the next digit is taken from; the fifth digit is rounded, for it is the last
abbrev pub rounded_last : ℕ → ℕ → ℕ
rounded_last s delta = cond (nat_lt SCALED_ONE delta) (s + SCALED_ONE / 2 - delta / 2) s

-- at most that many digits of s, until what is left is within delta
unfoldable pub digits_within : ℕ → ℕ → ℕ → List ℕ
digits_within zero s delta = []
digits_within (suc n) s delta =
    let digit = rounded_last s delta / SCALED_ONE in
    let rest = 10 * (rounded_last s delta % SCALED_ONE) in
    (DIGIT_ZERO + digit) ∷ cond (nat_le rest (10 * delta)) [] (digits_within n rest (10 * delta))

-- a point and the digits of a number of units below 2^16; nothing for 0. No number needs a sixth digit
abbrev pub printed_fraction : ℕ → List ℕ
printed_fraction units = cond (nat_eq units 0) [] (POINT ∷ digits_within 5 (10 * units + 5) 10)

abbrev pub printed_magnitude : ℕ → List ℕ
printed_magnitude units = decimal (units / SCALED_ONE) ++ printed_fraction (units % SCALED_ONE)

-- a number of units of 2^-16
abbrev pub printed : ℤ → List ℕ
printed value = cond (int_lt value (pos 0)) (MINUS ∷ printed_magnitude (unsigned_abs value)) (printed_magnitude (unsigned_abs value))
