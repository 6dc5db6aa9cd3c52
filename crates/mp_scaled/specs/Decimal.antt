-- How decimal digits are read, over whole numbers without bounds.
-- After Knuth, METAFONT: The Program, part 7 (round_decimals).
use Rattle.std.specs.Prelude.{ℕ, ◌+◌, ◌-◌, ◌*◌, ◌/◌, ℤ, pos, List, [], ◌∷◌, fold, take, Bool, nat_lt, nat_eq, cond, Result, Ok, Err}
use Rattle.std.specs.List.{before_first, after_first}
use Rattle.mp_scaled.specs.declared.decimal.TooLarge.{TooLarge}
use Rattle.mp_scaled.specs.declared.decimal.TheConstants.{POINT, DIGIT_ZERO, FRACTION_DIGITS}
use Rattle.mp_scaled.specs.declared.units.TheConstants.{SCALED_ONE, MAGNITUDE_LIMIT}

abbrev pub is_point : ℕ → Bool
is_point c = nat_eq c POINT

-- what stands before the point, and what stands after it
abbrev pub whole_digits : List ℕ → List ℕ
whole_digits text = before_first is_point text

abbrev pub fraction_digits : List ℕ → List ℕ
fraction_digits text = after_first is_point text

-- the number with one more digit
abbrev pub with_digit : ℕ → ℕ → ℕ
with_digit n c = n * 10 + (c - DIGIT_ZERO)

-- the whole number that digits write
abbrev pub whole_of : List ℕ → ℕ
whole_of digits = fold with_digit 0 digits

-- one more digit before digits that are worth a
abbrev pub worth_with : ℕ → ℕ → ℕ
worth_with a c = (a + 2 * SCALED_ONE * (c - DIGIT_ZERO)) / 10

-- what digits after a point are worth in units of 2^-17, from the last to the first
abbrev pub worth_of : List ℕ → ℕ
worth_of [] = 0
worth_of (c ∷ cs) = worth_with (worth_of cs) c

-- the same in units of 2^-16; digits behind the first 17 are ignored
abbrev pub fraction_of : List ℕ → ℕ
fraction_of digits = (worth_of (take FRACTION_DIGITS digits) + 1) / 2

-- the units of 2^-16 that a decimal writes
abbrev pub units_of : List ℕ → ℕ
units_of text = whole_of (whole_digits text) * SCALED_ONE + fraction_of (fraction_digits text)

-- what read_decimal answers
abbrev pub decimal_of : List ℕ → Result ℤ TooLarge
decimal_of text = cond (nat_lt (units_of text) MAGNITUDE_LIMIT) (Ok (pos (units_of text))) (Err (record {}))
