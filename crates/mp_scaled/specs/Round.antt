-- Rounded products and quotients, over whole numbers without bounds.
-- After Knuth, METAFONT: The Program, part 7 (arithmetic with scaled numbers); the refusal is this project's own.
use Rattle.std.specs.Prelude.{ℕ, ◌+◌, ◌*◌, ◌/◌, ℤ, pos, neg_ℤ, ◌*ℤ◌, unsigned_abs, int_lt, nat_lt, Bool, true, false, cond, not, Result, Ok, Err, nat_eq}
use Rattle.mp_scaled.specs.declared.arith.Arith.{Arith}
use Rattle.mp_scaled.specs.declared.arith.Arith.TheVariants.{Overflow, DivisionByZero}
use Rattle.mp_scaled.specs.declared.units.TheConstants.{SCALED_ONE, FRACTION_ONE, MAGNITUDE_LIMIT}

-- floor (a / b + 1/2)
abbrev pub rounded_quotient : ℕ → ℕ → ℕ
rounded_quotient a b = (2 * a + b) / (2 * b)

-- n, or -n where the flag is set
abbrev pub signed_of : Bool → ℕ → ℤ
signed_of false n = pos n
signed_of true n = neg_ℤ (pos n)

-- one of the two is below zero, and the other is not
abbrev pub signs_differ : ℤ → ℤ → Bool
signs_differ a b = cond (int_lt a (pos 0)) (not (int_lt b (pos 0))) (int_lt b (pos 0))

-- a / b to the nearest whole number, a half away from zero
abbrev pub round : ℤ → ℤ → ℤ
round a b = signed_of (signs_differ a b) (rounded_quotient (unsigned_abs a) (unsigned_abs b))

-- the number, where its magnitude is below the limit
abbrev pub in_range : ℤ → Result ℤ Arith
in_range z = cond (nat_lt (unsigned_abs z) MAGNITUDE_LIMIT) (Ok z) (Err Overflow)

-- p / q in that unit
abbrev pub quotient_of : ℕ → ℤ → ℤ → Result ℤ Arith
quotient_of unit p q = cond (nat_eq (unsigned_abs q) 0) (Err DivisionByZero) (in_range (round (p *ℤ pos unit) q))

-- q f, where f is in that unit
abbrev pub product_of : ℕ → ℤ → ℤ → Result ℤ Arith
product_of unit q f = in_range (round (q *ℤ f) (pos unit))

abbrev pub make_scaled_of : ℤ → ℤ → Result ℤ Arith
make_scaled_of p q = quotient_of SCALED_ONE p q

abbrev pub make_fraction_of : ℤ → ℤ → Result ℤ Arith
make_fraction_of p q = quotient_of FRACTION_ONE p q

abbrev pub take_scaled_of : ℤ → ℤ → Result ℤ Arith
take_scaled_of q f = product_of SCALED_ONE q f

abbrev pub take_fraction_of : ℤ → ℤ → Result ℤ Arith
take_fraction_of q f = product_of FRACTION_ONE q f
