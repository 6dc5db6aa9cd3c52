-- Natural logarithms of scaled numbers, and exponentials, by products with numbers 1 - 2^-k.
-- After Knuth, METAFONT: The Program, part 8 (algebraic and transcendental functions). Every constant is this project's choice.
use Rattle.std.specs.Prelude.{ℕ, zero, suc, ◌+◌, ◌-◌, ◌*◌, ◌/◌, ◌%◌, ◌^◌, ℤ, pos, ◌+ℤ◌, ◌-ℤ◌, int_lt, int_le, int_div, unsigned_abs, nat_lt, true, false, cond, List, [], ◌∷◌, slice_index, Result, Ok, Err}
use Rattle.mp_trig.specs.declared.fault.TrigFault.{TrigFault}
use Rattle.mp_trig.specs.declared.logs.TheConstants.{FOUR, SMALLEST, LARGEST, LARGEST_FINE}
use Rattle.mp_trig.specs.declared.fault.TrigFault.TheVariants.{OutOfDomain, Overflow}

-- the logarithms of 1 / (1 - 2^-k), for k from 1 to 28, in units of 2^-27
abbrev pub logarithms : List ℕ
logarithms =
    93032640 ∷ 38612034 ∷ 17922280 ∷ 8662214 ∷ 4261238 ∷ 2113709 ∷ 1052693 ∷ 525315 ∷ 262400 ∷
    131136 ∷ 65552 ∷ 32772 ∷ 16385 ∷ 8192 ∷ 4096 ∷ 2048 ∷ 1024 ∷ 512 ∷ 256 ∷ 128 ∷ 64 ∷ 32 ∷ 16 ∷
    8 ∷ 4 ∷ 2 ∷ 1 ∷ 1 ∷ []

unfoldable pub log_entry : ℕ → ℕ
log_entry k = slice_index logarithms (k - 1)

-- how often x is doubled until it is 2^30 or more; 30 turns are enough for a number above 0
unfoldable pub doublings_within : ℕ → ℕ → ℕ
doublings_within zero x = 0
doublings_within (suc turns) x =
    elim (nat_lt x FOUR) [ true ↦ suc (doublings_within turns (x * 2)) | false ↦ 0 ]

abbrev pub doublings : ℕ → ℕ
doublings x = doublings_within 30 x

-- the logarithm that a number from 2^30 on begins with, after so many doublings
abbrev pub log_start : ℕ → ℤ
log_start turns = pos 1302456860 -ℤ pos (93032639 * turns) +ℤ pos ((6581195 - 48782 * turns) / 65536)

-- x / 2^k, rounded upward
abbrev pub part : ℕ → ℕ → ℕ
part x k = (x - 1) / 2 ^ k + 1

-- the first k from there on whose part of x leaves 2^30 or more; 28 turns are enough
unfoldable pub fitting_within : ℕ → ℕ → ℕ → ℕ
fitting_within zero x k = k
fitting_within (suc turns) x k =
    elim (nat_lt x (FOUR + part x k)) [ true ↦ fitting_within turns x (k + 1) | false ↦ k ]

abbrev pub fitting : ℕ → ℕ → ℕ
fitting x k = fitting_within 28 x k

-- a number that comes down to 2^30, what it has added to the logarithm, and the power in use
pub record Logarithm : Type 0 where
  pub left : ℕ
  pub sum : ℤ
  pub power : ℕ

abbrev pub log_turn : Logarithm → Logarithm
log_turn s = let k = fitting s.left s.power in
    record { left = s.left - part s.left k; sum = s.sum +ℤ pos (log_entry k); power = k }

-- turns until no more than 4 is left above 2^30; each turn lowers the number
unfoldable pub log_within : ℕ → Logarithm → Logarithm
log_within zero s = s
log_within (suc turns) s = elim (nat_lt (FOUR + 4) s.left) [ true ↦ log_within turns (log_turn s) | false ↦ s ]

-- as many turns as the number is above 2^30 are enough
abbrev pub log_rest : Logarithm → Logarithm
log_rest s = log_within (s.left - FOUR) s

abbrev pub log_sum : ℕ → ℤ → ℤ
log_sum x start = (log_rest (record { left = x; sum = start; power = 2 })).sum

-- 256 times the natural logarithm of a scaled number above 0, as a scaled number
abbrev pub logarithm : ℕ → ℤ
logarithm x = int_div (log_sum (x * 2 ^ doublings x) (log_start (doublings x))) (pos 8)

abbrev pub mlog_of : ℤ → Result ℤ TrigFault
mlog_of x = cond (int_le x (pos 0)) (Err OutOfDomain) (Ok (logarithm (unsigned_abs x)))

-- y less its part y / 2^k, for k = n + 1; quotients are cut toward zero
abbrev pub lessened : ℕ → ℤ → ℤ
lessened n y = y -ℤ pos 1 -ℤ int_div (y -ℤ pos (2 ^ n)) (pos (2 ^ (n + 1)))

unfoldable pub lessened_times : ℕ → ℕ → ℤ → ℤ
lessened_times zero n y = y
lessened_times (suc times) n y = lessened_times times n (lessened n y)

-- a logarithm that is left, and what it has taken from the exponential
pub record Exponential : Type 0 where
  pub left : ℕ
  pub value : ℤ

-- the logarithm's entry is taken as often as it goes
abbrev pub exp_turn : ℕ → Exponential → Exponential
exp_turn n s = record {
  left = s.left % log_entry (n + 1);
  value = lessened_times (s.left / log_entry (n + 1)) n s.value;
}

-- after so many entries of the table
unfoldable pub exp_after : ℕ → Exponential → Exponential
exp_after zero s = s
exp_after (suc n) s = exp_turn n (exp_after n s)

-- how far x is below 0, below the logarithm of 2^11 or below that of 2^15, in units of 2^-27, and that power
abbrev pub exp_start : ℤ → Exponential
exp_start x =
    cond (int_le x (pos 0)) (record { left = 8 * unsigned_abs x; value = pos 1048576 })
    (cond (int_le x LARGEST_FINE) (record { left = 1023359037 - 8 * unsigned_abs x; value = pos 2147483647 })
    (record { left = 8 * (unsigned_abs LARGEST - unsigned_abs x); value = pos 2147483647 }))

-- what is left after all 28 entries, as a scaled number
abbrev pub exponential : ℤ → ℤ
exponential x = let value = (exp_after 28 (exp_start x)).value in
    cond (int_le x LARGEST_FINE) (int_div (value +ℤ pos 8) (pos 16)) value

-- the exponential of a 256th of a scaled number, as a scaled number
abbrev pub mexp_of : ℤ → Result ℤ TrigFault
mexp_of x =
    cond (int_lt LARGEST x) (Err Overflow)
    (cond (int_lt x SMALLEST) (Ok (pos 0)) (Ok (exponential x)))
