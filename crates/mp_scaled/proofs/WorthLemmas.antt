-- What the printed digits of a fraction are worth when they are read again.
use Rattle.std.proofs.Common.{◌≡◌, ℕ, zero, suc, ◌+◌, ◌-◌, ◌*◌, ◌/◌, ◌%◌, ◌<◌, ◌≤◌, Bool, List, [], cond, length, leb, true, false, arith, ⊎_elim}
use Rattle.std.proofs.lemmas.Bool.{cases_lt, le-ltb}
use Rattle.std.proofs.lemmas.List.{take_all}
use Rattle.mp_scaled.proofs.DigitLemmas.{digits_last, digits_more}
use Rattle.mp_scaled.specs.Print.{rounded_last, digits_within}
use Rattle.mp_scaled.specs.Decimal.{worth_with, worth_of, fraction_of}

-- units of 2^-17 that lie less than delta below s, where s is in units of a tenth of 2^-16
abbrev pub IsWithin : ℕ → ℕ → ℕ → Type 0
IsWithin s delta worth = (5 * worth < s) × (s < 5 * worth + 5 + delta)

-- a digit before others, and a last digit
within_more : (s delta worth : ℕ) → IsWithin (10 * (s % 65536)) (10 * delta) worth → IsWithin s delta (worth_with worth (48 + s / 65536))
within_more s delta worth h = (omega arith, omega arith)

within_last : (s delta : ℕ) → 0 < s % 65536 → 10 * (s % 65536) ≤ 10 * delta → IsWithin s delta (worth_with 0 (48 + s / 65536))
within_last s delta left last = within_more s delta 0 (omega arith, omega arith)

not_rounded : (s delta : ℕ) → delta ≤ 65536 → rounded_last s delta ≡ s
not_rounded s delta small = rw (le-ltb 65536 delta small)

-- the digits from one on that is not rounded
within_digits : (n s delta : ℕ) → delta ≤ 65536 → 0 < s % 65536 →
    (10 * delta < 10 * (s % 65536) → IsWithin (10 * (s % 65536)) (10 * delta) (worth_of (digits_within n (10 * (s % 65536)) (10 * delta)))) →
    IsWithin s delta (worth_of (digits_within (suc n) s delta))
within_digits n s delta small left others =
    let same = not_rounded s delta small in
    let fewer : suc n - 1 ≡ n = omega arith in
    ⊎_elim
    (λ (more : 10 * delta < 10 * (s % 65536)).
    let more' : 10 * delta < 10 * (rounded_last s delta % 65536) = rw same more in
    rw (digits_more (suc n) s delta (omega arith) more', same, fewer) (within_more s delta _ (others more)))
    (λ (last : 10 * (s % 65536) ≤ 10 * delta).
    let last' : 10 * (rounded_last s delta % 65536) ≤ 10 * delta = rw same last in
    rw (digits_last (suc n) s delta (omega arith) last', same) (within_last s delta left last))
    (cases_lt (10 * delta) (10 * (s % 65536)))

-- the fifth digit: it is rounded, and no other follows it
within_rounded : (n s : ℕ) → 100000 < s → s < 655360 → IsWithin s 100000 (worth_of (digits_within (suc n) s 100000))
within_rounded n s left small = rw (digits_last (suc n) s 100000 (omega arith) (omega arith)) (omega arith, omega arith)

within_fourth : (n s : ℕ) → s % 16 ≡ 8 → IsWithin s 10000 (worth_of (digits_within (suc (suc n)) s 10000))
within_fourth n s e = within_digits (suc n) s 10000 (omega arith) (omega arith) (λ more. within_rounded n _ more (omega arith))

within_third : (n s : ℕ) → s % 8 ≡ 4 → IsWithin s 1000 (worth_of (digits_within (suc (suc (suc n))) s 1000))
within_third n s e = within_digits (suc (suc n)) s 1000 (omega arith) (omega arith) (λ more. within_fourth n _ (omega arith))

within_second : (n s : ℕ) → s % 4 ≡ 2 → IsWithin s 100 (worth_of (digits_within (suc (suc (suc (suc n)))) s 100))
within_second n s e = within_digits (suc (suc (suc n))) s 100 (omega arith) (omega arith) (λ more. within_third n _ (omega arith))

within_all : (s : ℕ) → s % 2 ≡ 1 → IsWithin s 10 (worth_of (digits_within 5 s 10))
within_all s e = within_digits 4 s 10 (omega arith) (omega arith) (λ more. within_second 0 _ (omega arith))

length-cond-le : (b : Bool) (xs : List ℕ) → length (cond b [] xs) ≤ length xs
length-cond-le true xs = omega arith
length-cond-le false xs = omega arith

length-digits_within-le : (n s delta : ℕ) → length (digits_within n s delta) ≤ n
unfolding digits_within
length-digits_within-le zero s delta = omega arith
length-digits_within-le (suc n) s delta =
    let rest = 10 * (rounded_last s delta % 65536) in
    omega (arith, length-cond-le (leb rest (10 * delta)) (digits_within n rest (10 * delta)), length-digits_within-le n rest (10 * delta))

-- the printed digits of a fraction, read again
pub fraction_of-digits : (units : ℕ) → fraction_of (digits_within 5 (10 * units + 5) 10) ≡ units
fraction_of-digits units =
    let digits = digits_within 5 (10 * units + 5) 10 in
    let all = within_all (10 * units + 5) (omega arith) in
    let counted : length digits ≤ 17 = omega (arith, length-digits_within-le 5 (10 * units + 5) 10) in
    rw (take_all 17 digits counted) (omega arith)
