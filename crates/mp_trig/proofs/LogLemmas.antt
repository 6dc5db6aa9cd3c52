-- The table of logarithms, and one more turn of each recurrence.
use Rattle.std.proofs.Common.{◌≡◌, ℕ, zero, suc, ◌+◌, ◌-◌, ◌*◌, ◌/◌, ◌^◌, ◌<◌, ◌≤◌, Bool, true, false, ◌&&◌, nat_lt, nat_le, inl, inr, ℤ, pos, ◌+ℤ◌, refl, sym, ap, ◌∙◌, arith}
use Rattle.std.proofs.Math.Nat.{pow-suc, div-mul-le_self}
use Rattle.std.proofs.lemmas.Nat.{le-div, pow_pos}
use Rattle.std.proofs.lemmas.Bool.{cases_eq, cases_lt, ltb-true, leb-true, lt-ltb, le-ltb, and_parts}
use Rattle.std.proofs.lemmas.Bool.Decides.{nat_tests}
use Rattle.mp_trig.specs.Logs.{log_entry, doublings_within, part, fitting_within, Logarithm, log_turn, log_within, log_rest}
use Rattle.mp_trig.proofs.Tables.{below, by_test}

abbrev entry_test : ℕ → Bool
entry_test n = nat_lt 0 (log_entry (n + 1)) && nat_le (4 * log_entry (n + 1)) (1073741824 / 2 ^ (n + 1))

entries_pass : below entry_test 28 ≡ true
unfolding log_entry
entries_pass = refl

entry_bounds_next : (n : ℕ) → n < 28 → (0 < log_entry (n + 1)) × (4 * log_entry (n + 1) ≤ 1073741824 / 2 ^ (n + 1))
entry_bounds_next n p =
    let t = and_parts (nat_lt 0 (log_entry (n + 1))) (nat_le (4 * log_entry (n + 1)) (1073741824 / 2 ^ (n + 1))) (by_test entry_test 28 entries_pass n p) in
    (ltb-true _ _ t.0, leb-true _ _ t.1)

-- each entry is above 0, and within a quarter of that part of 2^30
pub log_entry_bounds : (k : ℕ) → 1 ≤ k → k ≤ 28 → (0 < log_entry k) × (4 * log_entry k ≤ 1073741824 / 2 ^ k)
log_entry_bounds k p q =
    let e : k - 1 + 1 ≡ k = omega arith in
    rw e at (entry_bounds_next (k - 1) (omega arith))

-- one doubling more, or none
counted : Bool → ℕ → ℕ
counted small others = elim small [ true ↦ suc others | false ↦ 0 ]

doublings-enough : (m n x : ℕ) → 1073741824 ≤ x * 2 ^ m → 1073741824 ≤ x * 2 ^ n → doublings_within m x ≡ doublings_within n x
unfolding doublings_within counted
doublings-enough zero zero x p q = refl
doublings-enough zero (suc n) x p q =
    let e : nat_lt x 1073741824 ≡ false = grind (arith, nat_tests) in
    sym (ap (λ b. counted b (doublings_within n (x * 2))) e)
doublings-enough (suc m) zero x p q =
    let e : nat_lt x 1073741824 ≡ false = grind (arith, nat_tests) in
    ap (λ b. counted b (doublings_within m (x * 2))) e
doublings-enough (suc m) (suc n) x p q =
    let p' = rw (pow-suc 2 m) at p in
    let q' = rw (pow-suc 2 n) at q in
    ap (counted (nat_lt x 1073741824)) (doublings-enough m n (x * 2) (omega arith) (omega arith))

pub doublings-more : (x : ℕ) → 0 < x → x < 1073741824 → doublings_within 30 x ≡ suc (doublings_within 30 (x * 2))
unfolding doublings_within counted
doublings-more x p q =
    let e : nat_lt x 1073741824 ≡ true = grind (arith, nat_tests) in
    ap (λ b. counted b (doublings_within 29 (x * 2))) e ∙ ap suc (doublings-enough 29 30 (x * 2) (omega arith) (omega arith))

pub doublings-done : (x : ℕ) → 1073741824 ≤ x → doublings_within 30 x ≡ 0
unfolding doublings_within counted
doublings-done x p =
    let e : nat_lt x 1073741824 ≡ false = grind (arith, nat_tests) in
    ap (λ b. counted b (doublings_within 29 (x * 2))) e

counted_few : (small : Bool) (others n : ℕ) → others ≤ n → counted small others ≤ suc n
unfolding counted
counted_few true others n p = omega arith
counted_few false others n p = omega arith

pub doublings_few : (n x : ℕ) → doublings_within n x ≤ n
unfolding doublings_within counted
doublings_few zero x = omega arith
doublings_few (suc n) x = counted_few (nat_lt x 1073741824) (doublings_within n (x * 2)) n (doublings_few n (x * 2))

pub doublings_at_most_30 : (x : ℕ) → doublings_within 30 x ≤ 30
doublings_at_most_30 x = doublings_few 30 x

pub ruleset doubling = (doublings-more, doublings-done, doublings_at_most_30)

part-28 : (x : ℕ) → 1073741828 < x → x < 2 ^ 31 → 1073741824 + part x 28 ≤ x
part-28 x p q = omega arith

-- the last power always fits
pub not_last : (x k : ℕ) → 1073741828 < x → x < 2 ^ 31 → k ≤ 28 → x < 1073741824 + part x k → k < 28
not_last x k p q r s =
    elim (cases_eq k 28) [
      | inl e ↦ (let t = rw e at s in absurd (omega (arith, part-28 x p q)))
      | inr h ↦ omega (arith, h)
    ]

-- the next power, or this one
chosen : Bool → ℕ → ℕ → ℕ
chosen large k others = elim large [ true ↦ others | false ↦ k ]

fitting-enough : (m n x k : ℕ) → 1073741828 < x → x < 2 ^ 31 → k ≤ 28 → 28 ≤ m + k → 28 ≤ n + k → fitting_within m x k ≡ fitting_within n x k
unfolding fitting_within chosen
fitting-enough zero zero x k p q r s t = refl
fitting-enough zero (suc n) x k p q r s t =
    elim (cases_lt x (1073741824 + part x k)) [
      | inl h ↦ absurd (omega (arith, not_last x k p q r h))
      | inr h ↦ (let e : nat_lt x (1073741824 + part x k) ≡ false = le-ltb _ _ h in
          sym (ap (λ b. chosen b k (fitting_within n x (k + 1))) e))
    ]
fitting-enough (suc m) zero x k p q r s t =
    elim (cases_lt x (1073741824 + part x k)) [
      | inl h ↦ absurd (omega (arith, not_last x k p q r h))
      | inr h ↦ (let e : nat_lt x (1073741824 + part x k) ≡ false = le-ltb _ _ h in
          ap (λ b. chosen b k (fitting_within m x (k + 1))) e)
    ]
fitting-enough (suc m) (suc n) x k p q r s t =
    elim (cases_lt x (1073741824 + part x k)) [
      | inl h ↦ (let last = not_last x k p q r h in
          ap (chosen (nat_lt x (1073741824 + part x k)) k) (fitting-enough m n x (k + 1) p q (omega arith) (omega arith) (omega arith)))
      | inr h ↦ (let e : nat_lt x (1073741824 + part x k) ≡ false = le-ltb _ _ h in
          ap (λ b. chosen b k (fitting_within m x (k + 1))) e ∙ sym (ap (λ b. chosen b k (fitting_within n x (k + 1))) e))
    ]

pub fitting-more : (x k : ℕ) → 1073741828 < x → x < 2 ^ 31 → 1 ≤ k → k ≤ 28 → x < 1073741824 + part x k → fitting_within 28 x k ≡ fitting_within 28 x (k + 1)
unfolding fitting_within chosen
fitting-more x k p q o r h =
    let last = not_last x k p q r h in
    let e : nat_lt x (1073741824 + part x k) ≡ true = lt-ltb _ _ h in
    ap (λ b. chosen b k (fitting_within 27 x (k + 1))) e ∙ fitting-enough 27 28 x (k + 1) p q (omega arith) (omega arith) (omega arith)

pub fitting-done : (x k : ℕ) → 1073741824 + part x k ≤ x → fitting_within 28 x k ≡ k
unfolding fitting_within chosen
fitting-done x k h =
    let e : nat_lt x (1073741824 + part x k) ≡ false = le-ltb _ _ h in
    ap (λ b. chosen b k (fitting_within 27 x (k + 1))) e

pub ruleset fits = (fitting-more, fitting-done, not_last)

-- a turn more, or none
went : Bool → Logarithm → Logarithm → Logarithm
went above s others = elim above [ true ↦ others | false ↦ s ]

log-enough : (m n : ℕ) (s : Logarithm) → s.left - 1073741824 ≤ m → s.left - 1073741824 ≤ n → log_within m s ≡ log_within n s
unfolding log_within went
log-enough zero zero s p q = refl
log-enough zero (suc n) s p q =
    let e : nat_lt 1073741828 s.left ≡ false = le-ltb _ _ (omega arith) in
    sym (ap (λ b. went b s (log_within n (log_turn s))) e)
log-enough (suc m) zero s p q =
    let e : nat_lt 1073741828 s.left ≡ false = le-ltb _ _ (omega arith) in
    ap (λ b. went b s (log_within m (log_turn s))) e
log-enough (suc m) (suc n) s p q =
    ap (went (nat_lt 1073741828 s.left) s) (log-enough m n (log_turn s) (omega arith) (omega arith))

log-more-at : (n : ℕ) (s : Logarithm) → s.left - 1073741824 ≡ suc n → 1073741828 < s.left → log_rest s ≡ log_rest (log_turn s)
unfolding log_within went
log-more-at n s e h =
    let test : nat_lt 1073741828 s.left ≡ true = lt-ltb _ _ h in
    ap (λ m. log_within m s) e ∙ ap (λ b. went b s (log_within n (log_turn s))) test ∙ log-enough n ((log_turn s).left - 1073741824) (log_turn s) (omega arith) (omega arith)

log-done-at : (n : ℕ) (s : Logarithm) → s.left ≤ 1073741828 → log_within n s ≡ s
unfolding log_within went
log-done-at zero s h = refl
log-done-at (suc n) s h =
    let e : nat_lt 1073741828 s.left ≡ false = le-ltb _ _ h in
    ap (λ b. went b s (log_within n (log_turn s))) e

pub log-more : (s : Logarithm) → 1073741828 < s.left → log_rest s ≡ log_rest (log_turn s)
log-more s h = log-more-at (s.left - 1073741825) s (omega arith) h

pub log-done : (s : Logarithm) → s.left ≤ 1073741828 → log_rest s ≡ s
log-done s h = log-done-at (s.left - 1073741824) s h

-- a turn, as the code makes it
pub log_step : (left power k p e : ℕ) (sum sum' : ℤ) → 1073741828 < left → k ≡ fitting_within 28 left power → p ≡ part left k → e ≡ log_entry k → sum' ≡ sum +ℤ pos e → log_rest (record { left = left - p; sum = sum'; power = k }) ≡ log_rest (record { left = left; sum = sum; power = power })
log_step left power k p e sum sum' h ek ep ee es =
    rw (es, ep, ee, ek) (sym (log-more (record { left = left; sum = sum; power = power }) h))

pub part_from : (x k : ℕ) → 1073741824 < x → 1073741824 / 2 ^ k ≤ part x k
part_from x k p =
    omega (arith, le-div (1073741824 / 2 ^ k) (x - 1) (2 ^ k) (pow_pos k) (omega (arith, div-mul-le_self 1073741824 (2 ^ k))))
