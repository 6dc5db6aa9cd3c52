-- One more turn of the exponential.
use Rattle.std.proofs.Common.{◌≡◌, ℕ, suc, ◌+◌, ◌-◌, ◌*◌, ◌/◌, ◌%◌, ◌^◌, ◌<◌, ◌≤◌, ℤ, pos, negsuc, ◌+ℤ◌, ◌-ℤ◌, ◌<ℤ◌, ◌≤ℤ◌, int_div, ◌⊎◌, inl, inr, refl, sym, ap, ◌∙◌, add-one, arith}
use Rattle.std.proofs.Math.Nat.{div-eq_of_lt-le, div-le_self}
use Rattle.std.proofs.lemmas.Int.{ints}
use Rattle.mp_trig.specs.Logs.{Exponential, log_entry, lessened, lessened_times, exp_turn, exp_after}

div-less : (left entry : ℕ) → 0 < entry → entry ≤ left → left / entry ≡ suc ((left - entry) / entry)
div-less left entry p q = div-eq_of_lt-le {k = suc ((left - entry) / entry)} entry {m = left} (omega arith) (omega arith)

pub times-more : (left entry n : ℕ) (value : ℤ) → 0 < entry → entry ≤ left → lessened_times (left / entry) n value ≡ lessened_times ((left - entry) / entry) n (lessened n value)
unfolding lessened_times
times-more left entry n value p q = ap (λ times. lessened_times times n value) (div-less left entry p q)

pub rest-more : (left entry : ℕ) → 0 < entry → entry ≤ left → left % entry ≡ (left - entry) % entry
rest-more left entry p q = omega (arith, ap (λ times. entry * times) (div-less left entry p q))

pub times-none : (left entry n : ℕ) (value : ℤ) → left < entry → lessened_times (left / entry) n value ≡ value
unfolding lessened_times
times-none left entry n value p =
    let e : left / entry ≡ 0 = div-eq_of_lt-le {k = 0} entry {m = left} (omega arith) (omega arith) in
    ap (λ times. lessened_times times n value) e

pub rest-none : (left entry : ℕ) → left < entry → left % entry ≡ left
rest-none left entry p =
    let e : left / entry ≡ 0 = div-eq_of_lt-le {k = 0} entry {m = left} (omega arith) (omega arith) in
    omega (arith, ap (λ times. entry * times) e)

pub ruleset turning = (times-more, rest-more, times-none, rest-none)

pub exp_after-next : (n : ℕ) (s : Exponential) → exp_after (n + 1) s ≡ exp_turn n (exp_after n s)
unfolding exp_after
exp_after-next n s = ap (λ m. exp_after m s) (add-one n)

pub exp_after-none : (s : Exponential) → exp_after 0 s ≡ s
unfolding exp_after
exp_after-none s = refl

-- what is left of a number h above d, less 1 and the quotient of d: not below 0 where that quotient is above 0
abbrev pub Lessening : ℤ → ℕ → ℕ → Type 0
Lessening d h p =
    let left = d +ℤ pos h -ℤ pos 1 -ℤ int_div d (pos p) in
    ((pos 0 ≤ℤ left) ⊎ (int_div d (pos p) ≤ℤ pos 0)) × (left <ℤ pos (2 ^ 31))

pub lessening : (d : ℤ) (h p : ℕ) → 0 < h → h < 2 ^ 31 → (d +ℤ pos h) <ℤ pos (2 ^ 31) → Lessening d h p
lessening (pos m) h p a b e = (inl (omega (arith, ints, div-le_self m p)), omega (arith, ints, div-le_self m p))
lessening (negsuc m) h p a b e = (inr (omega (arith, ints)), omega (arith, ints, div-le_self (suc m) p))

-- a turn, as the code makes it
pub exp_step : (n left left' : ℕ) (value value' : ℤ) (s : Exponential) → left' ≡ left % log_entry (n + 1) → value' ≡ lessened_times (left / log_entry (n + 1)) n value → record { left = left; value = value } ≡ exp_after n s → record { left = left'; value = value' } ≡ exp_after (n + 1) s
exp_step n left left' value value' s el ev e = rw (el, ev) (ap (exp_turn n) e ∙ sym (exp_after-next n s))
