-- One more turn of each recurrence.
use Rattle.std.proofs.Common.{◌≡◌, ℕ, zero, suc, ◌+◌, ◌*◌, ◌/◌, ◌%◌, ◌<◌, ◌≤◌, List, true, false, nat_lt, slice_set, refl, Bool, ap, ◌∙◌, All, add-one, arith}
use Rattle.std.proofs.lemmas.Bool.Decides.{nat_tests}
use Rattle.std.proofs.lemmas.List.Elements.{All-replicate}
use Rattle.mp_random.specs.Words.{replaced, low_run, high_run, halved_within, halved, difference, neighbours, unsown, sown}

pub low_run-next : (n : ℕ) (words : List ℕ) → low_run (n + 1) words ≡ replaced n (n + 31) (low_run n words)
unfolding low_run
low_run-next n words = rw add-one refl

pub high_run-next : (n : ℕ) (words : List ℕ) → high_run (n + 1) words ≡ replaced (n + 24) n (high_run n words)
unfolding high_run
high_run-next n words = rw add-one refl

pub low_run-none : (words : List ℕ) → low_run 0 words ≡ words
unfolding low_run
low_run-none words = refl

pub high_run-none : (words : List ℕ) → high_run 0 words ≡ words
unfolding high_run
high_run-none words = refl

pub ruleset runs = (low_run-next, high_run-next, low_run-none, high_run-none)

pub older-next : (n first : ℕ) → (neighbours (n + 1) first).older ≡ (neighbours n first).newer
unfolding neighbours
older-next n first = rw add-one refl

pub newer-next : (n first : ℕ) → (neighbours (n + 1) first).newer ≡ difference (neighbours n first).older (neighbours n first).newer
unfolding neighbours
newer-next n first = rw add-one refl

pub older-none : (first : ℕ) → (neighbours 0 first).older ≡ first
unfolding neighbours
older-none first = refl

pub newer-none : (first : ℕ) → (neighbours 0 first).newer ≡ 1
unfolding neighbours
newer-none first = refl

pub sown-next : (n first : ℕ) → sown (n + 1) first ≡ slice_set (sown n first) (21 * n % 55) (neighbours n first).newer
unfolding sown
sown-next n first = rw add-one refl

pub sown-none : (first : ℕ) → sown 0 first ≡ unsown
unfolding sown
sown-none first = refl

pub ruleset sowing = (older-next, newer-next, older-none, newer-none, sown-next, sown-none)

-- a value that is small enough, and what becomes of another
turned : Bool → ℕ → ℕ → ℕ
turned small value other = elim small [ true ↦ value | false ↦ other ]

-- two numbers of turns that are both enough
within-enough : (m n value : ℕ) → value ≤ m → value ≤ n → halved_within m value ≡ halved_within n value
unfolding halved_within turned
within-enough zero zero value p q = refl
within-enough zero (suc n) value p q = let e : value ≡ 0 = omega arith in rw e refl
within-enough (suc m) zero value p q = let e : value ≡ 0 = omega arith in rw e refl
within-enough (suc m) (suc n) value p q =
    ap (turned (nat_lt value 268435456) value) (within-enough m n (value / 2) (omega arith) (omega arith))

-- one halving more
pub halved-half : (value : ℕ) → 268435456 ≤ value → halved value ≡ halved (value / 2)
unfolding halved_within turned
halved-half zero h = absurd (omega arith)
halved-half (suc m) h =
    let e : nat_lt (suc m) 268435456 ≡ false = grind (arith, nat_tests) in
    ap (λ b. turned b (suc m) (halved_within m (suc m / 2))) e ∙ within-enough m (suc m / 2) (suc m / 2) (omega arith) (omega arith)

pub halved-below : (value : ℕ) → value < 268435456 → halved value ≡ value
unfolding halved_within turned
halved-below zero h = refl
halved-below (suc m) h =
    let e : nat_lt (suc m) 268435456 ≡ true = grind (arith, nat_tests) in
    ap (λ b. turned b (suc m) (halved_within m (suc m / 2))) e

pub ruleset halving = (halved-half, halved-below)

pub unsown_small : All (λ w. w < 268435456) unsown
unfolding unsown
unsown_small = All-replicate (λ w. w < 268435456) 55 0 (omega arith)
