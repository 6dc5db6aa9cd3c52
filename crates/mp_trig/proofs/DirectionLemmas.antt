-- One more turn of each recurrence that finds an angle.
use Rattle.std.proofs.Common.{◌≡◌, ℕ, zero, suc, ◌+◌, ◌*◌, ◌/◌, ◌^◌, ◌<◌, ◌≤◌, Bool, true, false, nat_lt, refl, sym, ap, ◌∙◌, add-one, arith}
use Rattle.std.proofs.Math.Nat.{pow-suc, pow-le-pow_right, div-mul-le_self}
use Rattle.std.proofs.lemmas.Nat.{mul-le}
use Rattle.std.proofs.lemmas.Bool.{lt-ltb, le-ltb}
use Rattle.std.proofs.lemmas.Grind.{pow_more}
use Rattle.mp_trig.specs.Directions.{Legs, halved, doubled, shrunk_within, grown_within, Leaning, angle_turn, angle_after}

-- the legs that are kept, or others
kept : Bool → Legs → Legs → Legs
kept done legs others = elim done [ true ↦ legs | false ↦ others ]

shrunk-enough : (m n : ℕ) (legs : Legs) → legs.long ≤ m → legs.long ≤ n → shrunk_within m legs ≡ shrunk_within n legs
unfolding shrunk_within kept
shrunk-enough zero zero legs p q = refl
shrunk-enough zero (suc n) legs p q =
    let e : nat_lt legs.long 536870912 ≡ true = lt-ltb _ _ (omega arith) in
    sym (ap (λ b. kept b legs (shrunk_within n (halved legs))) e)
shrunk-enough (suc m) zero legs p q =
    let e : nat_lt legs.long 536870912 ≡ true = lt-ltb _ _ (omega arith) in
    ap (λ b. kept b legs (shrunk_within m (halved legs))) e
shrunk-enough (suc m) (suc n) legs p q =
    ap (kept (nat_lt legs.long 536870912) legs) (shrunk-enough m n (halved legs) (omega arith) (omega arith))

shrunk-turn : (m : ℕ) (legs : Legs) → 536870912 ≤ legs.long → shrunk_within (suc m) legs ≡ shrunk_within m (halved legs)
unfolding shrunk_within kept
shrunk-turn m legs h =
    let e : nat_lt legs.long 536870912 ≡ false = le-ltb _ _ h in
    ap (λ b. kept b legs (shrunk_within m (halved legs))) e

pub shrunk-more : (long short : ℕ) → 536870912 ≤ long → shrunk_within long (record { long = long; short = short }) ≡ shrunk_within (long / 2) (record { long = long / 2; short = short / 2 })
shrunk-more zero short h = absurd (omega arith)
shrunk-more (suc m) short h =
    let legs : Legs = record { long = suc m; short = short } in
    shrunk-turn m legs h ∙ shrunk-enough m (suc m / 2) (halved legs) (omega arith) (omega arith)

pub shrunk-done : (m : ℕ) (legs : Legs) → legs.long < 536870912 → shrunk_within m legs ≡ legs
unfolding shrunk_within kept
shrunk-done zero legs h = refl
shrunk-done (suc m) legs h =
    let e : nat_lt legs.long 536870912 ≡ true = lt-ltb _ _ h in
    ap (λ b. kept b legs (shrunk_within m (halved legs))) e

pub ruleset shrinking = (shrunk-more, shrunk-done)

-- other legs, or these
went : Bool → Legs → Legs → Legs
went small others legs = elim small [ true ↦ others | false ↦ legs ]

grown-enough : (m n : ℕ) (legs : Legs) → 268435456 ≤ legs.long * 2 ^ m → 268435456 ≤ legs.long * 2 ^ n → grown_within m legs ≡ grown_within n legs
unfolding grown_within went
grown-enough zero zero legs p q = refl
grown-enough zero (suc n) legs p q =
    let e : nat_lt legs.long 268435456 ≡ false = le-ltb _ _ (omega arith) in
    sym (ap (λ b. went b (grown_within n (doubled legs)) legs) e)
grown-enough (suc m) zero legs p q =
    let e : nat_lt legs.long 268435456 ≡ false = le-ltb _ _ (omega arith) in
    ap (λ b. went b (grown_within m (doubled legs)) legs) e
grown-enough (suc m) (suc n) legs p q =
    let p' = rw (pow-suc 2 m) at p in
    let q' = rw (pow-suc 2 n) at q in
    ap (λ others. went (nat_lt legs.long 268435456) others legs) (grown-enough m n (doubled legs) (omega arith) (omega arith))

pub grown-more : (long short : ℕ) → 0 < long → long < 268435456 → grown_within 28 (record { long = long; short = short }) ≡ grown_within 28 (record { long = long * 2; short = short * 2 })
unfolding grown_within went
grown-more long short p q =
    let legs : Legs = record { long = long; short = short } in
    let e : nat_lt long 268435456 ≡ true = lt-ltb _ _ q in
    ap (λ b. went b (grown_within 27 (doubled legs)) legs) e ∙ grown-enough 27 28 (doubled legs) (omega arith) (omega arith)

pub grown-done : (legs : Legs) → 268435456 ≤ legs.long → grown_within 28 legs ≡ legs
unfolding grown_within went
grown-done legs h =
    let e : nat_lt legs.long 268435456 ≡ false = le-ltb _ _ h in
    ap (λ b. went b (grown_within 27 (doubled legs)) legs) e

pub ruleset growing = (grown-more, grown-done)

pub angle_after-next : (n : ℕ) (s : Leaning) → angle_after (n + 1) s ≡ angle_turn n (angle_after n s)
unfolding angle_after
angle_after-next n s = ap (λ m. angle_after m s) (add-one n)

pub angle_after-none : (s : Leaning) → angle_after 0 s ≡ s
unfolding angle_after
angle_after-none s = refl

-- a turn, as the code makes it
pub angle_step : (n : ℕ) (s s' start : Leaning) → s' ≡ angle_turn n s → s ≡ angle_after n start → s' ≡ angle_after (n + 1) start
angle_step n s s' start e f = e ∙ ap (angle_turn n) f ∙ sym (angle_after-next n start)

-- a shift by two digits or more leaves at most half
pub shifted_half : (n short : ℕ) → 2 * (short / 2 ^ (2 * (n + 1))) ≤ short
shifted_half n short =
    let p = 2 ^ (2 * (n + 1)) in
    let two : 2 ^ 1 ≤ p = pow-le-pow_right {n = 2} (omega arith) {i = 1} {j = 2 * (n + 1)} (omega arith) in
    omega (arith, div-mul-le_self short p, mul-le (short / p) 2 (short / p) p (omega arith) two)

pub power_small : (n : ℕ) → n ≤ 26 → 2 ^ n ≤ 67108864
power_small n p = pow-le-pow_right {n = 2} (omega arith) {i = n} {j = 26} p

pub ruleset turning = (power_small, pow_more)
