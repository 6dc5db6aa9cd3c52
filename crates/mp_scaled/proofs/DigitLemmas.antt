-- The digits of a fraction, from the first to the last, and as they are put into an array.
use Rattle.std.proofs.Common.{◌≡◌, ℕ, zero, suc, ◌+◌, ◌-◌, ◌*◌, ◌/◌, ◌%◌, ◌<◌, ◌≤◌, List, [], ◌∷◌, ◌++◌, length, take, drop, set, ◌∙◌, arith}
use Rattle.std.proofs.lemmas.Bool.{le-leb, lt-leb}
use Rattle.std.proofs.lemmas.List.{take_more_set, append_assoc, append-nil, drop-drop, drop-set-lt}
use Rattle.mp_scaled.specs.Print.{rounded_last, digits_within}

-- the last digit: what is left is within delta
pub digits_last : (n s delta : ℕ) → 0 < n → 10 * (rounded_last s delta % 65536) ≤ 10 * delta →
    digits_within n s delta ≡ (48 + rounded_last s delta / 65536) ∷ []
unfolding digits_within
digits_last zero s delta some last = absurd (omega arith)
digits_last (suc n) s delta some last = rw (le-leb _ _ last)

-- a digit before others
pub digits_more : (n s delta : ℕ) → 0 < n → 10 * delta < 10 * (rounded_last s delta % 65536) →
    digits_within n s delta ≡ (48 + rounded_last s delta / 65536) ∷ digits_within (n - 1) (10 * (rounded_last s delta % 65536)) (10 * delta)
unfolding digits_within
digits_more zero s delta some more = absurd (omega arith)
digits_more (suc n) s delta some more = let fewer : suc n - 1 ≡ n = omega arith in rw (lt-leb _ _ more, fewer)

-- the last digit, put at its place
pub last_put : (to text : List ℕ) (place n s delta r : ℕ) → take place to ++ digits_within n s delta ≡ text → place < length to → 0 < n →
    r ≡ rounded_last s delta → 10 * (r % 65536) ≤ delta * 10 → take (place + 1) (set to place (48 + r / 65536)) ≡ text
last_put to text place n s delta r before room some e last =
    let last' : 10 * (rounded_last s delta % 65536) ≤ 10 * delta = rw (← e) (omega arith) in
    rw (take_more_set to place (48 + r / 65536) room, e, ← digits_last n s delta some last') before

-- a digit before others, put at its place
pub more_put : (to text : List ℕ) (place n m s delta r : ℕ) → take place to ++ digits_within n s delta ≡ text → place < length to → n ≡ m + 1 →
    r ≡ rounded_last s delta → delta * 10 < 10 * (r % 65536) →
    take (place + 1) (set to place (48 + r / 65536)) ++ digits_within m (10 * (r % 65536)) (delta * 10) ≡ text
more_put to text place n m s delta r before room some e more =
    let more' : 10 * delta < 10 * (rounded_last s delta % 65536) = rw (← e) (omega arith) in
    let fewer : n - 1 ≡ m = omega arith in
    let ten : delta * 10 ≡ 10 * delta = omega arith in
    rw (take_more_set to place (48 + r / 65536) room, append_assoc, e, ten, ← fewer, ← digits_more n s delta (omega arith) more') before

-- no digit is left to be put
pub all_put : (to text : List ℕ) (end place n s delta : ℕ) → take place to ++ digits_within n s delta ≡ text → place ≡ end → n ≡ 0 → take end to ≡ text
unfolding digits_within
all_put to text end place n s delta before e none = rw (none, append-nil, e) at before

-- lists that are equal from one place on are so from a later one on
pub equal_later : (n m : ℕ) (xs ys : List ℕ) → n ≤ m → drop n xs ≡ drop n ys → drop m xs ≡ drop m ys
equal_later n m xs ys before e =
    let same : n + (m - n) ≡ m = omega arith in
    rw (← same, ← drop-drop (m - n) n xs, ← drop-drop (m - n) n ys, e)

-- a byte that is put leaves what stands behind it
pub equal_behind : (place c : ℕ) (xs ys : List ℕ) → drop place xs ≡ drop place ys → drop (place + 1) (set xs place c) ≡ drop (place + 1) ys
equal_behind place c xs ys e =
    drop-set-lt (place + 1) xs place c (omega arith) ∙ equal_later place (place + 1) xs ys (omega arith) e
