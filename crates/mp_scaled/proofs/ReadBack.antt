-- What is printed reads back as itself.
use Rattle.std.proofs.Common.{◌≡◌, ◌≢◌, ℕ, ◌+◌, ◌*◌, ◌/◌, ◌%◌, ◌<◌, ◌^◌, List, [], ◌∷◌, ◌++◌, length, take, drop, true, false, refl, sym, ap, ◌∙◌, arith, pos, Ok, decimal, cond, eqb, ltb, Err}
use Rattle.std.proofs.lemmas.Bool.{lt-ltb, le-ltb, eqb-true}
use Rattle.std.proofs.lemmas.List.{take_all, drop_all, append-nil, take_at, drop_at, append_assoc, get_or_append_left, get_or_at, length_push}
use Rattle.std.proofs.lemmas.List.Elements.{All-push, All-nil}
use Rattle.std.proofs.lemmas.List.Sums.{position_or_len_is, fold_push}
use Rattle.std.proofs.lemmas.Bool.Decides.{nat_tests}
use Rattle.std.proofs.lemmas.Grind.{common_steps}
use Rattle.std.proofs.lemmas.Fmt.{decimal_by_steps}
use Rattle.std.specs.List.{All, position_or_len}
use Rattle.mp_scaled.proofs.WorthLemmas.{fraction_of-digits}
use Rattle.mp_scaled.specs.Decimal.{is_point, with_digit, whole_of, whole_digits, fraction_digits, fraction_of, units_of, decimal_of}
use Rattle.mp_scaled.specs.Print.{digits_within, printed_magnitude, printed}

abbrev pub IsNoPoint : ℕ → Type 0
IsNoPoint c = c ≢ 46

-- no byte of the list is a point
abbrev pub LacksPoint : List ℕ → Type 0
LacksPoint xs = All IsNoPoint xs

LacksPoint-decimal : (n : ℕ) → n < 2 ^ 64 → LacksPoint (decimal n)
LacksPoint-decimal n small =
    decimal_by_steps (λ _ ds. LacksPoint ds) (λ n low. All-push IsNoPoint [] (48 + n) (All-nil IsNoPoint) (omega arith))
    (λ n ds high before. All-push IsNoPoint ds (48 + n % 10) before (omega arith)) n small

whole_of-decimal : (n : ℕ) → n < 2 ^ 64 → whole_of (decimal n) ≡ n
whole_of-decimal n small =
    decimal_by_steps (λ n ds. whole_of ds ≡ n) (λ n low. omega arith) (λ n ds high before. rw (fold_push with_digit 0 ds (48 + n % 10), before) (omega arith)) n small

-- where the first point of such bytes is, with a point after them and without
point_none : (xs : List ℕ) → LacksPoint xs → position_or_len is_point xs ≡ length xs
point_none xs lacks =
    position_or_len_is is_point xs (length xs) 0 (omega arith) (λ k lt. let ne = lacks k 0 lt in grind (arith, nat_tests)) (λ lt. absurd (omega arith))

point_at : (xs ys : List ℕ) → LacksPoint xs → position_or_len is_point (xs ++ 46 ∷ ys) ≡ length xs
point_at xs ys lacks =
    position_or_len_is is_point (xs ++ 46 ∷ ys) (length xs) 0 (grind (arith, common_steps))
    (λ k lt. let ne = lacks k 0 lt in rw get_or_append_left (grind (arith, nat_tests))) (λ _. rw (get_or_at xs 46 ys 0 (length xs) refl))

whole_digits-none : (xs : List ℕ) → LacksPoint xs → whole_digits xs ≡ xs
whole_digits-none xs lacks = ap (λ n. take n xs) (point_none xs lacks) ∙ take_all (length xs) xs (omega arith)

fraction_digits-none : (xs : List ℕ) → LacksPoint xs → fraction_digits xs ≡ []
fraction_digits-none xs lacks = ap (λ n. drop (n + 1) xs) (point_none xs lacks) ∙ drop_all (length xs + 1) xs (omega arith)

whole_digits-at : (xs ys : List ℕ) → LacksPoint xs → whole_digits (xs ++ 46 ∷ ys) ≡ xs
whole_digits-at xs ys lacks = ap (λ n. take n (xs ++ 46 ∷ ys)) (point_at xs ys lacks) ∙ take_at xs (46 ∷ ys) (length xs) refl

fraction_digits-at : (xs ys : List ℕ) → LacksPoint xs → fraction_digits (xs ++ 46 ∷ ys) ≡ ys
fraction_digits-at xs ys lacks =
    ap (λ n. drop (n + 1) (xs ++ 46 ∷ ys)) (point_at xs ys lacks)
    ∙ ap (drop (length xs + 1)) (sym (append_assoc xs (46 ∷ []) ys)) ∙ drop_at (xs ++ 46 ∷ []) ys (length xs + 1) (length_push xs 46)

units_of-parts : (text whole digits : List ℕ) (w u : ℕ) → whole_digits text ≡ whole → whole_of whole ≡ w → fraction_digits text ≡ digits → fraction_of digits ≡ u →
    units_of text ≡ w * 65536 + u
units_of-parts text whole digits w u a b c d =
    let whole_is : whole_of (whole_digits text) ≡ w = ap whole_of a ∙ b in
    let fraction_is : fraction_of (fraction_digits text) ≡ u = ap fraction_of c ∙ d in
    omega arith

-- the units of a whole part with a fraction and without
units_of-both : (w u : ℕ) → w < 2 ^ 64 → units_of (decimal w ++ 46 ∷ digits_within 5 (10 * u + 5) 10) ≡ w * 65536 + u
units_of-both w u small =
    let lacks = LacksPoint-decimal w small in
    let digits = digits_within 5 (10 * u + 5) 10 in
    units_of-parts (decimal w ++ 46 ∷ digits) (decimal w) digits w u (whole_digits-at (decimal w) digits lacks) (whole_of-decimal w small) (fraction_digits-at (decimal w) digits lacks) (fraction_of-digits u)

units_of-whole : (w : ℕ) → w < 2 ^ 64 → units_of (decimal w ++ []) ≡ w * 65536
units_of-whole w small =
    let lacks = LacksPoint-decimal w small in
    ap units_of (append-nil (decimal w))
    ∙ units_of-parts (decimal w) (decimal w) [] w 0 (whole_digits-none (decimal w) lacks) (whole_of-decimal w small) (fraction_digits-none (decimal w) lacks) refl
    ∙ omega arith

units_of-printed : (n : ℕ) → n < 2 ^ 64 → units_of (printed_magnitude n) ≡ n
units_of-printed n small =
    let w = n / 65536 in
    let u = n % 65536 in
    elim (eqb u 0) as (λ b. eqb u 0 ≡ b → units_of (decimal w ++ cond b [] (46 ∷ digits_within 5 (10 * u + 5) 10)) ≡ n) [
      | true ↦ λ e. let zero : u ≡ 0 = eqb-true u 0 e in units_of-whole w (omega arith) ∙ omega arith
      | false ↦ λ _. units_of-both w u (omega arith) ∙ omega arith
    ] refl

decimal_of-units : (text : List ℕ) (n : ℕ) → units_of text ≡ n → n < 2 ^ 31 → decimal_of text ≡ Ok (pos n)
decimal_of-units text n e small = ap (λ m. cond (ltb m (2 ^ 31)) (Ok (pos m)) (Err (record {}))) e ∙ rw (lt-ltb n (2 ^ 31) small)

printed-pos : (n : ℕ) → printed (pos n) ≡ printed_magnitude n
printed-pos n = ap (λ b. cond b (45 ∷ printed_magnitude n) (printed_magnitude n)) (le-ltb n 0 (omega arith))

-- what is printed of a number of units below 2^31 reads back as that number
pub decimal_of-printed : (n : ℕ) → n < 2 ^ 31 → decimal_of (printed (pos n)) ≡ Ok (pos n)
decimal_of-printed n small = ap decimal_of (printed-pos n) ∙ decimal_of-units (printed_magnitude n) n (units_of-printed n (omega arith)) small
