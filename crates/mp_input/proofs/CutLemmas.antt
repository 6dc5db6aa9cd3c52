-- On a file that was ended after its first end of a line.
use Rattle.std.proofs.Common.{◌≡◌, ◌≤◌, ◌<◌, ◌∙◌, sym, refl, ap, ℕ, zero, suc, ◌+◌, ◌-◌, List, [], ◌∷◌, ◌++◌, take, drop, length, get_or, add-one, arith, Bool, false, Some, position, drop-cons, length-take, length-drop}
use Rattle.std.proofs.lemmas.Bool.Decides.{nat_tests}
use Rattle.std.specs.List.{position_or_len, slice_range}
use Rattle.mp_tokens.specs.declared.token.Token.{Token}
use Rattle.mp_tokens.specs.declared.token.Token.TheVariants as token
use Rattle.mp_values.specs.declared.turn.Pending.{Pending}
use Rattle.mp_values.specs.Items.{file_items}
use Rattle.std.proofs.Math.Seq.{drop-nil}
use Rattle.mp_input.specs.Files.{file_left, is_line, EndsAtLine}
use Rattle.mp_input.specs.Lines.{items_pending, first_line, end_file_after_line}
use Rattle.mp_input.proofs.RestLemmas.{file_ends, position_some, range_cut, rest_is}

behind : (x : Token) (xs : List Token) (n : ℕ) → position_or_len is_line (x ∷ xs) ≡ suc n → position_or_len is_line xs ≡ n
behind (token.Sym s) xs n e = omega arith
behind (token.Num s) xs n e = omega arith
behind (token.Text s) xs n e = omega arith
behind (token.Bad s) xs n e = omega arith
behind (token.LineEnd s) xs n e = absurd (omega arith)

through : (xs : List Token) (k : ℕ) → k ≡ position_or_len is_line xs → k < length xs → position_or_len is_line (take (suc k) xs) ≡ k
through [] k e h = absurd (omega arith)
through (token.Sym s ∷ xs) zero e h = absurd (omega arith)
through (token.Sym s ∷ xs) (suc k) e h = omega (arith, through xs k (omega arith) (omega arith))
through (token.Num s ∷ xs) zero e h = absurd (omega arith)
through (token.Text s ∷ xs) zero e h = absurd (omega arith)
through (token.Bad s ∷ xs) zero e h = absurd (omega arith)
through (token.Num s ∷ xs) (suc k) e h = omega (arith, through xs k (omega arith) (omega arith))
through (token.Text s ∷ xs) (suc k) e h = omega (arith, through xs k (omega arith) (omega arith))
through (token.Bad s ∷ xs) (suc k) e h = omega (arith, through xs k (omega arith) (omega arith))
through (token.LineEnd s ∷ xs) zero e h = refl
through (token.LineEnd s ∷ xs) (suc k) e h = absurd (omega arith)

pub cut_next : (ts : List Token) (at end : ℕ) → end ≤ length ts → EndsAtLine ts at end → at + 1 < end → EndsAtLine ts (at + 1) end
cut_next ts at end small e h =
    let d : Token = token.Sym 0 in
    let m : at < length ts = omega arith in
    let n : end - at ≡ suc (end - (at + 1)) = omega arith in
    let r : slice_range ts at end ≡ get_or ts at d ∷ slice_range ts (at + 1) end = rw (n, drop-cons ts at d, add-one) refl in
    let p : position_or_len is_line (get_or ts at d ∷ slice_range ts (at + 1) end) ≡ suc (end - at - 2) = ap (position_or_len is_line) (sym r) ∙ omega arith in
    omega (arith, behind (get_or ts at d) (slice_range ts (at + 1) end) (end - at - 2) p)

pub cut_made : (ts : List Token) (at end k : ℕ) → Some k ≡ position is_line (slice_range ts at end) → EndsAtLine ts at (at + k + 1)
cut_made ts at end k e =
    let p = position_some (slice_range ts at end) k e in
    let q : k < length (slice_range ts at end) = omega arith in
    let c = range_cut ts at end k q ∙ rest_is ts at (at + k + 1) (omega arith) in
    omega (arith, sym (ap (position_or_len is_line) c) ∙ through (slice_range ts at end) k p.0 q)

pub cut_again : (f at end : ℕ) (ts : List Token) (below : List Pending) (ended : Bool) → ended ≡ false → at < end → end ≤ length ts → EndsAtLine ts at end
    → end_file_after_line (items_pending (file_left f ts at end ended) ++ below) ≡ items_pending (file_left f ts at end ended) ++ below
cut_again f at end ts below ended o h small e =
    let k = end - at - 1 in
    let pl : k ≡ position_or_len is_line (slice_range ts at end) = omega arith in
    let s : at + k + 1 ≡ end = omega arith in
    let l : k < length (slice_range ts at end) = omega (arith, length-take (end - at) (drop at ts), length-drop at ts) in
    let p : Some k ≡ position is_line (slice_range ts at end) = grind (arith, nat_tests) in
    file_ends f at end k ts below ended o (omega arith) p ∙ ap (λ n. items_pending (file_left f ts at n ended) ++ below) s

drop_on : (xs : List Token) (i k j : ℕ) → j ≡ i + k → drop k (drop i xs) ≡ drop j xs
drop_on [] zero k j e = drop-nil k ∙ sym (drop-nil j)
drop_on [] (suc i) k j e = drop-nil k ∙ sym (drop-nil j)
drop_on (x ∷ xs) zero k j e = let same : k ≡ j = omega arith in ap (λ n. drop n (x ∷ xs)) same
drop_on (x ∷ xs) (suc i) k zero e = absurd (omega arith)
drop_on (x ∷ xs) (suc i) k (suc j) e = drop_on xs i k j (omega arith)

line_at_last : (f : ℕ) (xs : List Token) (k : ℕ) → k ≡ position_or_len is_line xs → k < length xs
    → first_line (items_pending (file_items f (drop k xs))) ≡ first_line (items_pending (file_items f xs))
line_at_last f [] k e h = absurd (omega arith)
line_at_last f (token.Sym s ∷ xs) zero e h = absurd (omega arith)
line_at_last f (token.Sym s ∷ xs) (suc k) e h = line_at_last f xs k (omega arith) (omega arith)
line_at_last f (token.Num s ∷ xs) zero e h = absurd (omega arith)
line_at_last f (token.Num s ∷ xs) (suc k) e h = line_at_last f xs k (omega arith) (omega arith)
line_at_last f (token.Text s ∷ xs) zero e h = absurd (omega arith)
line_at_last f (token.Text s ∷ xs) (suc k) e h = line_at_last f xs k (omega arith) (omega arith)
line_at_last f (token.Bad s ∷ xs) zero e h = absurd (omega arith)
line_at_last f (token.Bad s ∷ xs) (suc k) e h = line_at_last f xs k (omega arith) (omega arith)
line_at_last f (token.LineEnd s ∷ xs) zero e h = refl
line_at_last f (token.LineEnd s ∷ xs) (suc k) e h = absurd (omega arith)

-- the last token that is left is the first end of a line
pub cut_line : (f at end : ℕ) (ts : List Token) (ended : Bool) → ended ≡ false → at < end → end ≤ length ts → EndsAtLine ts at end
    → first_line (items_pending (file_items f (slice_range ts (end - 1) end))) ≡ first_line (items_pending (file_left f ts at end ended))
cut_line f at end ts ended o h small e =
    let k = end - at - 1 in
    let p : k ≡ position_or_len is_line (slice_range ts at end) = omega arith in
    let l : k < length (slice_range ts at end) = omega (arith, length-take (end - at) (drop at ts), length-drop at ts) in
    let r : drop at (take end ts) ≡ slice_range ts at end = rest_is ts at end (omega arith) in
    let last : drop (end - 1) (take end ts) ≡ slice_range ts (end - 1) end = rest_is ts (end - 1) end (omega arith) in
    let d : drop k (slice_range ts at end) ≡ slice_range ts (end - 1) end = ap (drop k) (sym r) ∙ drop_on (take end ts) at k (end - 1) (omega arith) ∙ last in
    rw (o, r) (ap (λ xs. first_line (items_pending (file_items f xs))) (sym d) ∙ line_at_last f (slice_range ts at end) k p l)
