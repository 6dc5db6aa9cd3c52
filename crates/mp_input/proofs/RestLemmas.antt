-- On the rest of a file that is left.
use Rattle.std.proofs.Common.{◌≡◌, ◌≤◌, ◌<◌, ◌∙◌, sym, ap, ℕ, suc, ◌+◌, ◌-◌, List, ◌++◌, take, drop, length, arith, Bool, false, Some, None, take-take, length-take, position}
use Rattle.std.proofs.lemmas.Bool.Decides.{nat_tests}
use Rattle.std.proofs.lemmas.List.{drop-take}
use Rattle.std.specs.List.{position_or_len, slice_range}
use Rattle.mp_tokens.specs.declared.token.Token.{Token}
use Rattle.mp_values.specs.declared.turn.Pending.{Pending}
use Rattle.mp_values.specs.Items.{file_items}
use Rattle.mp_input.specs.Files.{file_left, is_line}
use Rattle.mp_input.specs.Lines.{items_pending, first_line, end_file_after_line}
use Rattle.mp_input.proofs.LineLemmas.{file_cut, file_line_none}

pub position_some : (xs : List Token) (k : ℕ) → Some k ≡ position is_line xs → (k ≡ position_or_len is_line xs) × (position_or_len is_line xs < length xs)
position_some xs k e = (grind (arith, nat_tests), grind (arith, nat_tests))

position_none : (xs : List Token) → None ≡ position is_line xs → length xs ≤ position_or_len is_line xs
position_none xs e = grind (arith, nat_tests)

-- what is left, as a range
pub rest_is : (ts : List Token) (at end : ℕ) → at ≤ end → drop at (take end ts) ≡ slice_range ts at end
rest_is ts at end h =
    let e : end ≡ at + (end - at) = omega arith in
    ap (λ n. drop at (take n ts)) e ∙ drop-take at (end - at) ts

pub file_none : (f at end : ℕ) (ts : List Token) (ended : Bool) → ended ≡ false → at ≤ end → None ≡ position is_line (slice_range ts at end)
    → first_line (items_pending (file_left f ts at end ended)) ≡ None
file_none f at end ts ended o h e = rw (o, rest_is ts at end h) (file_line_none f (slice_range ts at end) (position_none (slice_range ts at end) e))

-- the range through the first end of a line
pub range_cut : (ts : List Token) (at end k : ℕ) → k < length (slice_range ts at end) → take (suc k) (slice_range ts at end) ≡ drop at (take (at + k + 1) ts)
range_cut ts at end k h =
    let e : at + k + 1 ≡ at + suc k = omega arith in
    let m : suc k ≤ end - at = omega (arith, length-take (end - at) (drop at ts)) in
    take-take (suc k) (end - at) (drop at ts) m ∙ sym (ap (λ n. drop at (take n ts)) e ∙ drop-take at (suc k) ts)

pub file_ends : (f at end k : ℕ) (ts : List Token) (below : List Pending) (ended : Bool) → ended ≡ false → at ≤ end → Some k ≡ position is_line (slice_range ts at end)
    → end_file_after_line (items_pending (file_left f ts at end ended) ++ below) ≡ items_pending (file_left f ts at (at + k + 1) ended) ++ below
file_ends f at end k ts below ended o h e =
    let p = position_some (slice_range ts at end) k e in
    let q : k < length (slice_range ts at end) = omega arith in
    let c = range_cut ts at end k q in
    rw (o, rest_is ts at end h)
    (file_cut f (slice_range ts at end) k below p.0 q ∙ ap (λ xs. items_pending (file_items f xs) ++ below) c)
