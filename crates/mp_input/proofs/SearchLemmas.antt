-- On the entry with the first end of a line, or the first turn.
use Rattle.std.proofs.Common.{◌≡◌, ◌≢◌, ◌≤◌, ◌<◌, ◌∙◌, sym, refl, ap, subst, ℕ, suc, ◌+◌, List, [], ◌++◌, take, drop, length, get_or, set, arith, drop-cons, Some, None}
use Rattle.std.proofs.lemmas.List.{get_or_default}
use Rattle.mp_input.specs.declared.entry.Entry.{Entry}
use Rattle.mp_input.specs.Entries.{entry_items, left_of, IsPlain, AllPlain}
use Rattle.mp_input.specs.Lines.{first_line, end_file_after_line}
use Rattle.mp_input.specs.Loops.{leave_loop}
use Rattle.mp_report.specs.declared.place.Place.{Place}
use Rattle.mp_input.specs.Search.{HasFirstLine, EndsAfterLine}
use Rattle.mp_input.proofs.StackLemmas.{left_of_at, left_of_set, all_plain_at, all_plain_set}
use Rattle.mp_input.proofs.LineLemmas.{first_line_append, first_line_hit, end_after_line_append, leave_loop_append, leave_loop_hit}

-- the stack from an entry up
pub left_of_from : (es : List Entry) (k i : ℕ) (d : Entry) → i + 1 ≡ k → k ≤ length es → left_of (drop i es) ≡ left_of (drop k es) ++ entry_items (get_or es i d)
left_of_from es k i d e h =
    let m : i < length es = omega arith in
    let n : k ≡ suc i = omega arith in
    rw (drop-cons es i d, n) refl

pub line_down : (es : List Entry) (k i : ℕ) (d : Entry) → i + 1 ≡ k → k ≤ length es → first_line (left_of (drop k es)) ≡ None
    → first_line (entry_items (get_or es i d)) ≡ None → first_line (left_of (drop i es)) ≡ None
line_down es k i d e h above here =
    rw (left_of_from es k i d e h) (first_line_append (left_of (drop k es)) (entry_items (get_or es i d)) above ∙ here)

pub line_here : (es : List Entry) (k i : ℕ) (d : Entry) (p : Place) → i + 1 ≡ k → k ≤ length es → first_line (left_of (drop k es)) ≡ None
    → first_line (entry_items (get_or es i d)) ≡ Some p → first_line (left_of es) ≡ Some p
line_here es k i d p e h above here =
    let m : i < length es = omega arith in
    let n : suc i ≡ k = omega arith in
    let low = left_of (take i es) in
    let top = entry_items (get_or es i d) in
    rw (left_of_at es i d m, n) (first_line_append (left_of (drop k es)) (top ++ low) above ∙ first_line_hit top low p here)

-- the entry's change is the change of the list
pub ends_here : (es : List Entry) (i : ℕ) (place : Place) (d e : Entry) → HasFirstLine es i place → d ≡ get_or es i d → EndsAfterLine d e
    → left_of (set es i e) ≡ end_file_after_line (left_of es)
ends_here es i place d e h is ends =
    let low = left_of (take i es) in
    let high = left_of (drop (suc i) es) in
    let m : i < length es = h.within in
    let s : i + 1 ≡ suc i = omega arith in
    let above : first_line high ≡ None = subst (λ n. first_line (left_of (drop n es)) ≡ None) s h.above in
    let some : first_line (entry_items d) ≢ None = λ none. cc (sym none ∙ ap (λ x. first_line (entry_items x)) (is ∙ get_or_default es i d d m), h.has d) in
    let t : end_file_after_line (entry_items (get_or es i d) ++ low) ≡ entry_items e ++ low = subst (λ x. end_file_after_line (entry_items x ++ low) ≡ entry_items e ++ low) is (ends some low) in
    rw (left_of_set es i e m, left_of_at es i d m)
    (ap (λ xs. high ++ xs) (sym t) ∙ sym (end_after_line_append high (entry_items (get_or es i d) ++ low) above))

pub turn_down : (es : List Entry) (k i : ℕ) (d : Entry) → i + 1 ≡ k → k ≤ length es → leave_loop (left_of (drop k es)) ≡ None
    → leave_loop (entry_items (get_or es i d)) ≡ None → leave_loop (left_of (drop i es)) ≡ None
turn_down es k i d e h above here =
    rw (left_of_from es k i d e h) (leave_loop_append (left_of (drop k es)) (entry_items (get_or es i d)) above ∙ here)

pub turn_here : (es : List Entry) (k i c : ℕ) (d : Entry) → i + 1 ≡ k → k ≤ length es → leave_loop (left_of (drop k es)) ≡ None
    → leave_loop (entry_items (get_or es i d)) ≡ Some (c, []) → leave_loop (left_of es) ≡ Some (c, left_of (take i es))
turn_here es k i c d e h above here =
    let m : i < length es = omega arith in
    let n : suc i ≡ k = omega arith in
    let low = left_of (take i es) in
    let top = entry_items (get_or es i d) in
    rw (left_of_at es i d m, n) (leave_loop_append (left_of (drop k es)) (top ++ low) above ∙ leave_loop_hit top low [] c here)

pub all_plain_change : (es : List Entry) (i : ℕ) (d e : Entry) → i < length es → d ≡ get_or es i d → (IsPlain d → IsPlain e) → AllPlain es → AllPlain (set es i e)
all_plain_change es i d e h is keeps all = all_plain_set es i e all (keeps (subst IsPlain (sym is) (all_plain_at es i d h all)))
