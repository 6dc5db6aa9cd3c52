-- On the entries of a stack.
use Rattle.std.proofs.Common.{◌≡◌, ◌≢◌, ◌↔◌, ◌∙◌, ◌≤◌, ◌<◌, sym, refl, ap, ℕ, zero, suc, ◌+◌, List, [], ◌∷◌, ◌++◌, take, drop, length, get_or, set, append_assoc, append-nil, arith}
use Rattle.std.proofs.Math.ListN.{drop_of_length-le}
use Rattle.mp_values.specs.declared.item.Item.{Item}
use Rattle.mp_values.specs.declared.turn.Pending.{Pending}
use Rattle.mp_input.specs.declared.entry.Entry.{Entry}
use Rattle.mp_input.specs.Lines.{items_pending}
use Rattle.mp_input.specs.Entries.{entry_items, left_of, IsPlain, AllPlain}

-- where two lists together are empty, the first one is
front_of_none : (xs ys : List Pending) → xs ++ ys ≡ [] → xs ≡ []
front_of_none [] ys e = refl
front_of_none (x ∷ xs) ys e = cc

-- the stack at an entry
pub left_of_at : (es : List Entry) (i : ℕ) (d : Entry) → i < length es
    → left_of es ≡ left_of (drop (suc i) es) ++ (entry_items (get_or es i d) ++ left_of (take i es))
left_of_at [] i d h = absurd (omega arith)
left_of_at (x ∷ xs) zero d h = rw (append-nil (entry_items x)) refl
left_of_at (x ∷ xs) (suc i) d h =
    let k : i < length xs = omega arith in
    rw (left_of_at xs i d k, append_assoc (left_of (drop (suc i) xs)) (entry_items (get_or xs i d) ++ left_of (take i xs)) (entry_items x), append_assoc (entry_items (get_or xs i d)) (left_of (take i xs)) (entry_items x)) refl

-- with another entry there
pub left_of_set : (es : List Entry) (i : ℕ) (e : Entry) → i < length es
    → left_of (set es i e) ≡ left_of (drop (suc i) es) ++ (entry_items e ++ left_of (take i es))
left_of_set [] i e h = absurd (omega arith)
left_of_set (x ∷ xs) zero e h = rw (append-nil (entry_items e)) refl
left_of_set (x ∷ xs) (suc i) e h =
    let k : i < length xs = omega arith in
    rw (left_of_set xs i e k, append_assoc (left_of (drop (suc i) xs)) (entry_items e ++ left_of (take i xs)) (entry_items x), append_assoc (entry_items e) (left_of (take i xs)) (entry_items x)) refl

pub take-set : (es : List Entry) (i : ℕ) (e : Entry) → take i (set es i e) ≡ take i es
take-set [] i e = refl
take-set (x ∷ xs) zero e = refl
take-set (x ∷ xs) (suc i) e = ap (λ t. x ∷ t) (take-set xs i e)

-- at the top
pub left_of_top : (es : List Entry) (i : ℕ) (d : Entry) → i + 1 ≡ length es → left_of es ≡ entry_items (get_or es i d) ++ left_of (take i es)
left_of_top es i d h =
    let k : i < length es = omega arith in
    let m : length es ≤ suc i = omega arith in
    rw (left_of_at es i d k, drop_of_length-le es m) refl

pub left_of_set_top : (es : List Entry) (i : ℕ) (e : Entry) → i + 1 ≡ length es → left_of (set es i e) ≡ entry_items e ++ left_of (take i es)
left_of_set_top es i e h =
    let k : i < length es = omega arith in
    let m : length es ≤ suc i = omega arith in
    rw (left_of_set es i e k, drop_of_length-le es m) refl

-- the top, which gives nothing more, is taken off
pub left_of_dropped : (es : List Entry) (i : ℕ) (d e : Entry) → i + 1 ≡ length es → entry_items (get_or es i d) ≡ [] → left_of (take i (set es i e)) ≡ left_of es
left_of_dropped es i d e h over = rw (take-set es i e, left_of_top es i d h, over) refl

-- the top changes, and gives the same
pub left_of_kept : (es : List Entry) (i : ℕ) (d e : Entry) → i + 1 ≡ length es → entry_items e ≡ entry_items (get_or es i d) → left_of (set es i e) ≡ left_of es
left_of_kept es i d e h same = rw (left_of_set_top es i e h, same) (sym (left_of_top es i d h))

-- the top gives its first
pub left_of_goes : (es : List Entry) (i : ℕ) (d e : Entry) (x : Pending) → i + 1 ≡ length es → entry_items (get_or es i d) ≡ x ∷ entry_items e → left_of es ≡ x ∷ left_of (set es i e)
left_of_goes es i d e x h goes = rw (left_of_set_top es i e h, left_of_top es i d h, goes) refl

pub left_of_push : (es : List Entry) (e : Entry) → left_of (es ++ e ∷ []) ≡ entry_items e ++ left_of es
left_of_push [] e = sym (append-nil (entry_items e))
left_of_push (x ∷ xs) e = rw (left_of_push xs e) (append_assoc (entry_items e) (left_of xs) (entry_items x))

pub all_plain_at : (es : List Entry) (i : ℕ) (d : Entry) → i < length es → AllPlain es → IsPlain (get_or es i d)
all_plain_at [] i d h all = absurd (omega arith)
all_plain_at (x ∷ xs) zero d h all = all.0
all_plain_at (x ∷ xs) (suc i) d h all = all_plain_at xs i d (omega arith) all.1

pub all_plain_set : (es : List Entry) (i : ℕ) (e : Entry) → AllPlain es → IsPlain e → AllPlain (set es i e)
all_plain_set [] i e all p = tt
all_plain_set (x ∷ xs) zero e all p = (p, all.1)
all_plain_set (x ∷ xs) (suc i) e all p = (all.0, all_plain_set xs i e all.1 p)

pub all_plain_take : (es : List Entry) (i : ℕ) → AllPlain es → AllPlain (take i es)
all_plain_take [] zero all = tt
all_plain_take [] (suc i) all = tt
all_plain_take (x ∷ xs) zero all = tt
all_plain_take (x ∷ xs) (suc i) all = (all.0, all_plain_take xs i all.1)

pub all_plain_push : (es : List Entry) (e : Entry) → AllPlain es → IsPlain e → AllPlain (es ++ e ∷ [])
all_plain_push [] e all p = (p, tt)
all_plain_push (x ∷ xs) e all p = (all.0, all_plain_push xs e all.1 p)

-- the top changes, and stays plain as it was
pub all_plain_set_top : (es : List Entry) (i : ℕ) (d e : Entry) → i + 1 ≡ length es → (IsPlain (get_or es i d) → IsPlain e) → AllPlain es → AllPlain (set es i e)
all_plain_set_top es i d e h keeps all = all_plain_set es i e all (keeps (all_plain_at es i d (omega arith) all))

-- no item is left exactly where none is pending
pub none_pending : (items : List Item) → (items_pending items ≡ []) ↔ (items ≡ [])
none_pending [] = (λ e. refl, λ e. refl)
none_pending (x ∷ items) = (λ e. cc, λ e. cc)

-- the top gives something, and so does the stack
pub left_of_some : (es : List Entry) (i : ℕ) (d : Entry) → i + 1 ≡ length es → entry_items (get_or es i d) ≢ [] → left_of es ≢ []
left_of_some es i d h some e = some (front_of_none (entry_items (get_or es i d)) (left_of (take i es)) (sym (left_of_top es i d h) ∙ e))
