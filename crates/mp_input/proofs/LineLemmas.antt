-- On ends of lines and files, and turns, in a list of what is pending.
use Rattle.std.proofs.Common.{◌≡◌, ◌+◌, add-one, ◌≤◌, ◌<◌, refl, ap, ℕ, zero, suc, List, [], ◌∷◌, ◌++◌, take, length, get_or, arith, Option, Some, None, option_map, unwrap_or, drop, drop-cons}
use Rattle.std.proofs.lemmas.List.{drop_all}
use Rattle.std.specs.List.{position_or_len}
use Rattle.mp_values.specs.declared.item.Item.{Item}
use Rattle.mp_values.specs.declared.item.Item.TheVariants as item
use Rattle.mp_tokens.specs.declared.token.Token.{Token}
use Rattle.mp_tokens.specs.declared.token.Token.TheVariants as token
use Rattle.mp_values.specs.declared.turn.Pending.{Pending}
use Rattle.mp_values.specs.declared.turn.Pending.TheVariants as pending
use Rattle.mp_values.specs.Items.{file_items}
use Rattle.mp_input.specs.Files.{is_line, line_of, place_at}
use Rattle.mp_input.specs.Lines.{items_pending, line_in, first_line, from_file_end, ended_behind, end_file_after_line}
use Rattle.mp_input.specs.Loops.{leave_loop}
use Rattle.mp_report.specs.declared.place.Place.{Place}
use Rattle.std.specs.Option.{option_or}

-- without an end of a line, the next list decides
pub first_line_append : (xs ys : List Pending) → first_line xs ≡ None → first_line (xs ++ ys) ≡ first_line ys
first_line_append [] ys e = refl
first_line_append (x ∷ xs) ys e =
    (elim (line_in x) as (λ o. option_or o (first_line xs) ≡ None → option_or o (first_line (xs ++ ys)) ≡ first_line ys)
    [ None ↦ λ e. first_line_append xs ys e | Some p ↦ λ e. cc ]) e

pub first_line_hit : (xs ys : List Pending) (p : Place) → first_line xs ≡ Some p → first_line (xs ++ ys) ≡ Some p
first_line_hit [] ys p e = cc
first_line_hit (x ∷ xs) ys p e =
    (elim (line_in x) as (λ o. option_or o (first_line xs) ≡ Some p → option_or o (first_line (xs ++ ys)) ≡ Some p)
    [ None ↦ λ e. first_line_hit xs ys p e | Some q ↦ λ e. e ]) e

pub end_after_line_append : (xs ys : List Pending) → first_line xs ≡ None → end_file_after_line (xs ++ ys) ≡ xs ++ end_file_after_line ys
end_after_line_append [] ys e = refl
end_after_line_append (x ∷ xs) ys e =
    (elim (line_in x) as (λ o. option_or o (first_line xs) ≡ None → x ∷ ended_behind o (xs ++ ys) (end_file_after_line (xs ++ ys)) ≡ x ∷ (xs ++ end_file_after_line ys))
    [ None ↦ λ e. ap (λ t. x ∷ t) (end_after_line_append xs ys e) | Some p ↦ λ e. cc ]) e

pub end_after_line_none : (xs : List Pending) → first_line xs ≡ None → end_file_after_line xs ≡ xs
end_after_line_none [] e = refl
end_after_line_none (x ∷ xs) e =
    (elim (line_in x) as (λ o. option_or o (first_line xs) ≡ None → x ∷ ended_behind o xs (end_file_after_line xs) ≡ x ∷ xs)
    [ None ↦ λ e. ap (λ t. x ∷ t) (end_after_line_none xs e) | Some p ↦ λ e. cc ]) e

-- a file's own end is the next
pub from_file_end_of : (f : ℕ) (ts : List Token) (ys : List Pending) → from_file_end (items_pending (file_items f ts) ++ ys) ≡ Some (pending.Item item.FileEnd ∷ ys)
from_file_end_of f [] ys = refl
from_file_end_of f (token.Sym s ∷ ts) ys = from_file_end_of f ts ys
from_file_end_of f (token.Num s ∷ ts) ys = from_file_end_of f ts ys
from_file_end_of f (token.Text s ∷ ts) ys = from_file_end_of f ts ys
from_file_end_of f (token.Bad s ∷ ts) ys = from_file_end_of f ts ys
from_file_end_of f (token.LineEnd s ∷ ts) ys = from_file_end_of f ts ys

-- the tokens through the first end of a line stay
pub file_cut : (f : ℕ) (ts : List Token) (k : ℕ) (ys : List Pending) → k ≡ position_or_len is_line ts → k < length ts
    → end_file_after_line (items_pending (file_items f ts) ++ ys) ≡ items_pending (file_items f (take (suc k) ts)) ++ ys
file_cut f [] k ys e h = absurd (omega arith)
file_cut f (token.Sym s ∷ ts) zero ys e h = absurd (omega arith)
file_cut f (token.Sym s ∷ ts) (suc k) ys e h = ap (λ t. pending.Item (item.Symbol s) ∷ t) (file_cut f ts k ys (omega arith) (omega arith))
file_cut f (token.Num s ∷ ts) zero ys e h = absurd (omega arith)
file_cut f (token.Text s ∷ ts) zero ys e h = absurd (omega arith)
file_cut f (token.Bad s ∷ ts) zero ys e h = absurd (omega arith)
file_cut f (token.Num s ∷ ts) (suc k) ys e h = ap (λ t. pending.Item (item.Number s) ∷ t) (file_cut f ts k ys (omega arith) (omega arith))
file_cut f (token.Text s ∷ ts) (suc k) ys e h = ap (λ t. pending.Item (item.Text s) ∷ t) (file_cut f ts k ys (omega arith) (omega arith))
file_cut f (token.Bad s ∷ ts) (suc k) ys e h = ap (λ t. pending.Item (item.Bad s) ∷ t) (file_cut f ts k ys (omega arith) (omega arith))
file_cut f (token.LineEnd s ∷ ts) zero ys e h = rw (from_file_end_of f ts ys) refl
file_cut f (token.LineEnd s ∷ ts) (suc k) ys e h = absurd (omega arith)

pub file_line_none : (f : ℕ) (ts : List Token) → length ts ≤ position_or_len is_line ts → first_line (items_pending (file_items f ts)) ≡ None
file_line_none f [] h = refl
file_line_none f (token.Sym s ∷ ts) h = file_line_none f ts (omega arith)
file_line_none f (token.Num s ∷ ts) h = file_line_none f ts (omega arith)
file_line_none f (token.Text s ∷ ts) h = file_line_none f ts (omega arith)
file_line_none f (token.Bad s ∷ ts) h = file_line_none f ts (omega arith)
file_line_none f (token.LineEnd s ∷ ts) h = absurd (omega arith)

-- tokens of a file from one of them on
line_of_first : (f : ℕ) (t : Token) (ts : List Token) → first_line (items_pending (file_items f (t ∷ ts))) ≡ option_or (option_map (place_at f) (line_of t)) (first_line (items_pending (file_items f ts)))
line_of_first f (token.Sym s) ts = refl
line_of_first f (token.Num s) ts = refl
line_of_first f (token.Text s) ts = refl
line_of_first f (token.Bad s) ts = refl
line_of_first f (token.LineEnd s) ts = refl

pub line_is_found : (f i l : ℕ) (ts : List Token) (t : Token) → i < length ts → t ≡ get_or ts i t → line_of t ≡ Some l
    → first_line (items_pending (file_items f (drop i ts))) ≡ Some (place_at f l)
line_is_found f i l ts t h is line =
    rw (drop-cons ts i t h, ← is, line_of_first f t (drop (suc i) ts), line) refl

pub line_is_passed : (f i : ℕ) (ts : List Token) (t : Token) → i < length ts → t ≡ get_or ts i t → line_of t ≡ None
    → first_line (items_pending (file_items f (drop i ts))) ≡ first_line (items_pending (file_items f (drop (i + 1) ts)))
line_is_passed f i ts t h is line =
    rw (drop-cons ts i t h, ← is, line_of_first f t (drop (suc i) ts), line, add-one) refl

pub line_is_none : (f i : ℕ) (ts : List Token) → length ts ≤ i → first_line (items_pending (file_items f (drop i ts))) ≡ None
line_is_none f i ts h = rw (drop_all i ts h) refl

-- items are no turns
pub items_leave_no_loop : (xs : List Item) → leave_loop (items_pending xs) ≡ None
items_leave_no_loop [] = refl
items_leave_no_loop (x ∷ xs) = items_leave_no_loop xs

pub leave_loop_append : (xs ys : List Pending) → leave_loop xs ≡ None → leave_loop (xs ++ ys) ≡ leave_loop ys
leave_loop_append [] ys e = refl
leave_loop_append (pending.Item i ∷ xs) ys e = leave_loop_append xs ys e
leave_loop_append (pending.Turn t ∷ xs) ys e = cc

pub leave_loop_hit : (xs ys rest : List Pending) (c : ℕ) → leave_loop xs ≡ Some (c, rest) → leave_loop (xs ++ ys) ≡ Some (c, rest ++ ys)
leave_loop_hit [] ys rest c e = cc
leave_loop_hit (pending.Item i ∷ xs) ys rest c e = leave_loop_hit xs ys rest c e
leave_loop_hit (pending.Turn t ∷ xs) ys rest c e = ap (λ (o : Option (ℕ × List Pending)). Some ((unwrap_or o (c, rest)).0, (unwrap_or o (c, rest)).1 ++ ys)) e
