-- Texts hold no ends of lines.
use Rattle.std.proofs.Common.{◌≡◌, refl, ℕ, zero, suc, List, [], ◌∷◌, ◌++◌, None, unwrap_or, slice_get, sym, ap, Some}
use Rattle.mp_values.specs.declared.item.Item.{Item}
use Rattle.mp_values.specs.declared.item.Item.TheVariants as item
use Rattle.mp_values.specs.declared.turn.Pending.{Pending}
use Rattle.mp_values.specs.declared.turn.Pending.TheVariants as pending
use Rattle.mp_values.specs.Ends.{IsNoEnd, NoEnds, AllNoEnds}
use Rattle.mp_values.specs.Substitution.{stands_for, substitute}
use Rattle.mp_input.specs.Lines.{items_pending, line_in, first_line, last_after}
use Rattle.std.specs.Option.{option_or}
use Rattle.mp_report.specs.declared.place.Place.{Place}

no_ends_line : (xs : List Item) → NoEnds xs → first_line (items_pending xs) ≡ None
no_ends_line [] h = refl
no_ends_line (item.LineEnd place ∷ xs) h = absurd h.0
no_ends_line (item.FileEnd ∷ xs) h = absurd h.0
no_ends_line (item.EndOfText ∷ xs) h = absurd h.0
no_ends_line (item.Symbol s ∷ xs) h = no_ends_line xs h.1
no_ends_line (item.Number s ∷ xs) h = no_ends_line xs h.1
no_ends_line (item.Text s ∷ xs) h = no_ends_line xs h.1
no_ends_line (item.Bad s ∷ xs) h = no_ends_line xs h.1
no_ends_line (item.Capsule s ∷ xs) h = no_ends_line xs h.1
no_ends_line (item.Param s ∷ xs) h = no_ends_line xs h.1

argument_has_no_ends : (args : List (List Item)) (n : ℕ) → AllNoEnds args → NoEnds (unwrap_or (slice_get args n) [])
argument_has_no_ends [] n h = tt
argument_has_no_ends (a ∷ more) zero h = h.0
argument_has_no_ends (a ∷ more) (suc n) h = argument_has_no_ends more n h.1

items_have_no_ends : (args : List (List Item)) (x : Item) → AllNoEnds args → IsNoEnd x → NoEnds (stands_for args x)
items_have_no_ends args (item.Param n) h p = argument_has_no_ends args n h
items_have_no_ends args (item.LineEnd place) h p = absurd p
items_have_no_ends args item.FileEnd h p = absurd p
items_have_no_ends args item.EndOfText h p = absurd p
items_have_no_ends args (item.Symbol s) h p = (tt, tt)
items_have_no_ends args (item.Number s) h p = (tt, tt)
items_have_no_ends args (item.Text s) h p = (tt, tt)
items_have_no_ends args (item.Bad s) h p = (tt, tt)
items_have_no_ends args (item.Capsule s) h p = (tt, tt)

no_ends_append : (xs ys : List Item) → NoEnds xs → NoEnds ys → NoEnds (xs ++ ys)
no_ends_append [] ys h k = k
no_ends_append (x ∷ xs) ys h k = (h.0, no_ends_append xs ys h.1 k)

substitute_has_no_ends : (body : List Item) (args : List (List Item)) → NoEnds body → AllNoEnds args → NoEnds (substitute body args)
substitute_has_no_ends [] args h k = tt
substitute_has_no_ends (x ∷ xs) args h k = no_ends_append (stands_for args x) (substitute xs args) (items_have_no_ends args x k h.0) (substitute_has_no_ends xs args h.1 k)

pub substitute_has_no_line : (body : List Item) (args : List (List Item)) → NoEnds body → AllNoEnds args → first_line (items_pending (substitute body args)) ≡ None
substitute_has_no_line body args h k = no_ends_line (substitute body args) (substitute_has_no_ends body args h k)

pub item_is_no_line : (x : Item) → IsNoEnd x → first_line (pending.Item x ∷ []) ≡ None
item_is_no_line x h = no_ends_line (x ∷ []) (h, tt)

-- what is plain gives no end of a line
pub no_line_is_last : (text rest : List Pending) (x : Pending) (last : Place) → first_line text ≡ None → text ≡ x ∷ rest → last_after x last ≡ last
no_line_is_last text rest x last none is =
    let e : option_or (line_in x) (first_line rest) ≡ None = cc (ap first_line (sym is), none) in
    (elim (line_in x) as (λ o. option_or o (first_line rest) ≡ None → unwrap_or o last ≡ last) [ None ↦ λ e. refl | Some p ↦ λ e. cc ]) e
