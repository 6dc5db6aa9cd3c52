-- One form, in which an unknown is replaced that occurs in it.
use Rattle.std.proofs.Common.{◌≡◌, ℕ, ◌+◌, ◌<◌, ◌≤◌, ◌^◌, ℤ, ◌+ℤ◌, unsigned_abs, List, Option, Some, None, length, get_or, set, refl, sym, ap, ◌∙◌, subst, arith}
use Rattle.std.specs.Option.{option_map, IsSome}
use Rattle.mp_pool.specs.declared.Term.{Term}
use Rattle.mp_pool.specs.Ratios.{times_fraction}
use Rattle.mp_pool.specs.Terms.{without, term_of, sum_terms, HasTooLarge}
use Rattle.mp_pool.specs.Pool.{Pool, with_list, terms_in, list_in, spare, spare_lists}
use Rattle.mp_forms.specs.Forms.{LinearForm}
use Rattle.mp_solver.specs.declared.forms.Entry.{Entry}
use Rattle.mp_solver.specs.States.{States}
use Rattle.mp_solver.specs.Elimination.{replaced, term_count}
use Rattle.mp_solver.specs.Storage.Held.{entry_form, states_of, AreHeld}
use Rattle.mp_solver.specs.Storage.Solution.{Stays}
use Rattle.mp_solver.proofs.HeldLemmas.{form_at, AreHeld-replace, states-replace, cells-replace, spare_put, length-sum_terms, length-without, terms_put, lists_put, still_there}
use Rattle.mp_solver.proofs.ReplacementLemmas.{replaced_is, stays-terms, stays-constant, stays-coefficient, term_found}

module _ (pool mid : Pool) (entries : List (Option Entry)) (held : AreHeld pool entries) (states : States) (states_are : states_of pool entries ≡ states) (row : ℕ) (entry : Entry) (at : get_or entries row None ≡ Some entry) (serial : ℕ) (new : LinearForm)
    (fits : (p : LinearForm) → get_or states row None ≡ Some p → Stays serial new p) (c : ℤ) (found : Some c ≡ option_map (λ t. t.coefficient) (term_of serial (terms_in pool entry.list.slot)))
    (mid_is : mid ≡ with_list pool entry.list.slot (without serial (terms_in pool entry.list.slot))) (room : length new.terms ≤ spare pool) where
  abbrev p : LinearForm
  p = entry_form pool entry

  there : IsSome (list_in pool entry.list.slot)
  there = held.there row entry at

  here : get_or states row None ≡ Some p
  here = form_at pool entries states row entry states_are at

  stays : Stays serial new p
  stays = fits p here

  term : (t : Term) × (term_of serial p.terms ≡ Some t) × (t.coefficient ≡ c)
  term = term_found _ c found

  terms_mid : terms_in mid entry.list.slot ≡ without serial p.terms
  terms_mid = terms_put pool mid entry.list.slot (without serial p.terms) there mid_is

  pub one-small : unsigned_abs c < 2 ^ 44
  one-small = subst (λ z. unsigned_abs z < 2 ^ 44) term.2 (stays-coefficient serial new p term.0 term.1 stays.terms)

  abbrev sum : List Term
  sum = sum_terms (times_fraction c) (terms_in mid entry.list.slot) new.terms

  sum_is : sum_terms (times_fraction term.0.coefficient) (without serial p.terms) new.terms ≡ sum
  sum_is = ap (λ z. sum_terms (times_fraction z) (without serial p.terms) new.terms) term.2 ∙ ap (λ ts. sum_terms (times_fraction c) ts new.terms) (sym terms_mid)

  pub one-fits : ¬ HasTooLarge sum
  one-fits = subst (λ ts. ¬ HasTooLarge ts) sum_is (stays-terms serial new p term.0 term.1 stays)

  pub one-constant : unsigned_abs (entry.constant +ℤ times_fraction c new.constant) < 2 ^ 31
  one-constant = subst (λ z. unsigned_abs (entry.constant +ℤ times_fraction z new.constant) < 2 ^ 31) term.2 (stays-constant serial new p term.0 term.1 stays)

  pub one-spare : length new.terms ≤ spare mid
  one-spare = omega (arith, room, spare_put pool mid entry.list.slot (without serial p.terms) there mid_is (length-without serial p.terms))

  enough : length sum ≤ spare pool + length (terms_in pool entry.list.slot)
  enough =
      let long = length-sum_terms (times_fraction c) (terms_in mid entry.list.slot) new.terms in
      let less = length-without serial p.terms in
      let same = ap length terms_mid in
      omega (arith, long, less, same, room)

  module _ (z : ℤ) (z_is : z ≡ entry.constant +ℤ times_fraction c new.constant) (after : Pool) (after_is : after ≡ with_list mid entry.list.slot sum) where
    abbrev next : Entry
    next = record { constant = z; list = entry.list }

    becomes : Some (record { constant = z; terms = sum }) ≡ option_map (replaced serial new) (get_or states row None)
    becomes =
        ap (λ n. Some (record { constant = n; terms = sum })) z_is
        ∙ ap (λ n. Some (record { constant = entry.constant +ℤ times_fraction n new.constant; terms = sum })) (sym term.2)
        ∙ ap (λ ts. Some (record { constant = entry.constant +ℤ times_fraction term.0.coefficient new.constant; terms = ts })) (sym sum_is)
        ∙ ap (λ (q : LinearForm). Some q) (sym (replaced_is serial new p term.0 term.1))
        ∙ sym (ap (option_map (replaced serial new)) here)

    pub one-held : AreHeld after (set entries row (Some next))
    one-held = AreHeld-replace pool mid after entries held row entry next at refl (without serial p.terms) sum mid_is after_is enough

    pub one-states : states_of after (set entries row (Some next)) ≡ set states row (option_map (replaced serial new) (get_or states row None))
    one-states =
        states-replace pool mid after entries held row entry next at refl (without serial p.terms) sum mid_is after_is enough
        ∙ ap (λ (ss : States). set ss row (Some (record { constant = z; terms = sum }))) states_are
        ∙ ap (set states row) becomes

    pub one-cells : spare after + term_count (states_of after (set entries row (Some next))) ≡ spare pool + term_count (states_of pool entries)
    one-cells = cells-replace pool mid after entries held row entry next at refl (without serial p.terms) sum mid_is after_is enough

    pub one-lists : spare_lists after ≡ spare_lists pool
    one-lists = lists_put mid after entry.list.slot sum (still_there pool mid entry.list.slot (without serial p.terms) there mid_is) after_is ∙ lists_put pool mid entry.list.slot (without serial p.terms) there mid_is
