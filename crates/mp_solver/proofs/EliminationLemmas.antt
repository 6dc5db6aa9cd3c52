-- What an accepted equation makes of a system: it is solved again.
use Rattle.std.proofs.Common.{◌≡◌, ◌≢◌, ℕ, ◌+◌, ◌-◌, ◌<◌, ◌≤◌, ◌^◌, unsigned_abs, Bool, true, false, ◌||◌, cond, eqb, List, [], ◌∷◌, Option, Some, None, zero, suc, map, length, get_or, set, refl, ap, ◌∙◌, arith, length-set}
use Rattle.std.specs.List.{All, list_any}
use Rattle.std.specs.Option.{option_map}
use Rattle.std.proofs.lemmas.Bool.{leb-false, eq-eqb}
use Rattle.std.proofs.lemmas.List.{length-map, get_or-set_other}
use Rattle.std.proofs.lemmas.List.Sums.{sum_by-cons}
use Rattle.std.proofs.lemmas.List.Elements.{All-nil, All-cons, All-head, All-tail, All-weaker, All-filter, All-map}
use Rattle.mp_pool.specs.declared.Term.{Term}
use Rattle.mp_pool.specs.Terms.{AreTerms, AreOrdered, StayInOrder, is_too_large, IsCoefficient}
use Rattle.mp_pool.specs.Ratios.{times_fraction}
use Rattle.mp_forms.specs.Forms.{LinearForm}
use Rattle.mp_solver.specs.States.{States, form_of, IsSerial}
use Rattle.mp_solver.specs.Elimination.{pivot_of, without, term_of, over_negative, solved_for, replaced, replaced_term, solved_states, forms_in, has_large_coefficient, has_large_constant, term_count}
use Rattle.mp_solver.specs.Ready.{IsResidual}
use Rattle.mp_solver.specs.Solved.{IsSolvedForm, IsSolved}
use Rattle.mp_solver.proofs.ReductionLemmas.{AreTerms-filter}
use Rattle.mp_solver.proofs.TermLists.{Each, Each-sum_terms, Each-changed_terms, Each-without, holds-pivot_of, greatest-pivot_of, AreTerms-over_negative, small-over_negative}

or_swap : (a b c : Bool) → (a || (b || c)) ≡ (b || (a || c))
or_swap true true c = refl
or_swap true false c = refl
or_swap false true c = refl
or_swap false false c = refl

-- one more form, where there was none
pub list_any-set : (p : LinearForm → Bool) (states : States) (k : ℕ) (new : LinearForm) → k < length states → get_or states k None ≡ None →
    list_any p (forms_in (set states k (Some new))) ≡ (p new || list_any p (forms_in states))
list_any-set p [] k new within none = absurd (omega (arith, within))
list_any-set p (None ∷ ss) zero new within none = refl
list_any-set p (Some form ∷ ss) zero new within none = absurd cc
list_any-set p (None ∷ ss) (suc k) new within none = list_any-set p ss k new (omega (arith, within)) none
list_any-set p (Some form ∷ ss) (suc k) new within none =
    ap (λ b. p form || b) (list_any-set p ss k new (omega (arith, within)) none) ∙ or_swap (p form) (p new) (list_any p (forms_in ss))

pub term_count-set : (states : States) (k : ℕ) (new : LinearForm) → k < length states → get_or states k None ≡ None →
    term_count (set states k (Some new)) ≡ length new.terms + term_count states
term_count-set [] k new within none = absurd (omega (arith, within))
term_count-set (None ∷ ss) zero new within none = sum_by-cons (λ p. length p.terms) new (forms_in ss)
term_count-set (Some form ∷ ss) zero new within none = absurd cc
term_count-set (None ∷ ss) (suc k) new within none = term_count-set ss k new (omega (arith, within)) none
term_count-set (Some form ∷ ss) (suc k) new within none =
    let first = sum_by-cons (λ p. length p.terms) form (forms_in ss) in
    let first' = sum_by-cons (λ p. length p.terms) form (forms_in (set ss k (Some new))) in
    let rest = term_count-set ss k new (omega (arith, within)) none in
    omega (arith, first, first', rest)

length-set-forms_in : (states : States) (k : ℕ) (new : LinearForm) → k < length states → get_or states k None ≡ None →
    length (forms_in (set states k (Some new))) ≡ length (forms_in states) + 1
length-set-forms_in [] k new within none = absurd (omega (arith, within))
length-set-forms_in (None ∷ ss) zero new within none = omega arith
length-set-forms_in (Some form ∷ ss) zero new within none = absurd cc
length-set-forms_in (None ∷ ss) (suc k) new within none = length-set-forms_in ss k new (omega (arith, within)) none
length-set-forms_in (Some form ∷ ss) (suc k) new within none = omega (arith, length-set-forms_in ss k new (omega (arith, within)) none)

All-set-forms_in : (P : LinearForm → Type 0) (states : States) (k : ℕ) (new : LinearForm) → P new → All P (forms_in states) → All P (forms_in (set states k (Some new)))
All-set-forms_in P [] k new p some = some
All-set-forms_in P (None ∷ ss) zero new p some = All-cons P new (forms_in ss) p some
All-set-forms_in P (Some form ∷ ss) zero new p some = All-cons P new (forms_in ss) p (All-tail P form (forms_in ss) some)
All-set-forms_in P (None ∷ ss) (suc k) new p some = All-set-forms_in P ss k new p some
All-set-forms_in P (Some form ∷ ss) (suc k) new p some =
    All-cons P form (forms_in (set ss k (Some new))) (All-head P form (forms_in ss) some) (All-set-forms_in P ss k new p (All-tail P form (forms_in ss) some))

pub forms_in-map : (f : LinearForm → LinearForm) (states : States) → forms_in (map (option_map f) states) ≡ map f (forms_in states)
forms_in-map f [] = refl
forms_in-map f (None ∷ ss) = forms_in-map f ss
forms_in-map f (Some form ∷ ss) = ap (λ forms. f form ∷ forms) (forms_in-map f ss)

-- an independent unknown stays one, where its form is not the new one
get_or-map_none : (f : LinearForm → LinearForm) (states : States) (i : ℕ) → get_or states i None ≡ None → get_or (map (option_map f) states) i None ≡ None
get_or-map_none f [] i none = refl
get_or-map_none f (s ∷ ss) zero none = ap (option_map f) none
get_or-map_none f (s ∷ ss) (suc i) none = get_or-map_none f ss i none

or_false : (a b : Bool) → (a || b) ≡ false → (a ≡ false) × (b ≡ false)
or_false true b e = absurd cc
or_false false b e = (refl, e)

-- no item passes a test
pub all_fail : {X : Type 0} (p : X → Bool) (xs : List X) → list_any p xs ≡ false → All (λ x. p x ≡ false) xs
all_fail p [] e = All-nil (λ x. p x ≡ false)
all_fail p (x ∷ xs) e = let both = or_false (p x) (list_any p xs) e in All-cons (λ x. p x ≡ false) x xs both.0 (all_fail p xs both.1)

absent_cond : (serial : ℕ) (t : Term) (rest : Option Term) (b : Bool) → eqb t.serial serial ≡ b → cond b (Some t) rest ≡ None → (t.serial ≢ serial) × (rest ≡ None)
absent_cond serial t rest true e none = absurd cc
absent_cond serial t rest false e none = (λ same. let other = eq-eqb t.serial serial same in absurd cc, none)

-- an unknown without a term does not occur
pub absent : (serial : ℕ) (ts : List Term) → term_of serial ts ≡ None → Each (λ s. s ≢ serial) ts
absent serial [] none = All-nil (λ t. t.serial ≢ serial)
absent serial (t ∷ ts) none =
    let both = absent_cond serial t (term_of serial ts) (eqb t.serial serial) refl none in
    All-cons (λ t. t.serial ≢ serial) t ts both.0 (absent serial ts both.1)

module _ (states : States) (residual : LinearForm) (is : IsResidual states residual) (pivot : Term) (found : pivot_of residual.terms ≡ Some pivot) where
  -- an independent unknown that is not the pivot
  record IsFree (s : ℕ) : Type 0 where
    within : IsSerial states s
    independent : form_of states s ≡ None
    other : s ≢ pivot.serial

  abbrev new : LinearForm
  new = solved_for pivot residual

  abbrev mapped : States
  mapped = map (option_map (replaced pivot.serial new)) states

  abbrev after : States
  after = solved_states states pivot new

  pub pivot_within : IsSerial states pivot.serial
  pivot_within = holds-pivot_of (λ t. IsSerial states t.serial) residual.terms pivot found is.over

  pub pivot_independent : form_of states pivot.serial ≡ None
  pivot_independent = holds-pivot_of (λ t. form_of states t.serial ≡ None) residual.terms pivot found is.reduced

  pub pivot_coefficient : IsCoefficient pivot.coefficient
  pivot_coefficient = holds-pivot_of (λ t. IsCoefficient t.coefficient) residual.terms pivot found is.terms.coefficients

  free : (ts : List Term) → All (λ t. IsSerial states t.serial) ts → All (λ t. form_of states t.serial ≡ None) ts → Each (λ s. s ≢ pivot.serial) ts → Each IsFree ts
  free ts over reduced others = λ i d lt. record { within = over i d lt; independent = reduced i d lt; other = others i d lt }

  free_without : (ts : List Term) → All (λ t. IsSerial states t.serial) ts → All (λ t. form_of states t.serial ≡ None) ts → Each IsFree (without pivot.serial ts)
  free_without ts over reduced =
      free (without pivot.serial ts) (All-filter _ (λ t. IsSerial states t.serial) ts over) (All-filter _ (λ t. form_of states t.serial ≡ None) ts reduced) (Each-without pivot.serial ts)

  -- the new form, and those in which it replaces the pivot
  record IsGood (p : LinearForm) : Type 0 where
    ordered : AreOrdered p.terms
    frees : Each IsFree p.terms

  others_below : All (λ t. unsigned_abs t.coefficient ≤ unsigned_abs pivot.coefficient) (without pivot.serial residual.terms)
  others_below = All-filter _ (λ t. unsigned_abs t.coefficient ≤ unsigned_abs pivot.coefficient) residual.terms (greatest-pivot_of residual.terms pivot found)

  pub new_small : All (λ t. unsigned_abs t.coefficient < 2 ^ 44) new.terms
  new_small = small-over_negative pivot.coefficient (without pivot.serial residual.terms) pivot_coefficient.0 others_below

  pub new_terms : StayInOrder → AreTerms new.terms
  new_terms order =
      AreTerms-over_negative order pivot.coefficient (without pivot.serial residual.terms) pivot_coefficient.0
      others_below
      (AreTerms-filter _ residual.terms is.terms)

  ordered_of : (ts : List Term) → AreTerms ts → AreOrdered ts
  ordered_of ts are = record { serials = are.serials; nonzero = λ i d lt. (are.coefficients i d lt).0 }

  good_new : StayInOrder → IsGood new
  good_new order = record {
    ordered = ordered_of new.terms (new_terms order);
    frees = Each-changed_terms IsFree (over_negative pivot.coefficient) (without pivot.serial residual.terms) (free_without residual.terms is.over is.reduced);
  }

  good_term : (order : StayInOrder) (p : LinearForm) → IsSolvedForm states p → (t : Option Term) → term_of pivot.serial p.terms ≡ t → IsGood (replaced_term pivot.serial new p t)
  good_term order p solved None none = record {
    ordered = ordered_of p.terms solved.terms;
    frees = free p.terms solved.over solved.reduced (absent pivot.serial p.terms none);
  }
  good_term order p solved (Some t) some = record {
    ordered = order.sums (times_fraction t.coefficient) (without pivot.serial p.terms) new.terms (AreTerms-filter _ p.terms solved.terms) (new_terms order);
    frees = Each-sum_terms IsFree (times_fraction t.coefficient) (without pivot.serial p.terms) new.terms (free_without p.terms solved.over solved.reduced) (good_new order).frees;
  }

  good_replaced : (order : StayInOrder) (p : LinearForm) → IsSolvedForm states p → IsGood (replaced pivot.serial new p)
  good_replaced order p solved = good_term order p solved (term_of pivot.serial p.terms) refl

  good_after : StayInOrder → All (IsSolvedForm states) (forms_in states) → All IsGood (forms_in after)
  good_after order solved =
      All-set-forms_in IsGood mapped (pivot.serial - 1) new (good_new order)
      (rw (forms_in-map (replaced pivot.serial new) states)
      (All-map IsGood (replaced pivot.serial new) (forms_in states) (All-weaker (IsSolvedForm states) (λ p. IsGood (replaced pivot.serial new p)) (good_replaced order) (forms_in states) solved)))

  pub length_after : length after ≡ length states
  length_after = length-set mapped (pivot.serial - 1) (Some new) ∙ length-map states (option_map (replaced pivot.serial new))

  pub slot_within : pivot.serial - 1 < length mapped
  slot_within = let same = length-map states (option_map (replaced pivot.serial new)) in omega (arith, pivot_within.0, pivot_within.1, same)

  pub slot_empty : get_or mapped (pivot.serial - 1) None ≡ None
  slot_empty = get_or-map_none (replaced pivot.serial new) states (pivot.serial - 1) pivot_independent

  still_independent : (s : ℕ) → IsFree s → form_of after s ≡ None
  still_independent s is_free =
      get_or-set_other mapped (pivot.serial - 1) (s - 1) (Some new) None (λ same. is_free.other (omega (arith, same, is_free.within.0, pivot_within.0)))
      ∙ get_or-map_none (replaced pivot.serial new) states (s - 1) is_free.independent

  solved_form : (p : LinearForm) → IsGood p → has_large_coefficient p ≡ false → has_large_constant p ≡ false → IsSolvedForm after p
  solved_form p good coefficients constant =
      let none_large = all_fail is_too_large p.terms coefficients in
      let same = length_after in
      record {
        terms = record {
          serials = good.ordered.serials;
          coefficients = λ i d lt. (good.ordered.nonzero i d lt, omega (arith, leb-false (2 ^ 44) (unsigned_abs (get_or p.terms i d).coefficient) (none_large i d lt)));
        };
        constant = omega (arith, leb-false (2 ^ 31) (unsigned_abs p.constant) constant);
        over = λ i d lt. let within = (good.frees i d lt).within in (within.0, omega (arith, within.1, same));
        reduced = λ i d lt. still_independent (get_or p.terms i d).serial (good.frees i d lt);
      }

  -- the states after an equation are solved, where they are within the limits
  pub IsSolved-after : StayInOrder → IsSolved states → list_any has_large_coefficient (forms_in after) ≡ false → list_any has_large_constant (forms_in after) ≡ false → term_count after ≤ 4000000 → IsSolved after
  IsSolved-after order solved coefficients constants few =
      let good = good_after order solved.forms in
      let small = all_fail has_large_coefficient (forms_in after) coefficients in
      let small' = all_fail has_large_constant (forms_in after) constants in
      record {
        forms = λ i d lt. solved_form (get_or (forms_in after) i d) (good i d lt) (small i d lt) (small' i d lt);
        few_terms = few;
      }

  pub length-forms_in_after : length (forms_in after) ≡ length (forms_in states) + 1
  length-forms_in_after =
      length-set-forms_in mapped (pivot.serial - 1) new slot_within slot_empty
      ∙ ap (λ n. n + 1) (ap length (forms_in-map (replaced pivot.serial new) states) ∙ length-map (forms_in states) (replaced pivot.serial new))
