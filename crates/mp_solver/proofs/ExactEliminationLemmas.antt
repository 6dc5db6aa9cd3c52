-- What an exact elimination leaves of equations, number by number.
use Rattle.std.proofs.Common.{◌≡◌, ◌≢◌, ℕ, ◌-◌, ◌<◌, ◌^◌, ℤ, pos, ◌+ℤ◌, ◌*ℤ◌, List, [], ◌∷◌, Option, Some, None, zero, suc, map, length, get_or, set, refl, sym, ap, ◌∙◌, arith, inl, inr}
use Rattle.std.proofs.Math.IntN.{zero-*ℤ, *ℤ-zero, +ℤ_idr}
use Rattle.std.proofs.lemmas.Int.{ints}
use Rattle.std.proofs.lemmas.List.{get_or-set_other}
use Rattle.std.proofs.lemmas.List.Elements.{All-head, All-tail}
use Rattle.std.specs.List.{All}
use Rattle.std.specs.Option.{option_map}
use Rattle.mp_pool.specs.declared.Term.{Term}
use Rattle.mp_pool.specs.Terms.{SerialsDecrease, AreTerms, StayInOrder}
use Rattle.mp_forms.specs.Forms.{LinearForm}
use Rattle.mp_solver.specs.States.{States, form_of, IsSerial, IsOver}
use Rattle.mp_solver.specs.Elimination.{pivot_of, solved_for, replaced, solved_states}
use Rattle.mp_solver.specs.Ready.{IsResidual}
use Rattle.mp_solver.specs.Solved.{IsSolvedForm, IsSolved}
use Rattle.mp_solver.specs.Exact.{coefficient_in, coefficient_of, IsExactReplacement, IsExactElimination, number_in, number_added, substituted}
use Rattle.mp_solver.proofs.EliminationLemmas.{pivot_within, pivot_independent, pivot_coefficient, slot_within}
use Rattle.mp_solver.proofs.StepLemmas.{holds-at}
use Rattle.mp_solver.proofs.WholeNumberLemmas.{times_sum, sum_times, times_assoc, times_swap}
use Rattle.mp_solver.proofs.CoefficientLemmas.{cases_equal, first_is, first_other, absent_below, pivot_own}
use Rattle.mp_solver.proofs.ExactSumLemmas.{number, IsOther, solved_number, replaced_number}
use Rattle.mp_solver.proofs.ExactReductionLemmas.{IsFreePart}

get_or-map : (f : LinearForm → LinearForm) (states : States) (i : ℕ) → get_or (map (option_map f) states) i None ≡ option_map f (get_or states i None)
get_or-map f [] i = refl
get_or-map f (s ∷ ss) zero = refl
get_or-map f (s ∷ ss) (suc i) = get_or-map f ss i

pub get_or-set_same : (states : States) (i : ℕ) (new : Option LinearForm) → i < length states → get_or (set states i new) i None ≡ new
get_or-set_same [] i new within = absurd (omega (arith, within))
get_or-set_same (s ∷ ss) zero new within = refl
get_or-set_same (s ∷ ss) (suc i) new within = get_or-set_same ss i new (omega (arith, within))

none_of : (f : LinearForm → LinearForm) (form : Option LinearForm) → option_map f form ≡ None → form ≡ None
none_of f None none = refl
none_of f (Some p) none = absurd cc

-- one more term, of another unknown than the pivot and of the pivot
more_other : (c x' x w n rest' rest added own : ℤ) → pos 268435456 *ℤ x' ≡ pos 268435456 *ℤ x +ℤ w *ℤ n →
    pos 268435456 *ℤ rest' ≡ pos 268435456 *ℤ rest +ℤ (added +ℤ pos 268435456 *ℤ own) *ℤ n →
    pos 268435456 *ℤ (c *ℤ x' +ℤ rest') ≡ pos 268435456 *ℤ (c *ℤ x +ℤ rest) +ℤ (c *ℤ w +ℤ added +ℤ pos 268435456 *ℤ own) *ℤ n
more_other c x' x w n rest' rest added own first others =
    let times : c *ℤ (pos 268435456 *ℤ x') ≡ c *ℤ (pos 268435456 *ℤ x +ℤ w *ℤ n) = ap (λ z. c *ℤ z) first in
    let a = times_swap c (pos 268435456) x' in
    let b = times_sum (pos 268435456 *ℤ x) (w *ℤ n) c in
    let d = times_swap c (pos 268435456) x in
    let e = sum_times (c *ℤ w +ℤ added) (pos 268435456 *ℤ own) n in
    let f = sum_times (c *ℤ w) added n in
    let g = times_assoc c w n in
    let h = sum_times added (pos 268435456 *ℤ own) n in
    omega (arith, ints, times, others, a, b, d, e, f, g, h)

more_pivot : (c n rest' rest added : ℤ) → pos 268435456 *ℤ rest' ≡ pos 268435456 *ℤ rest +ℤ (added +ℤ pos 268435456 *ℤ pos 0) *ℤ n →
    pos 268435456 *ℤ (c *ℤ n +ℤ rest') ≡ pos 268435456 *ℤ (c *ℤ pos 0 +ℤ rest) +ℤ (c *ℤ pos 0 +ℤ added +ℤ pos 268435456 *ℤ c) *ℤ n
more_pivot c n rest' rest added others =
    let a = sum_times (c *ℤ pos 0 +ℤ added) (pos 268435456 *ℤ c) n in
    let b = sum_times (c *ℤ pos 0) added n in
    let d : c *ℤ pos 0 *ℤ n ≡ pos 0 = ap (λ z. z *ℤ n) (*ℤ-zero c) ∙ zero-*ℤ n in
    let e = times_assoc (pos 268435456) c n in
    let f : (added +ℤ pos 268435456 *ℤ pos 0) *ℤ n ≡ added *ℤ n = ap (λ z. z *ℤ n) (+ℤ_idr added) in
    omega (arith, ints, others, a, b, d, e, f)

whole_form : (k own n rest' rest added : ℤ) → pos 268435456 *ℤ rest' ≡ pos 268435456 *ℤ rest +ℤ (added +ℤ pos 268435456 *ℤ own) *ℤ n →
    pos 268435456 *ℤ (pos 268435456 *ℤ k +ℤ rest') ≡ pos 268435456 *ℤ (pos 268435456 *ℤ k +ℤ rest) +ℤ (pos 268435456 *ℤ own +ℤ added) *ℤ n
whole_form k own n rest' rest added others =
    let a = sum_times added (pos 268435456 *ℤ own) n in
    let b = sum_times (pos 268435456 *ℤ own) added n in
    omega (arith, ints, others, a, b)

-- what was 0 stays 0
stays_zero : (x' x w n : ℤ) → pos 268435456 *ℤ x' ≡ pos 268435456 *ℤ x +ℤ w *ℤ n → x ≡ pos 0 → w ≡ pos 0 → x' ≡ pos 0
stays_zero x' x w n is none none' =
    let plain : pos 268435456 *ℤ x' ≡ pos 268435456 *ℤ pos 0 +ℤ pos 0 *ℤ n = is ∙ ap (λ z. pos 268435456 *ℤ z +ℤ w *ℤ n) none ∙ ap (λ z. pos 268435456 *ℤ pos 0 +ℤ z *ℤ n) none' in
    omega (arith, ints, plain)

-- and what the pivot was solved for becomes 0
becomes_zero : (x' x w n v r : ℤ) → pos 268435456 *ℤ x' ≡ pos 268435456 *ℤ x +ℤ w *ℤ n → pos 268435456 *ℤ r ≡ x → pos 268435456 *ℤ v ≡ w → v *ℤ n +ℤ pos 268435456 *ℤ r ≡ pos 0 → x' ≡ pos 0
becomes_zero x' x w n v r is number_is pivot_is cancel =
    let plain : pos 268435456 *ℤ x' ≡ pos 268435456 *ℤ (pos 268435456 *ℤ r) +ℤ pos 268435456 *ℤ v *ℤ n =
    is ∙ ap (λ z. pos 268435456 *ℤ z +ℤ w *ℤ n) (sym number_is) ∙ ap (λ z. pos 268435456 *ℤ (pos 268435456 *ℤ r) +ℤ z *ℤ n) (sym pivot_is) in
    let a = times_assoc (pos 268435456) v n in
    omega (arith, ints, plain, cancel, a)

module _ (order : StayInOrder) (states : States) (solved : IsSolved states) (residual : LinearForm) (is : IsResidual states residual) (pivot : Term) (found : pivot_of residual.terms ≡ Some pivot)
    (exact : IsExactElimination states residual pivot) (new_terms : AreTerms (solved_for pivot residual).terms) where
  abbrev s : ℕ
  s = pivot.serial

  abbrev new : LinearForm
  new = solved_for pivot residual

  abbrev after : States
  after = solved_states states pivot new

  pivot_serial : IsSerial states s
  pivot_serial = pivot_within states residual is pivot found

  -- the pivot has its new form, and in each other form this replaces it
  at_slot : (k : ℕ) → k - 1 ≡ s - 1 → form_of after k ≡ Some new
  at_slot k same =
      ap (λ i. get_or after i None) same
      ∙ get_or-set_same (map (option_map (replaced s new)) states) (s - 1) (Some new) (slot_within states residual is pivot found)

  at_others : (k : ℕ) → k - 1 ≢ s - 1 → form_of after k ≡ option_map (replaced s new) (form_of states k)
  at_others k other =
      get_or-set_other (map (option_map (replaced s new)) states) (s - 1) (k - 1) (Some new) None other ∙ get_or-map (replaced s new) states (k - 1)

  -- what is not dependent afterwards was not before, and is not the pivot
  pub still_free : (part : Option ℕ) → IsFreePart after part → IsFreePart states part × IsOther s part
  still_free None free = (tt, tt)
  still_free (Some u) free =
      elim (cases_equal (u - 1) (s - 1)) [
        | inl same ↦ absurd (let some = sym (at_slot u same) ∙ free in cc)
        | inr other ↦ (none_of (replaced s new) (form_of states u) (sym (at_others u other) ∙ free), λ same. other (ap (λ k. k - 1) same))
      ]

  module _ (part : Option ℕ) (other : IsOther s part) where
    abbrev IsExchanged : Option LinearForm → Type 0
    IsExchanged form =
        pos 268435456 *ℤ number_in (number part) (option_map (replaced s new) form) ≡ pos 268435456 *ℤ number_in (number part) form +ℤ number_in (number (Some s)) form *ℤ number part new

    exchanged_by : (k : ℕ) (form : Option LinearForm) → form_of states k ≡ form → IsExchanged form
    exchanged_by k None at = ap (λ n. pos 268435456 *ℤ pos 0 +ℤ n) (sym (zero-*ℤ (number part new)))
    exchanged_by k (Some p) at =
        replaced_number order s new p (holds-at (IsSolvedForm states) states (k - 1) p solved.forms at).terms new_terms
        (holds-at (IsExactReplacement s new) states (k - 1) p exact.replacements at) part other

    exchanged : (k : ℕ) → IsSerial states k → k ≢ s →
        pos 268435456 *ℤ number_in (number part) (form_of after k) ≡ pos 268435456 *ℤ number_in (number part) (form_of states k) +ℤ number_in (number (Some s)) (form_of states k) *ℤ number part new
    exchanged k within differ = rw (at_others k (λ same. differ (omega (arith, same, within.0, pivot_serial.0)))) (exchanged_by k (form_of states k) refl)

    abbrev AreExchanged : List Term → Type 0
    AreExchanged ts =
        pos 268435456 *ℤ number_added (number part) after ts
        ≡ pos 268435456 *ℤ number_added (number part) states ts +ℤ (number_added (number (Some s)) states ts +ℤ pos 268435456 *ℤ coefficient_of s ts) *ℤ number part new

    exchanged_pivot : (t : Term) (ts : List Term) → t.serial ≡ s → coefficient_of s ts ≡ pos 0 → AreExchanged ts → AreExchanged (t ∷ ts)
    exchanged_pivot t ts same none others =
        let before : form_of states t.serial ≡ None = ap (form_of states) same ∙ pivot_independent states residual is pivot found in
        rw (first_is s t ts same, at_slot t.serial (ap (λ k. k - 1) same), before)
        (more_pivot t.coefficient (number part new) (number_added (number part) after ts) (number_added (number part) states ts) (number_added (number (Some s)) states ts) (rw none at others))

    exchanged_terms : (bound : ℕ) (ts : List Term) → SerialsDecrease bound ts → All (λ t. IsSerial states t.serial) ts → AreExchanged ts
    exchanged_terms bound [] below over = sym (ap (λ n. pos 268435456 *ℤ pos 0 +ℤ n) (zero-*ℤ (number part new)))
    exchanged_terms bound (t ∷ ts) below over =
        let rest = exchanged_terms t.serial ts below.1 (All-tail (λ t. IsSerial states t.serial) t ts over) in
        elim (cases_equal t.serial s) [
          | inl same ↦ exchanged_pivot t ts same (ap coefficient_in (absent_below s t.serial ts below.1 (omega (arith, same)))) rest
          | inr differ ↦
              rw (first_other s t ts differ)
              (more_other t.coefficient
              (number_in (number part) (form_of after t.serial)) (number_in (number part) (form_of states t.serial)) (number_in (number (Some s)) (form_of states t.serial)) (number part new)
              (number_added (number part) after ts) (number_added (number part) states ts) (number_added (number (Some s)) states ts) (coefficient_of s ts)
              (exchanged t.serial (All-head (λ t. IsSerial states t.serial) t ts over) differ) rest)
        ]

    -- each number of an equation changes by its number of the pivot times that of the new form
    substituted_after : (p : LinearForm) → AreTerms p.terms → IsOver states p →
        pos 268435456 *ℤ substituted (number part) after p ≡ pos 268435456 *ℤ substituted (number part) states p +ℤ substituted (number (Some s)) states p *ℤ number part new
    substituted_after p are over =
        whole_form (number part p) (coefficient_of s p.terms) (number part new)
        (number_added (number part) after p.terms) (number_added (number part) states p.terms) (number_added (number (Some s)) states p.terms)
        (exchanged_terms (2 ^ 32) p.terms are.serials over)

    -- an equation that was satisfied is so still
    pub stays_satisfied : (p : LinearForm) → AreTerms p.terms → IsOver states p →
        substituted (number part) states p ≡ pos 0 → substituted (number (Some s)) states p ≡ pos 0 → substituted (number part) after p ≡ pos 0
    stays_satisfied p are over none none' =
        stays_zero (substituted (number part) after p) (substituted (number part) states p) (substituted (number (Some s)) states p) (number part new) (substituted_after p are over) none none'

    -- and the one that was solved is satisfied
    pub becomes_satisfied : (p : LinearForm) → AreTerms p.terms → IsOver states p → pos 268435456 *ℤ number part residual ≡ substituted (number part) states p →
        pos 268435456 *ℤ number (Some s) residual ≡ substituted (number (Some s)) states p → substituted (number part) after p ≡ pos 0
    becomes_satisfied p are over number_is pivot_is =
        becomes_zero (substituted (number part) after p) (substituted (number part) states p) (substituted (number (Some s)) states p) (number part new) pivot.coefficient (number part residual)
        (substituted_after p are over) number_is
        (ap (λ n. pos 268435456 *ℤ n) (sym (pivot_own residual.terms pivot is.terms found)) ∙ pivot_is)
        (solved_number pivot residual (pivot_coefficient states residual is pivot found).0 is.terms exact.solution part other)
