-- What a form is that was brought up to date exactly, number by number.
use Rattle.std.proofs.Common.{◌≡◌, ℕ, ◌-◌, ◌^◌, ℤ, pos, ◌+ℤ◌, ◌*ℤ◌, unsigned_abs, Bool, true, false, cond, ltb, List, [], ◌∷◌, Option, Some, None, Result, Ok, Err, get_or, refl, sym, ap, ◌∙◌, subst, arith}
use Rattle.std.proofs.Math.IntN.{*ℤ-zero, +ℤ_idr, +ℤ_assoc}
use Rattle.std.proofs.lemmas.Bool.{leb-false}
use Rattle.std.specs.List.{list_any, fold}
use Rattle.std.specs.Option.{is_none}
use Rattle.mp_pool.specs.declared.Term.{Term}
use Rattle.mp_forms.specs.declared.fault.FormFault.{FormFault}
use Rattle.mp_forms.specs.declared.fault.FormFault.TheVariants.{Overflow as ConstantOverflow, CoefficientTooLarge as TooLarge}
use Rattle.mp_pool.specs.Ratios.{times_fraction}
use Rattle.mp_pool.specs.Terms.{sum_terms, is_too_large, AreTerms, AreOrdered, StayInOrder}
use Rattle.mp_forms.specs.Forms.{LinearForm}
use Rattle.mp_solver.specs.States.{States, form_of}
use Rattle.mp_solver.specs.Reduction.{independent_part, with_form, with_term_of, reduce_of}
use Rattle.mp_solver.specs.Solved.{IsSolvedForm, IsSolved}
use Rattle.mp_solver.specs.Exact.{coefficient_in, IsExactWith, IsExactTerm, AreExactTerms, number_in, number_added, substituted}
use Rattle.mp_solver.proofs.ReductionLemmas.{AreTerms-filter}
use Rattle.mp_solver.proofs.EliminationLemmas.{all_fail}
use Rattle.mp_solver.proofs.StepLemmas.{holds-at}
use Rattle.mp_solver.proofs.CoefficientLemmas.{filter-kept}
use Rattle.mp_solver.proofs.ExactSumLemmas.{number, sum_number}

-- the constant, or the coefficient of an unknown that is not dependent
abbrev pub IsFreePart : States → Option ℕ → Type 0
IsFreePart states None = Unit {0}
IsFreePart states (Some u) = form_of states u ≡ None

-- the terms of independent unknowns have the coefficients of all
pub number-independent_part : (states : States) (p : LinearForm) (part : Option ℕ) → IsFreePart states part → number part (independent_part states p) ≡ number part p
number-independent_part states p None free = refl
number-independent_part states p (Some u) free =
    ap coefficient_in (filter-kept u (λ t. is_none (form_of states t.serial)) p.terms (λ t same. ap (λ s. is_none (form_of states s)) same ∙ ap is_none free))

module _ (order : StayInOrder) (states : States) (solved : IsSolved states) (part : Option ℕ) where
  -- a form with this number, times 2^28
  record IsSum (total : ℤ) (sum : LinearForm) : Type 0 where
    are : AreTerms sum.terms
    number_is : pos 268435456 *ℤ number part sum ≡ total

  abbrev OkSum : ℤ → Result LinearForm FormFault → Type 0
  OkSum total (Ok sum) = IsSum total sum
  OkSum total (Err fault) = Unit {0}

  sum_cond : (total constant : ℤ) (terms : List Term) → AreOrdered terms → pos 268435456 *ℤ number part (record { constant = constant; terms = terms }) ≡ total → (a b : Bool) →
      list_any is_too_large terms ≡ a → OkSum total (cond a (Err TooLarge) (cond b (Ok (record { constant = constant; terms = terms })) (Err ConstantOverflow)))
  sum_cond total constant terms ordered is true b e = tt
  sum_cond total constant terms ordered is false true e =
      let none_large = all_fail is_too_large terms e in
      record {
        are = record {
          serials = ordered.serials;
          coefficients = λ i d lt. (ordered.nonzero i d lt, omega (arith, leb-false (2 ^ 44) (unsigned_abs (get_or terms i d).coefficient) (none_large i d lt)));
        };
        number_is = is;
      }
  sum_cond total constant terms ordered is false false e = tt

  sum_with : (total : ℤ) (sum : LinearForm) (t : Term) (form : Option LinearForm) → form_of states t.serial ≡ form → IsSum total sum → IsExactWith sum t.coefficient form →
      OkSum (total +ℤ t.coefficient *ℤ number_in (number part) form) (with_form sum t.coefficient form)
  sum_with total sum t None is so_far exact =
      record { are = so_far.are; number_is = so_far.number_is ∙ sym (ap (λ n. total +ℤ n) (*ℤ-zero t.coefficient) ∙ +ℤ_idr total) }
  sum_with total sum t (Some form) is so_far exact =
      let f = t.coefficient in
      let right = (holds-at (IsSolvedForm states) states (t.serial - 1) form solved.forms is).terms in
      sum_cond (total +ℤ f *ℤ number part form) (sum.constant +ℤ times_fraction f form.constant) (sum_terms (times_fraction f) sum.terms form.terms)
      (order.sums (times_fraction f) sum.terms form.terms so_far.are right)
      (sum_number order f sum form so_far.are right exact part ∙ ap (λ n. n +ℤ f *ℤ number part form) so_far.number_is)
      _ (ltb (unsigned_abs (sum.constant +ℤ times_fraction f form.constant)) (2 ^ 31)) refl

  sum_step : (total : ℤ) (start : Result LinearForm FormFault) (t : Term) → OkSum total start → IsExactTerm states start t →
      OkSum (total +ℤ t.coefficient *ℤ number_in (number part) (form_of states t.serial)) (with_term_of states start t)
  sum_step total (Err fault) t so_far exact = tt
  sum_step total (Ok sum) t so_far exact = sum_with total sum t (form_of states t.serial) refl so_far exact

  sum_fold : (total : ℤ) (start : Result LinearForm FormFault) (ts : List Term) → OkSum total start → AreExactTerms states start ts →
      OkSum (total +ℤ number_added (number part) states ts) (fold (with_term_of states) start ts)
  sum_fold total start [] so_far exact = subst (λ n. OkSum n start) (sym (+ℤ_idr total)) so_far
  sum_fold total start (t ∷ ts) so_far exact =
      let added = t.coefficient *ℤ number_in (number part) (form_of states t.serial) in
      let next = with_term_of states start t in
      subst (λ n. OkSum n (fold (with_term_of states) next ts)) (+ℤ_assoc total added (number_added (number part) states ts))
      (sum_fold (total +ℤ added) next ts (sum_step total start t so_far exact.0) exact.1)

  module _ (p residual : LinearForm) (free : IsFreePart states part) (are : AreTerms p.terms)
      (exact : AreExactTerms states (Ok (independent_part states p)) p.terms) (is : Ok residual ≡ reduce_of states p) where
    reduced_sum : IsSum (substituted (number part) states p) residual
    reduced_sum =
        let start : IsSum (pos 268435456 *ℤ number part p) (independent_part states p) = record {
          are = AreTerms-filter (λ t. is_none (form_of states t.serial)) p.terms are;
          number_is = ap (λ n. pos 268435456 *ℤ n) (number-independent_part states p part free);
        } in
        subst (OkSum (substituted (number part) states p)) (sym is) (sum_fold (pos 268435456 *ℤ number part p) (Ok (independent_part states p)) p.terms start exact)

    -- each number of a form that was brought up to date, times 2^28, is what it was with the dependent unknowns replaced
    pub reduced_number : pos 268435456 *ℤ number part residual ≡ substituted (number part) states p
    reduced_number = reduced_sum.number_is

    pub reduced_terms : AreTerms residual.terms
    reduced_terms = reduced_sum.are
