-- The replay of an exact list of events solves each equation in it.
use Rattle.std.proofs.Common.{◌≡◌, ◌≢◌, ℕ, ◌-◌, ◌≤◌, ℤ, pos, ◌+ℤ◌, ◌*ℤ◌, List, [], ◌∷◌, ◌++◌, Option, Some, None, Result, zero, suc, length, get_or, refl, sym, ap, ◌∙◌, subst, inl, inr, arith}
use Rattle.std.specs.List.{Contains}
use Rattle.std.proofs.lemmas.List.{length-append}
use Rattle.std.proofs.lemmas.List.Elements.{All-nil, All-weaker, Contains-push_cases}
use Rattle.mp_pool.specs.declared.Term.{Term}
use Rattle.mp_forms.specs.declared.fault.FormFault.{FormFault}
use Rattle.mp_pool.specs.Terms.{AreTerms, StayInOrder}
use Rattle.mp_forms.specs.Forms.{LinearForm}
use Rattle.mp_solver.specs.States.{States, form_of, with_fresh, IsOver}
use Rattle.mp_solver.specs.Reduction.{reduce_of}
use Rattle.mp_solver.specs.Elimination.{solved_for, solved_states, forms_in, eliminate}
use Rattle.mp_solver.specs.Ready.{IsResidual}
use Rattle.mp_solver.specs.Solved.{IsSolvedForm, IsSolved}
use Rattle.mp_solver.specs.Replay.{Event, Fresh, Equation, Unname, after, after_residual, replay}
use Rattle.mp_solver.specs.Exact.{IsExactEquation, IsExactEvent, IsExact, start, next, number_in, number_added, substituted, IsSatisfied}
use Rattle.mp_solver.proofs.StateLemmas.{forms_in-with_fresh, IsSolvedForm-with_fresh}
use Rattle.mp_solver.proofs.EliminationLemmas.{IsSolved-after, length_after, pivot_independent, slot_within}
use Rattle.mp_solver.proofs.StepLemmas.{holds-at, IsResidual-reduce_of}
use Rattle.mp_solver.proofs.OutcomeLemmas.{IsTaken, outcome}
use Rattle.mp_solver.proofs.ReplayLemmas.{replay-next}
use Rattle.mp_solver.proofs.ExactSumLemmas.{number}
use Rattle.mp_solver.proofs.ExactReductionLemmas.{IsFreePart, reduced_number, reduced_terms}
use Rattle.mp_solver.proofs.ExactEliminationLemmas.{get_or-set_same, still_free, stays_satisfied, becomes_satisfied}

-- an equation is satisfied where all its numbers come to 0
satisfied_by_parts : (states : States) (p : LinearForm) → ((part : Option ℕ) → IsFreePart states part → substituted (number part) states p ≡ pos 0) → IsSatisfied states p
satisfied_by_parts states p all = record { constant = all None tt; coefficients = λ u free. all (Some u) free }

part_is_zero : (states : States) (p : LinearForm) → IsSatisfied states p → (part : Option ℕ) → IsFreePart states part → substituted (number part) states p ≡ pos 0
part_is_zero states p satisfied None free = satisfied.constant
part_is_zero states p satisfied (Some u) free = satisfied.coefficients u free

-- one more unknown
form_of-more : (states : States) (i : ℕ) → get_or (states ++ None ∷ []) i None ≡ get_or states i None
form_of-more [] zero = refl
form_of-more [] (suc i) = refl
form_of-more (s ∷ ss) zero = refl
form_of-more (s ∷ ss) (suc i) = form_of-more ss i

number_added-more : (number : LinearForm → ℤ) (states : States) (ts : List Term) → number_added number (with_fresh states) ts ≡ number_added number states ts
number_added-more number states [] = refl
number_added-more number states (t ∷ ts) =
    ap (λ form. t.coefficient *ℤ number_in number form +ℤ number_added number (with_fresh states) ts) (form_of-more states (t.serial - 1))
    ∙ ap (λ n. t.coefficient *ℤ number_in number (form_of states t.serial) +ℤ n) (number_added-more number states ts)

free_before : (states : States) (part : Option ℕ) → IsFreePart (with_fresh states) part → IsFreePart states part
free_before states None free = tt
free_before states (Some u) free = sym (form_of-more states (u - 1)) ∙ free

IsSatisfied-more : (states : States) (p : LinearForm) → IsSatisfied states p → IsSatisfied (with_fresh states) p
IsSatisfied-more states p satisfied =
    satisfied_by_parts (with_fresh states) p
    (λ part free. ap (λ n. pos 268435456 *ℤ number part p +ℤ n) (number_added-more (number part) states p.terms) ∙ part_is_zero states p satisfied part (free_before states part free))

IsSolved-more : (states : States) → IsSolved states → IsSolved (with_fresh states)
IsSolved-more states solved = record {
  forms = rw (forms_in-with_fresh states) (All-weaker (IsSolvedForm states) (IsSolvedForm (with_fresh states)) (IsSolvedForm-with_fresh states) (forms_in states) solved.forms);
  few_terms = rw (forms_in-with_fresh states) solved.few_terms;
}

-- an equation of a list, after its replay
record IsKept (states : States) (p : LinearForm) : Type 0 where
  terms : AreTerms p.terms
  over : IsOver states p
  satisfied : IsSatisfied states p

record AreKept (events : List Event) (states : States) : Type 0 where
  solved : IsSolved states
  each : (p : LinearForm) → Contains events (Equation p) → IsKept states p

over_more : (states longer : States) (p : LinearForm) → length states ≤ length longer → IsOver states p → IsOver longer p
over_more states longer p le over = λ i d lt. let within = over i d lt in (within.0, omega (arith, within.1, le))

-- a list with one more event that is no equation
no_equation : (events : List Event) (event : Event) (states : States) → ((p : LinearForm) → event ≢ Equation p) → AreKept events states → AreKept (events ++ event ∷ []) states
no_equation events event states other kept = record {
  solved = kept.solved;
  each = λ p contains. elim (Contains-push_cases events event (Equation p) contains) [ inl before ↦ kept.each p before | inr same ↦ absurd (other p same) ];
}

AreKept-fresh : (events : List Event) (states : States) → AreKept events states → AreKept events (with_fresh states)
AreKept-fresh events states kept =
    let longer = length-append states (None ∷ []) in
    record {
      solved = IsSolved-more states kept.solved;
      each = λ p contains.
          let before = kept.each p contains in
          record { terms = before.terms; over = over_more states (with_fresh states) p (omega (arith, longer)) before.over; satisfied = IsSatisfied-more states p before.satisfied };
    }

abbrev difference_of : LinearForm → Event → LinearForm
difference_of d (Fresh name) = d
difference_of d (Equation difference) = difference
difference_of d (Unname serial) = d

module _ (order : StayInOrder) (events : List Event) (states : States) (kept : AreKept events states) (difference : LinearForm) (exact : IsExactEquation states difference) where
  abbrev residual : LinearForm
  residual = exact.residual

  is_residual : IsResidual states residual
  is_residual =
      IsResidual-reduce_of states kept.solved difference residual exact.over exact.reduced
      (reduced_terms order states kept.solved None difference residual tt exact.terms exact.sums exact.reduced)

  module _ (taken : IsTaken states residual (eliminate states residual).1) where
    abbrev pivot : Term
    pivot = taken.pivot

    abbrev new : LinearForm
    new = solved_for pivot residual

    abbrev solution : States
    solution = solved_states states pivot new

    solved_again : IsSolved solution
    solved_again =
        IsSolved-after states residual is_residual pivot taken.found order kept.solved
        (rw (sym taken.is) taken.coefficients) (rw (sym taken.is) taken.constants) (rw (sym taken.is) taken.few)

    new_terms : AreTerms new.terms
    new_terms =
        (holds-at (IsSolvedForm solution) solution (pivot.serial - 1) new solved_again.forms
        (get_or-set_same _ (pivot.serial - 1) (Some new) (slot_within states residual is_residual pivot taken.found))).terms

    same_length : length solution ≡ length states
    same_length = length_after states residual is_residual pivot taken.found

    pivot_free : IsFreePart states (Some pivot.serial)
    pivot_free = pivot_independent states residual is_residual pivot taken.found

    over_again : (p : LinearForm) → IsOver states p → IsOver solution p
    over_again p over = let same = same_length in over_more states solution p (omega (arith, same)) over

    kept_again : (p : LinearForm) → IsKept states p → IsKept solution p
    kept_again p before = record {
      terms = before.terms;
      over = over_again p before.over;
      satisfied = satisfied_by_parts solution p (λ part free.
          let both = still_free order states kept.solved residual is_residual pivot taken.found (exact.elimination pivot taken.found) new_terms part free in
          stays_satisfied order states kept.solved residual is_residual pivot taken.found (exact.elimination pivot taken.found) new_terms part both.1 p before.terms before.over
          (part_is_zero states p before.satisfied part both.0) (part_is_zero states p before.satisfied (Some pivot.serial) pivot_free));
    }

    kept_now : IsKept solution difference
    kept_now = record {
      terms = exact.terms;
      over = over_again difference exact.over;
      satisfied = satisfied_by_parts solution difference (λ part free.
          let both = still_free order states kept.solved residual is_residual pivot taken.found (exact.elimination pivot taken.found) new_terms part free in
          becomes_satisfied order states kept.solved residual is_residual pivot taken.found (exact.elimination pivot taken.found) new_terms part both.1 difference exact.terms exact.over
          (reduced_number order states kept.solved part difference residual both.0 exact.terms exact.sums exact.reduced)
          (reduced_number order states kept.solved (Some pivot.serial) difference residual pivot_free exact.terms exact.sums exact.reduced));
    }

    AreKept-solution : AreKept (events ++ Equation difference ∷ []) solution
    AreKept-solution = record {
      solved = solved_again;
      each = λ p contains. elim (Contains-push_cases events (Equation difference) (Equation p) contains) [
        | inl before ↦ kept_again p (kept.each p before)
        | inr same ↦ subst (IsKept solution) (ap (difference_of difference) same) kept_now
      ];
    }

    AreKept-taken : AreKept (events ++ Equation difference ∷ []) (eliminate states residual).1
    AreKept-taken = subst (AreKept (events ++ Equation difference ∷ [])) (sym taken.is) AreKept-solution

  AreKept-equation : AreKept (events ++ Equation difference ∷ []) (after_residual states (reduce_of states difference))
  AreKept-equation =
      subst (λ (r : Result LinearForm FormFault). AreKept (events ++ Equation difference ∷ []) (after_residual states r)) exact.reduced
      (elim (outcome states residual) [
        | inl refused ↦ absurd (refused.0 exact.accepted)
        | inr taken ↦ AreKept-taken taken.1
      ])

AreKept-event : (order : StayInOrder) (events : List Event) → AreKept events (replay events).states → (event : Event) → IsExactEvent (replay events) event →
    AreKept (events ++ event ∷ []) (after (replay events) event).states
AreKept-event order events kept (Fresh name) exact = no_equation events (Fresh name) (with_fresh (replay events).states) (λ p same. cc) (AreKept-fresh events (replay events).states kept)
AreKept-event order events kept (Equation difference) exact = AreKept-equation order events (replay events).states kept difference exact
AreKept-event order events kept (Unname serial) exact = no_equation events (Unname serial) (replay events).states (λ p same. cc) kept

no_events : (p : LinearForm) → Contains [] (Equation p) → IsKept [] p
no_events p contains = absurd (omega (arith, contains.1))

are_kept : (order : StayInOrder) {events : List Event} → IsExact events → AreKept events (replay events).states
are_kept order start = record { solved = record { forms = All-nil (IsSolvedForm []); few_terms = omega arith }; each = no_events }
are_kept order (next {events} exact event here) =
    subst (λ u. AreKept (events ++ event ∷ []) u.states) (sym (replay-next events event)) (AreKept-event order events (are_kept order exact) event here)

pub exact_lists : (order : StayInOrder) (events : List Event) (difference : LinearForm) → IsExact events → Contains events (Equation difference) → IsSatisfied (replay events).states difference
exact_lists order events difference exact contains = ((are_kept order exact).each difference contains).satisfied
