-- A system is the replay of its events.
use Rattle.std.proofs.Common.{◌≡◌, ◌≢◌, ℕ, ◌+◌, ◌-◌, ◌<◌, ◌≤◌, ◌^◌, ℤ, ◌+ℤ◌, unsigned_abs, Bool, true, false, cond, ltb, List, [], ◌∷◌, ◌++◌, Option, Some, None, Result, Ok, Err, map, length, length-set, get_or, refl, sym, ap, ◌∙◌, subst, inl, inr, arith}
use Rattle.std.specs.List.{list_any, fold}
use Rattle.std.specs.Option.{is_none, option_map}
use Rattle.std.proofs.lemmas.Bool.{leb-false, ltb-true}
use Rattle.std.proofs.lemmas.List.{append-nil, length-append, length-map}
use Rattle.std.proofs.lemmas.List.Sums.{fold-append, sum_by-append, sum_by-cons}
use Rattle.std.proofs.lemmas.List.Elements.{All-nil, All-weaker}
use Rattle.mp_pool.specs.declared.Term.{Term}
use Rattle.mp_forms.specs.declared.fault.FormFault.{FormFault}
use Rattle.mp_forms.specs.declared.fault.FormFault.TheVariants.{Overflow as ConstantOverflow, CoefficientTooLarge as TooLarge}
use Rattle.mp_pool.specs.Ratios.{times_fraction}
use Rattle.mp_pool.specs.Terms.{sum_terms, is_too_large, AreTerms, AreOrdered, StayInOrder}
use Rattle.mp_forms.specs.Forms.{LinearForm, sum_of}
use Rattle.mp_solver.specs.declared.fresh.Fresh.{Fresh as FreshAnswer}
use Rattle.mp_solver.specs.declared.fresh.Fresh.TheVariants.{Made, Limit as NoRoom}
use Rattle.mp_solver.specs.declared.equated.Equated.{Equated}
use Rattle.mp_solver.specs.declared.equated.Equated.TheVariants.{Accepted, Redundant, Inconsistent, CoefficientTooLarge, Overflow, Limit}
use Rattle.mp_solver.specs.declared.limits.TheConstants.{UNKNOWN_LIMIT}
use Rattle.mp_solver.specs.States.{States, Unknowns, form_of, with_fresh, with_unknown, unnamed, IsOver}
use Rattle.mp_solver.specs.Reduction.{independent_part, with_form, with_term_of, reduce_of}
use Rattle.mp_solver.specs.Elimination.{pivot_of, solved_for, replaced, solved_states, forms_in, eliminate, eliminate_by}
use Rattle.mp_solver.specs.Ready.{IsResidual}
use Rattle.mp_solver.specs.Solved.{IsSolvedForm, IsSolved}
use Rattle.mp_solver.specs.Replay.{Event, Fresh, Equation, Unname, after, after_residual, replay, is_fresh, is_equation, unknowns_made, equations_accepted, fresh_event, equation_event, IsMadeBy, new, fresh, unname, equate}
use Rattle.mp_solver.proofs.StateLemmas.{forms_in-with_fresh, IsSolvedForm-with_fresh}
use Rattle.mp_solver.proofs.ReductionLemmas.{AreTerms-filter}
use Rattle.mp_solver.proofs.EliminationLemmas.{IsSolved-after, length_after, length-forms_in_after, all_fail}
use Rattle.mp_solver.proofs.StepLemmas.{holds-at, IsResidual-reduce_of, again-reduce_of}
use Rattle.mp_solver.proofs.OutcomeLemmas.{IsTaken, Outcome, outcome, eliminate-refused}

module _ (order : StayInOrder) (states : States) (solved : IsSolved states) where
  abbrev OkTerms : Result LinearForm FormFault → Type 0
  OkTerms (Ok p) = AreTerms p.terms
  OkTerms (Err fault) = Unit {0}

  terms_cond : (constant : ℤ) (terms : List Term) → AreOrdered terms → (a b : Bool) → list_any is_too_large terms ≡ a →
      OkTerms (cond a (Err TooLarge) (cond b (Ok (record { constant = constant; terms = terms })) (Err ConstantOverflow)))
  terms_cond constant terms ordered true b e = tt
  terms_cond constant terms ordered false true e =
      let none_large = all_fail is_too_large terms e in
      record {
        serials = ordered.serials;
        coefficients = λ i d lt. (ordered.nonzero i d lt, omega (arith, leb-false (2 ^ 44) (unsigned_abs (get_or terms i d).coefficient) (none_large i d lt)));
      }
  terms_cond constant terms ordered false false e = tt

  terms_sum : (f : ℤ) (sum p : LinearForm) → AreTerms sum.terms → AreTerms p.terms → OkTerms (sum_of f sum p)
  terms_sum f sum p left right =
      terms_cond (sum.constant +ℤ times_fraction f p.constant) (sum_terms (times_fraction f) sum.terms p.terms) (order.sums (times_fraction f) sum.terms p.terms left right) _
      (ltb (unsigned_abs (sum.constant +ℤ times_fraction f p.constant)) (2 ^ 31)) refl

  terms_form : (sum : LinearForm) (t : Term) (form : Option LinearForm) → form_of states t.serial ≡ form → AreTerms sum.terms → OkTerms (with_form sum t.coefficient form)
  terms_form sum t None is are = are
  terms_form sum t (Some form) is are = terms_sum t.coefficient sum form are (holds-at (IsSolvedForm states) states (t.serial - 1) form solved.forms is).terms

  terms_step : (start : Result LinearForm FormFault) (t : Term) → OkTerms start → OkTerms (with_term_of states start t)
  terms_step (Err fault) t are = tt
  terms_step (Ok sum) t are = terms_form sum t (form_of states t.serial) refl are

  terms_fold : (start : Result LinearForm FormFault) (ts : List Term) → OkTerms start → OkTerms (fold (with_term_of states) start ts)
  terms_fold start [] are = are
  terms_fold start (t ∷ ts) are = terms_fold (with_term_of states start t) ts (terms_step start t are)

  -- a form that was brought up to date is one again
  AreTerms-reduce_of : (p residual : LinearForm) → AreTerms p.terms → Ok residual ≡ reduce_of states p → AreTerms residual.terms
  AreTerms-reduce_of p residual are is =
      subst OkTerms (sym is) (terms_fold (Ok (independent_part states p)) p.terms (AreTerms-filter (λ t. is_none (form_of states t.serial)) p.terms are))

record IsReplay (events : List Event) (unknowns : Unknowns) : Type 0 where
  replayed : unknowns ≡ replay events
  few : length unknowns.states ≤ UNKNOWN_LIMIT
  accepted : length (forms_in unknowns.states) ≡ equations_accepted events
  solved : IsSolved unknowns.states

-- one more event at the end
pub replay-next : (events : List Event) (event : Event) → replay (events ++ event ∷ []) ≡ after (replay events) event
replay-next events event = fold-append after (record { states = []; names = [] }) events (event ∷ [])

pub unknowns_made-next : (events : List Event) (event : Event) → unknowns_made (events ++ event ∷ []) ≡ unknowns_made events + unknowns_made (event ∷ [])
unknowns_made-next events event = sum_by-append (λ e. cond (is_fresh e) 1 0) events (event ∷ [])

pub equations_accepted-next : (events : List Event) (event : Event) → equations_accepted (events ++ event ∷ []) ≡ equations_accepted events + equations_accepted (event ∷ [])
equations_accepted-next events event = sum_by-append (λ e. cond (is_equation e) 1 0) events (event ∷ [])

module _ (order : StayInOrder) (events : List Event) (unknowns : Unknowns) (so_far : IsReplay events unknowns) where
  abbrev states : States
  states = unknowns.states

  IsReplay-fresh : (name : List ℕ) → length states < UNKNOWN_LIMIT → IsReplay (events ++ Fresh name ∷ []) (with_unknown unknowns name)
  IsReplay-fresh name room =
      let longer = length-append states (None ∷ []) in
      let forms = ap length (forms_in-with_fresh states) in
      let more = equations_accepted-next events (Fresh name) in
      let count = so_far.accepted in
      record {
        replayed = ap (λ u. with_unknown u name) so_far.replayed ∙ sym (replay-next events (Fresh name));
        few = omega (arith, longer, room);
        accepted = omega (arith, more, forms, count);
        solved = record {
          forms = rw (forms_in-with_fresh states) (All-weaker (IsSolvedForm states) (IsSolvedForm (with_fresh states)) (IsSolvedForm-with_fresh states) (forms_in states) so_far.solved.forms);
          few_terms = rw (forms_in-with_fresh states) so_far.solved.few_terms;
        };
      }

  IsReplay-unname : (serial : ℕ) → IsReplay (events ++ Unname serial ∷ []) (unnamed unknowns serial)
  IsReplay-unname serial =
      let more = equations_accepted-next events (Unname serial) in
      let count = so_far.accepted in
      record {
        replayed = ap (λ u. unnamed u serial) so_far.replayed ∙ sym (replay-next events (Unname serial));
        few = so_far.few;
        accepted = omega (arith, more, count);
        solved = so_far.solved;
      }

  module _ (difference residual : LinearForm) (are : AreTerms difference.terms) (over : IsOver states difference) (reduced : Ok residual ≡ reduce_of states difference) (next : States) where
    is_residual : IsResidual states residual
    is_residual = IsResidual-reduce_of states so_far.solved difference residual over reduced (AreTerms-reduce_of order states so_far.solved difference residual are reduced)

    IsReplay-equation : (Accepted, next) ≡ eliminate states residual → IsTaken states residual next → IsReplay (events ++ Equation difference ∷ []) (record unknowns { states = next })
    IsReplay-equation exact taken =
        let more = equations_accepted-next events (Equation difference) in
        let same_length : length next ≡ length states = ap length taken.is ∙ length_after states residual is_residual taken.pivot taken.found in
        let one_more : length (forms_in next) ≡ length (forms_in states) + 1 = ap (λ ss. length (forms_in ss)) taken.is ∙ length-forms_in_after states residual is_residual taken.pivot taken.found in
        let count = so_far.accepted in
        let last : next ≡ after_residual states (reduce_of states difference) = ap (λ (e : Equated × States). e.1) exact ∙ ap (after_residual states) reduced in
        record {
          replayed = ap (λ (ss : States). record unknowns { states = ss }) last ∙ ap (λ u. after u (Equation difference)) so_far.replayed ∙ sym (replay-next events (Equation difference));
          few = omega (arith, same_length, so_far.few);
          accepted = omega (arith, more, one_more, count);
          solved =
              rw (taken.is)
              (IsSolved-after states residual is_residual taken.pivot taken.found order so_far.solved
              (rw (sym taken.is) taken.coefficients) (rw (sym taken.is) taken.constants) (rw (sym taken.is) taken.few));
        }

    no_event : (answer : Equated) → answer ≢ Accepted → equation_event difference answer ≡ []
    no_event Accepted refused = absurd (refused refl)
    no_event (Redundant r) refused = refl
    no_event (Inconsistent r) refused = refl
    no_event CoefficientTooLarge refused = refl
    no_event Overflow refused = refl
    no_event Limit refused = refl

    IsReplay-same : next ≡ states → IsReplay events (record unknowns { states = next })
    IsReplay-same same = subst (λ (ss : States). IsReplay events (record unknowns { states = ss })) (sym same) so_far

    IsReplay-equated : (answer : Equated) → (answer, next) ≡ eliminate states residual → IsReplay (events ++ equation_event difference answer) (record unknowns { states = next })
    IsReplay-equated answer exact =
        elim (subst (Outcome states residual) (sym exact) (outcome states residual)) [
          | inl left ↦ rw (no_event answer left.0, append-nil events) (IsReplay-same left.1)
          | inr taken ↦ rw (taken.0) (IsReplay-equation (ap (λ a. (a, next)) (sym taken.0) ∙ exact) taken.1)
        ]

abbrev fresh_by : Unknowns → List ℕ → Bool → FreshAnswer × Unknowns
fresh_by before name room = cond room (Made (length before.states + 1), with_unknown before name) (NoRoom, before)

fresh_replay : (order : StayInOrder) (events : List Event) (before : Unknowns) → IsReplay events before → (name : List ℕ) (room : Bool) → ltb (length before.states) UNKNOWN_LIMIT ≡ room → (answer : FreshAnswer) (next : Unknowns) →
    (answer, next) ≡ fresh_by before name room → IsReplay (events ++ fresh_event name answer) next
fresh_replay order events before so_far name true there answer next exact =
    let answer_is : answer ≡ Made (length before.states + 1) = ap (λ (e : FreshAnswer × Unknowns). e.0) exact in
    let unknowns : next ≡ with_unknown before name = ap (λ (e : FreshAnswer × Unknowns). e.1) exact in
    rw (answer_is, unknowns) (IsReplay-fresh order events before so_far name (ltb-true (length before.states) UNKNOWN_LIMIT there))
fresh_replay order events before so_far name false there answer next exact =
    let answer_is : answer ≡ NoRoom = ap (λ (e : FreshAnswer × Unknowns). e.0) exact in
    let unknowns : next ≡ before = ap (λ (e : FreshAnswer × Unknowns). e.1) exact in
    rw (answer_is, unknowns, append-nil events) so_far

is_replay : (order : StayInOrder) {events : List Event} {system : Unknowns} → IsMadeBy events system → IsReplay events system
is_replay order new = record {
  replayed = refl;
  few = omega arith;
  accepted = refl;
  solved = record { forms = All-nil (IsSolvedForm []); few_terms = omega arith };
}
is_replay order (fresh {events} {before} made name answer next exact) = fresh_replay order events before (is_replay order made) name (ltb (length before.states) UNKNOWN_LIMIT) refl answer next exact
is_replay order (unname {events} {before} made serial) = IsReplay-unname order events before (is_replay order made) serial
is_replay order (equate {events} {before} made difference residual answer next are over reduced exact) = IsReplay-equated order events before (is_replay order made) difference residual are over reduced next answer exact

-- an equation makes no unknown
module _ (states : States) (residual : LinearForm) where
  abbrev limited : Bool → Bool → Bool → States → Equated × States
  limited a b c solved = cond a (CoefficientTooLarge, states) (cond b (Overflow, states) (cond c (Limit, states) (Accepted, solved)))

  length_by_limits : (a b c : Bool) (solved : States) → length solved ≡ length states → length (limited a b c solved).1 ≡ length states
  length_by_limits true b c solved same = refl
  length_by_limits false true c solved same = refl
  length_by_limits false false true solved same = refl
  length_by_limits false false false solved same = same

  length_by_pivot : (pivot : Option Term) → length (eliminate_by states residual pivot).1 ≡ length states
  length_by_pivot None = refl
  length_by_pivot (Some pivot) =
      let new = solved_for pivot residual in
      let mapped : States = map (option_map (replaced pivot.serial new)) states in
      length_by_limits _ _ _ (solved_states states pivot new) (length-set mapped (pivot.serial - 1) (Some new) ∙ length-map states (option_map (replaced pivot.serial new)))

length-after_residual : (before : States) (residual : Result LinearForm FormFault) → length (after_residual before residual) ≡ length before
length-after_residual before (Ok residual) = length_by_pivot before residual (pivot_of residual.terms)
length-after_residual before (Err fault) = refl

length-after : (unknowns : Unknowns) (event : Event) → length (after unknowns event).states ≡ length unknowns.states + unknowns_made (event ∷ [])
length-after unknowns (Fresh name) = length-append unknowns.states (None ∷ [])
length-after unknowns (Equation difference) = omega (arith, length-after_residual unknowns.states (reduce_of unknowns.states difference))
length-after unknowns (Unname serial) = omega arith

length-fold : (unknowns : Unknowns) (events : List Event) → length (fold after unknowns events).states ≡ length unknowns.states + unknowns_made events
length-fold unknowns [] = omega arith
length-fold unknowns (event ∷ events) =
    let first = length-after unknowns event in
    let rest = length-fold (after unknowns event) events in
    let split = sum_by-cons (λ e. cond (is_fresh e) 1 0) event events in
    omega (arith, first, rest, split)

-- one unknown for each that was made
pub length-replay : (events : List Event) → length (replay events).states ≡ unknowns_made events
length-replay events = omega (arith, length-fold (record { states = []; names = [] }) events)

module _ (order : StayInOrder) (events : List Event) (system : Unknowns) (made : IsMadeBy events system) where
  pub replayed : system ≡ replay events
  replayed = (is_replay order made).replayed

  pub solved : IsSolved system.states
  solved = (is_replay order made).solved

  pub few : length system.states ≤ UNKNOWN_LIMIT
  few = (is_replay order made).few

  pub made_unknowns : length system.states ≡ unknowns_made events
  made_unknowns = ap (λ u. length u.states) replayed ∙ length-replay events

  pub accepted : length (forms_in system.states) ≡ equations_accepted events
  accepted = (is_replay order made).accepted

module _ (unknowns : Unknowns) (difference residual : LinearForm) (reduced : Ok residual ≡ reduce_of unknowns.states difference) where
  pub up_to_date : after unknowns (Equation difference) ≡ record unknowns { states = (eliminate unknowns.states residual).1 }
  up_to_date = ap (λ (r : Result LinearForm FormFault). record unknowns { states = after_residual unknowns.states r }) (sym reduced)

  pub as_it_stood : IsSolved unknowns.states → IsOver unknowns.states difference → after unknowns (Equation residual) ≡ after unknowns (Equation difference)
  as_it_stood solved over =
      ap (λ (r : Result LinearForm FormFault). record unknowns { states = after_residual unknowns.states r })
      (again-reduce_of unknowns.states solved difference (Ok residual) over reduced ∙ reduced)

  pub refused : (eliminate unknowns.states residual).0 ≢ Accepted → after unknowns (Equation difference) ≡ unknowns
  refused not_accepted =
      up_to_date
      ∙ ap (λ (ss : States). record unknowns { states = ss }) (eliminate-refused unknowns.states residual (eliminate unknowns.states residual).0 (eliminate unknowns.states residual).1 refl not_accepted)
