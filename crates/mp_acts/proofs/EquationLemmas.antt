-- What an equation leaves: forms over the same unknowns, and a state that is changed only where it was accepted.
use Rattle.std.proofs.Common.{◌≡◌, ℕ, ◌-◌, ◌≤◌, Bool, true, false, not, cond, nat_lt, nat_eq, List, [], ◌∷◌, ◌++◌, Option, Some, None, Result, Ok, Err, map, length, refl, sym, ap, subst, ◌∙◌, arith}
use Rattle.std.specs.List.{All, list_any}
use Rattle.std.specs.Option.{option_map}
use Rattle.std.proofs.lemmas.List.{length-map, length-set}
use Rattle.std.proofs.lemmas.List.Elements.{All-map, All-set, All-weaker}
use Rattle.mp_pool.specs.declared.Term.{Term}
use Rattle.mp_pool.specs.Ratios.{times_fraction}
use Rattle.mp_forms.specs.Forms.{LinearForm}
use Rattle.mp_pool.specs.Terms.{AreTerms}
use Rattle.mp_solver.specs.Reduction.{reduce_of}
use Rattle.mp_solver.specs.Replay.{Event, Equation}
use Rattle.mp_solver.specs.States.{States, Unknowns}
use Rattle.mp_solver.specs.Ready.{Prepared, IsPrepared}
use Rattle.mp_forms.specs.declared.fault.FormFault.{FormFault}
use Rattle.mp_solver.specs.Elimination.{without, term_of, over_negative, solved_for, replaced, replaced_term, solved_states, forms_in, has_large_coefficient, has_large_constant, term_count, eliminate_by, eliminate, pivot_of}
use Rattle.mp_solver.specs.declared.equated.Equated.{Equated}
use Rattle.mp_solver.specs.declared.equated.Equated.TheVariants.{Accepted, CoefficientTooLarge, Overflow, Limit}
use Rattle.mp_values.specs.declared.meaning.Meaning.{Meaning}
use Rattle.mp_values.specs.declared.value.Value.{Value}
use Rattle.mp_vartree.specs.Variables.{Variables}
use Rattle.mp_vartree.specs.Laws.{held}
use Rattle.mp_symbols.specs.Tables.{Table}
use Rattle.mp_acts.specs.Counts.{IsWithin}
use Rattle.mp_acts.specs.State.{State, counts_of}
use Rattle.mp_acts.specs.Reach.{reach_of_variable, reach_of_declared, reach_of_slot, AreWithin}
use Rattle.mp_ops.specs.Store.{reach_of_form, reach_of_known}
use Rattle.mp_acts.specs.Kept.{IsKept}
use Rattle.mp_ops.specs.Operands.{or_refused}
use Rattle.mp_acts.specs.Operators.{from_store, store_of}
use Rattle.mp_acts.specs.Equations.{IsAnswer}
use Rattle.mp_values.specs.Outcome.{in_state}
use Rattle.mp_acts.proofs.EventLemmas.{events_equation}
use Rattle.mp_acts.proofs.WithinLemmas.{within_more, all_more, meanings_more, saved_more}
use Rattle.mp_ops.proofs.ReachLemmas.{is_over, ok_within, reduce_within, reach-filter, reach-changed, reach-sum}

module _ (n : ℕ) where
  solved_within : (pivot : Term) (p : LinearForm) → reach_of_form p ≤ n → reach_of_form (solved_for pivot p) ≤ n
  solved_within pivot p h =
      omega (arith, reach-changed (over_negative pivot.coefficient) (without pivot.serial p.terms), reach-filter (λ t. not (nat_eq t.serial pivot.serial)) p.terms)

  replaced_by : (serial : ℕ) (new p : LinearForm) (t : Option Term) → reach_of_form new ≤ n → reach_of_form p ≤ n → reach_of_form (replaced_term serial new p t) ≤ n
  replaced_by serial new p None hn hp = hp
  replaced_by serial new p (Some t) hn hp =
      omega (arith, reach-sum (times_fraction t.coefficient) (without serial p.terms) new.terms, reach-filter (λ t. not (nat_eq t.serial serial)) p.terms)

  known_within : (serial : ℕ) (new : LinearForm) (known : Option LinearForm) → reach_of_form new ≤ n → reach_of_known known ≤ n → reach_of_known (option_map (replaced serial new) known) ≤ n
  known_within serial new None hn h = h
  known_within serial new (Some p) hn h = replaced_by serial new p (term_of serial p.terms) hn h

  states_within : (states : States) (pivot : Term) (new : LinearForm) → reach_of_form new ≤ n → All (λ known. reach_of_known known ≤ n) states
      → All (λ known. reach_of_known known ≤ n) (solved_states states pivot new)
  states_within states pivot new hn forms =
      All-set (λ known. reach_of_known known ≤ n) (map (option_map (replaced pivot.serial new)) states) (pivot.serial - 1) (Some new) hn
      (All-map (λ known. reach_of_known known ≤ n) (option_map (replaced pivot.serial new)) states
      (All-weaker (λ known. reach_of_known known ≤ n) (λ known. reach_of_known (option_map (replaced pivot.serial new) known) ≤ n)
      (λ known h. known_within pivot.serial new known hn h) states forms))

length-solved : (states : States) (pivot : Term) (new : LinearForm) → length (solved_states states pivot new) ≡ length states
length-solved states pivot new = length-set (map (option_map (replaced pivot.serial new)) states) (pivot.serial - 1) (Some new) ∙ length-map states (option_map (replaced pivot.serial new))

-- what holds of the states before and after an equation holds of those that it leaves
limits_keep : (P : States → Type 0) (before after : States) (large constant many : Bool) → P before → P after
    → P (cond {A = Equated × States} large (CoefficientTooLarge, before) (cond constant (Overflow, before) (cond many (Limit, before) (Accepted, after)))).1
limits_keep P before after true constant many hb ha = hb
limits_keep P before after false true many hb ha = hb
limits_keep P before after false false true hb ha = hb
limits_keep P before after false false false hb ha = ha

eliminate_keeps : (P : States → Type 0) (states : States) (residual : LinearForm) (pivot : Option Term) → P states
    → ((t : Term) → P (solved_states states t (solved_for t residual))) → P (eliminate_by states residual pivot).1
eliminate_keeps P states residual None hs ha = hs
eliminate_keeps P states residual (Some t) hs ha =
    limits_keep P states (solved_states states t (solved_for t residual))
    (list_any has_large_coefficient (forms_in (solved_states states t (solved_for t residual))))
    (list_any has_large_constant (forms_in (solved_states states t (solved_for t residual))))
    (nat_lt 4000000 (term_count (solved_states states t (solved_for t residual)))) hs (ha t)

-- the states are as many, and speak of no other unknowns
record IsLike (states after : States) : Type 0 where
  length_is : length after ≡ length states
  forms : All (λ known. reach_of_known known ≤ length states) after

eliminate_like : (states : States) (residual : LinearForm) → All (λ known. reach_of_known known ≤ length states) states → reach_of_form residual ≤ length states
    → IsLike states (eliminate states residual).1
eliminate_like states residual forms h =
    eliminate_keeps (IsLike states) states residual (pivot_of residual.terms) (record { length_is = refl; forms = forms })
    (λ t. record {
      length_is = length-solved states t (solved_for t residual);
      forms = states_within (length states) states t (solved_for t residual) (solved_within (length states) t residual h) forms;
    })

-- the invariant of a state holds after an equation
pub record Keeps (before after : States) (variables : Variables) (slots : List (Option Value)) (symbols : Table Meaning) : Type 0 where
  pub length_is : length after ≡ length before
  pub within : AreWithin after variables slots symbols

pub equation_keeps : (states after : States) (variables : Variables) (slots : List (Option Value)) (symbols : Table Meaning) (residual : LinearForm) (answer : Equated)
    → AreWithin states variables slots symbols → reach_of_form residual ≤ length states → (answer, after) ≡ eliminate states residual → Keeps states after variables slots symbols
equation_keeps states after variables slots symbols residual answer is h e =
    let same : after ≡ (eliminate states residual).1 = ap (λ pair. pair.1) e in
    let like = eliminate_like states residual is.forms h in
    let count : length after ≡ length states = ap length same ∙ like.length_is in
    let forms : All (λ known. reach_of_known known ≤ length states) after = subst (λ (l : States). All (λ known. reach_of_known known ≤ length states) l) (sym same) like.forms in
    let old = counts_of states slots symbols in
    let new = counts_of after slots symbols in
    let more : IsWithin old new = record { unknowns = omega (arith, count); slots = omega arith; symbols = omega arith; internals = omega arith } in
    record {
      length_is = count;
      within = record {
        few = omega (arith, is.few);
        words = is.words;
        forms = All-weaker (λ known. reach_of_known known ≤ length states) (λ known. reach_of_known known ≤ length after) (λ known h. omega arith) after forms;
        held = λ name. within_more (reach_of_variable (held variables name)) old new (is.held name) more;
        macros = all_more (λ entry. reach_of_declared entry.1) variables.declarations old new more is.macros;
        filled = all_more reach_of_slot slots old new more is.filled;
        meanings = meanings_more symbols.names old new more is.meanings;
        saved = saved_more symbols.saved old new more is.saved;
      };
    }

-- what is kept of a state is kept by an equation that was accepted, which is the newest event
module _ {count : ℕ} {variables : Variables} {slots : List (Option Value)} {symbols : Table Meaning} {events : List Event} (before now : Unknowns) (difference residual : LinearForm)
    (is : IsKept count before variables slots symbols events) (terms : AreTerms difference.terms) (reaches : reach_of_form difference ≤ length before.states)
    (reduced : Ok residual ≡ reduce_of before.states difference) (within : reach_of_form residual ≤ length before.states)
    (exact : (Accepted, now.states) ≡ eliminate before.states residual) (names : now.names ≡ before.names) where
  keeps : Keeps before.states now.states variables slots symbols
  keeps = equation_keeps before.states now.states variables slots symbols residual Accepted is.within within exact

  pub as_many : length now.states ≡ length before.states
  as_many = keeps.length_is

  pub with_equation : IsKept count now variables slots symbols (events ++ Equation difference ∷ [])
  with_equation = record {
    counted = is.counted ∙ sym as_many;
    within = keeps.within;
    history =
        events_equation before difference residual now terms (is_over before.states difference is.within.few reaches) reduced exact names as_many is.history;
  }

-- a difference that is prepared was brought up to date, and one that is refused was not
pub prepared_err : (unknowns : Unknowns) (r : Result LinearForm FormFault) (fault : FormFault) (answer : Result Prepared FormFault)
    → answer ≡ Err fault → IsPrepared unknowns r answer → r ≡ Err fault
prepared_err unknowns (Ok p) fault (Ok ready) e is = cc
prepared_err unknowns (Ok p) fault (Err given) e is = elim is [ ]
prepared_err unknowns (Err other) fault (Ok ready) e is = elim is [ ]
prepared_err unknowns (Err other) fault (Err given) e is = cc

pub prepared_ok : (unknowns : Unknowns) (r : Result LinearForm FormFault) (ready : Prepared) (answer : Result Prepared FormFault)
    → answer ≡ Ok ready → IsPrepared unknowns r answer → r ≡ Ok ready.residual
prepared_ok unknowns (Ok p) ready (Ok given) e is = cc
prepared_ok unknowns (Ok p) ready (Err given) e is = elim is [ ]
prepared_ok unknowns (Err other) ready (Ok given) e is = elim is [ ]
prepared_ok unknowns (Err other) ready (Err given) e is = cc

-- what comes of an equation that was prepared for these unknowns, which stayed as they were until it was taken
module _ (before still now : Unknowns) (difference : LinearForm) (ready : Prepared) (answered : Result Prepared FormFault) (answer : Equated)
    (answered_is : answered ≡ Ok ready) (prepared_is : IsPrepared before (reduce_of before.states difference) answered) (same : still ≡ before)
    (exact : (answer, now.states) ≡ eliminate still.states ready.residual) where
  pub residual_is : reduce_of before.states difference ≡ Ok ready.residual
  residual_is = prepared_ok before (reduce_of before.states difference) ready answered answered_is prepared_is

  pub outcome_is : (answer, now.states) ≡ eliminate before.states ready.residual
  outcome_is = exact ∙ ap (λ (unknowns : Unknowns). eliminate unknowns.states ready.residual) same

  pub residual_within : All (λ known. reach_of_known known ≤ length before.states) before.states → reach_of_form difference ≤ length before.states
      → reach_of_form ready.residual ≤ length before.states
  residual_within forms reaches =
      ok_within (length before.states) (reduce_of before.states difference) (reduce_of before.states difference) ready.residual residual_is refl
      (reduce_within before.states (length before.states) difference forms reaches)

  pub as_many_after : (variables : Variables) (slots : List (Option Value)) (symbols : Table Meaning) → AreWithin before.states variables slots symbols
      → reach_of_form difference ≤ length before.states → length now.states ≡ length before.states
  as_many_after variables slots symbols is reaches =
      (equation_keeps before.states now.states variables slots symbols ready.residual answer is (residual_within is.forms reaches) outcome_is).length_is

  pub answer_is : (s : State) → s.unknowns ≡ before → IsAnswer difference s answer now.states
  answer_is s is = record {
    residual = ready.residual;
    is_up_to_date =
        ap (λ r. from_store (in_state (or_refused r) (store_of s)) s) (ap (λ (unknowns : Unknowns). reduce_of unknowns.states difference) is ∙ residual_is);
    outcome = outcome_is ∙ ap (λ (unknowns : Unknowns). eliminate unknowns.states ready.residual) (sym is);
  }
