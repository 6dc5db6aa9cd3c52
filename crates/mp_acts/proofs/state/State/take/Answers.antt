use Rattle.std.proofs.Common.{Err, map, refl, sym, ap, ◌∙◌}
use Rattle.std.proofs.lemmas.Result.{err_from_is_err_and}
use Rattle.mp_solver.specs.Reduction.{reduce_of}
use Rattle.mp_solver.specs.States.{Unknowns}
use Rattle.mp_values.specs.Outcome.{in_state, error_of}
use Rattle.mp_acts.specs.State.{State}
use Rattle.mp_acts.specs.Events.{event_of}
use Rattle.mp_ops.specs.Operands.{or_refused}
use Rattle.mp_acts.specs.Operators.{from_store, store_of}
use Rattle.mp_acts.specs.declared.event.Event.TheVariants as event
use Rattle.mp_acts.proofs.EquationLemmas.{with_equation, prepared_err, residual_is, outcome_is, residual_within, as_many_after, answer_is}
use Rattle.mp_ops.proofs.ReachLemmas.{is_over}
use Rattle.mp_acts.proofs.WithinLemmas.{with_event, as_many_within}
use Rattle.mp_acts.proofs.state.State.take.Goals.{in-Accepted, in_default}
use Rattle.mp_acts.proofs.state.State.take.Goals as goal

pub ready-requires : goal.ready-requires
ready-requires c = is_over c.self.inside.system.unknowns.states c.args.difference.now c.self.invariant.within.few (rw (← c.self.view_is) at c.requires.over)

pub returns-in_err-ready-2-clause-err : goal.returns-in_err-ready-2-clause-err
returns-in_err-ready-2-clause-err c =
    let p = err_from_is_err_and c.from_residual-in_err-ready-2.result c.from_residual-in_err-ready-2.ensures.1 in
    let unknowns = c.self.inside.system.unknowns in
    let refused = prepared_err unknowns (reduce_of unknowns.states c.args.difference.now) _ _ c.in_err-ready-2.was c.in_ok-ready.ensures.exact in
    let state : State =
    record {
      symbols = c.self.inside.symbols;
      variables = c.self.inside.variables;
      slots = c.self.inside.slots.items;
      unknowns = unknowns;
      events = map event_of c.self.inside.events.items;
      lines = c.self.inside.lines;
      job = c.self.inside.job;
    } in
    rw (p.1, ← c.self.view_is) (λ _. ap (λ r. from_store (in_state (or_refused r) (store_of state)) state) refused ∙ ap (λ made. Err (error_of made, state)) (sym p.2))

pub invariant_of-self-in-Accepted : goal.invariant_of-self-in-Accepted
invariant_of-self-in-Accepted c =
    let before = c.self.inside.system.unknowns in
    let now = c.equate-answer.new.self.unknowns in
    let difference = c.args.difference.now in
    let ready = c.in_ok-ready-2.ready in
    let reaches = rw (← c.self.view_is) at c.requires.over in
    let residual = residual_is before c.ready.new.self.unknowns now difference ready _ c.equate-answer.result c.in_ok-ready-2.was c.in_ok-ready.ensures.exact c.in_ok-ready.ensures.same
    c.equate-answer.ensures.exact in
    let outcome = outcome_is before c.ready.new.self.unknowns now difference ready _ c.equate-answer.result c.in_ok-ready-2.was c.in_ok-ready.ensures.exact c.in_ok-ready.ensures.same
    c.equate-answer.ensures.exact in
    let within = residual_within before c.ready.new.self.unknowns now difference ready _ c.equate-answer.result c.in_ok-ready-2.was c.in_ok-ready.ensures.exact c.in_ok-ready.ensures.same
    c.equate-answer.ensures.exact c.self.invariant.within.forms reaches in
    with_event _ _ (event.Equation c.of.result) c.push_reserved.ensures.items
    (rw (c.of.ensures, c.reserve.ensures.items)
    (with_equation before now difference ready.residual c.self.invariant
    (rw c.terms-terms.ensures.same at c.terms-terms.ensures.ordered) reaches (sym residual) within (rw c.in-Accepted.is at outcome)
    (c.equate-answer.ensures.names ∙ ap (λ (u : Unknowns). u.names) c.in_ok-ready.ensures.same)))

pub returns-clause-ok : goal.returns-clause-ok
returns-clause-ok c =
    let before = c.self.inside.system.unknowns in
    let now = c.equate-answer.new.self.unknowns in
    let difference = c.args.difference.now in
    let ready = c.in_ok-ready-2.ready in
    let is = answer_is before c.ready.new.self.unknowns now difference ready _ c.equate-answer.result c.in_ok-ready-2.was c.in_ok-ready.ensures.exact c.in_ok-ready.ensures.same
    c.equate-answer.ensures.exact in
    let here = is c.args.self.now (rw (← c.self.view_is) refl) in
    elim c.match-answer.branch [ in-Accepted w ↦ rw (w.self-is) here | in_default w ↦ rw (w.self-is) here ]

pub returns-clause-counts : goal.returns-clause-counts
returns-clause-counts c =
    let before = c.self.inside.system.unknowns in
    let now = c.equate-answer.new.self.unknowns in
    let difference = c.args.difference.now in
    let ready = c.in_ok-ready-2.ready in
    let as_many = as_many_after before c.ready.new.self.unknowns now difference ready _ c.equate-answer.result c.in_ok-ready-2.was c.in_ok-ready.ensures.exact c.in_ok-ready.ensures.same
    c.equate-answer.ensures.exact c.self.inside.variables c.self.inside.slots.items c.self.inside.symbols c.self.invariant.within (rw (← c.self.view_is) at c.requires.over) in
    let more = as_many_within before.states now.states c.self.inside.slots.items c.self.inside.symbols as_many in
    elim c.match-answer.branch [ in-Accepted w ↦ rw (w.self-is, ← c.self.view_is) more | in_default w ↦ rw (w.self-is, ← c.self.view_is) more ]
