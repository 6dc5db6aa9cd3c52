use Rattle.std.proofs.Common.{ap, ◌∙◌, length, map}
use Rattle.mp_solver.specs.States.{Solver}
use Rattle.mp_acts.specs.Events.{event_of}
use Rattle.mp_acts.proofs.EventLemmas.{states_without_names}
use Rattle.mp_acts.proofs.WithinLemmas.{as_many_within, with_fewer_names, with_states}
use Rattle.mp_acts.proofs.state.State.give_up.Goals as goal

pub invariant_of-self : goal.invariant_of-self
invariant_of-self c = with_fewer_names c.args.serials.now c.self.inside.system.unknowns c.unname_all.new.system.unknowns (ap (λ (s : Solver). s.unknowns) c.unname_all.ensures) c.self.invariant

pub returns-clause-counts : goal.returns-clause-counts
returns-clause-counts c =
    rw (← c.self.view_is)
    (as_many_within c.self.inside.system.unknowns.states c.unname_all.new.system.unknowns.states c.self.inside.slots.items c.self.inside.symbols
    (ap (λ (s : Solver). length s.unknowns.states) c.unname_all.ensures ∙ ap length (states_without_names c.args.serials.now c.self.inside.system.unknowns)))

pub returns-clause-rest : goal.returns-clause-rest
returns-clause-rest c =
    let now = c.unname_all.new.system.unknowns in
    let same = ap (λ (s : Solver). s.unknowns.states) c.unname_all.ensures ∙ states_without_names c.args.serials.now c.self.inside.system.unknowns in
    rw (← c.self.view_is) (with_states c.self.inside.symbols c.self.inside.variables c.self.inside.slots.items (map event_of c.self.inside.events.items) c.self.inside.lines c.self.inside.job now c.self.inside.system.unknowns same)
