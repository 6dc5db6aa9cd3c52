use Rattle.std.proofs.Common.{map}
use Rattle.mp_acts.specs.Events.{event_of}
use Rattle.mp_acts.proofs.EventLemmas.{equations_counted}
use Rattle.mp_acts.proofs.state.State.unknowns_are_replays.Goals as goal

pub returns-clause-equations : goal.returns-clause-equations
returns-clause-equations c =
    rw (← c.self.view_is) (equations_counted c.systems_are_replays.ensures.equations (map event_of c.self.inside.events.items) c.self.inside.system.unknowns c.self.invariant.history)
