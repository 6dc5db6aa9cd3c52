use Rattle.std.proofs.Common.{◌∙◌}
use Rattle.mp_acts.proofs.EventLemmas.{equations_left}
use Rattle.mp_acts.proofs.state.State.equations.Goals as goal

pub returns : goal.returns
returns c =
    rw (← c.self.view_is)
    (equations_left c.self.inside.events.items c.self.inside.system.unknowns c.len.result c.from.result (c.len.ensures ∙ c.self.inside.events.ok.0) (c.from.ensures ∙ c.self.invariant.counted)
    c.self.invariant.history)
