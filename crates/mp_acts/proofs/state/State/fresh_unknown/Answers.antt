use Rattle.mp_acts.specs.declared.event.Event.TheVariants as event
use Rattle.mp_acts.proofs.WithinLemmas.{with_unknown, with_event}
use Rattle.mp_acts.proofs.state.State.fresh_unknown.Goals as goal

pub invariant_of-self-in-Made : goal.invariant_of-self-in-Made
invariant_of-self-in-Made c =
    let exact = rw (c.as_slice.ensures, c.in-Made.is) at c.in_ok-answer.ensures.exact in
    with_event _ _ (event.Fresh c.of.result) c.push_reserved.ensures.items
    (rw (c.of.ensures, c.reserve.ensures.items) (with_unknown c.self.inside.system.unknowns c.args.name.now c.in-Made.field-0 c.fresh.new.self.unknowns exact c.self.invariant))
