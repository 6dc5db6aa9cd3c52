use Rattle.mp_acts.specs.State.{counts_of}
use Rattle.mp_acts.proofs.WithinLemmas.{holding, with_variables, rooted_within}
use Rattle.mp_acts.proofs.state.State.use_root.Goals as goal

pub invariant_of-self : goal.invariant_of-self
invariant_of-self c =
    with_variables c.self.invariant
    (rooted_within (counts_of c.self.inside.system.unknowns.states c.self.inside.slots.items c.self.inside.symbols) c.self.inside.variables c.new_root.new.self (rw c.in-Ok.is at c.new_root.ensures.ok) (holding c.self.invariant))
