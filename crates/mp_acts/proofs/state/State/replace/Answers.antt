use Rattle.std.proofs.Common.{false}
use Rattle.mp_acts.specs.Counts.{IsWithin}
use Rattle.mp_acts.specs.State.{counts_of}
use Rattle.mp_acts.specs.Reach.{reach}
use Rattle.mp_acts.proofs.WithinLemmas.{holding, with_variables, store_within}
use Rattle.mp_acts.proofs.state.State.replace.Goals as goal

pub invariant_of-self-in-Ok : goal.invariant_of-self-in-Ok
invariant_of-self-in-Ok c =
    let n = counts_of c.self.inside.system.unknowns.states c.self.inside.slots.items c.self.inside.symbols in
    let reaches : IsWithin (reach c.args.value) n = rw (← c.self.view_is) at c.requires.within in
    with_variables c.self.invariant
    (store_within n c.self.inside.variables (holding c.self.invariant) c.variables_are_a_map.ensures.puts false c.args.root c.args.name.now c.args.value c.in_ok-store.field-0 c.store.new.self
    c.in_ok-store.ensures.exact reaches)
