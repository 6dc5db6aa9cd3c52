use Rattle.std.proofs.Common.{true}
use Rattle.mp_acts.specs.Counts.{IsWithin}
use Rattle.mp_acts.specs.State.{counts_of}
use Rattle.mp_acts.specs.Reach.{reach}
use Rattle.mp_acts.proofs.WithinLemmas.{holding, with_variables, store_within}
use Rattle.mp_acts.proofs.state.State.keep_made.Goals as goal

pub invariant_of-self-2 : goal.invariant_of-self-2
invariant_of-self-2 c =
    let n = counts_of c.self.inside.system.unknowns.states c.self.inside.slots.items c.self.inside.symbols in
    let reaches : IsWithin (reach c.in_ok-copy.copy) n = rw c.in_ok-copy.ensures (rw (← c.self.view_is) at c.requires.within) in
    with_variables c.self.invariant
    (store_within n c.self.inside.variables (holding c.self.invariant) c.variables_are_a_map.ensures.puts true c.args.root c.args.name.now c.in_ok-copy.copy c.in_ok-store_made.field-0
    c.store_made.new.self c.in_ok-store_made.ensures.exact reaches)
