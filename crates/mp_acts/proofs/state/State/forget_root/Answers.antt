use Rattle.std.proofs.Common.{sym, subst}
use Rattle.mp_acts.specs.State.{counts_of}
use Rattle.mp_vartree.specs.Variables.{Variables}
use Rattle.mp_acts.proofs.WithinLemmas.{HoldWithin, holding, with_variables, forget_within}
use Rattle.mp_acts.proofs.state.State.forget_root.Goals as goal

pub invariant_of-self : goal.invariant_of-self
invariant_of-self c =
    let n = counts_of c.self.inside.system.unknowns.states c.self.inside.slots.items c.self.inside.symbols in
    with_variables c.self.invariant
    (subst (λ (v : Variables). HoldWithin n v) (sym c.forget.ensures)
    (forget_within n c.self.inside.variables (holding c.self.invariant) c.variables_are_a_map.ensures.takes c.args.root))
