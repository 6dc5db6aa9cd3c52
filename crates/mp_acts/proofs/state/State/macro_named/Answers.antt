use Rattle.mp_acts.specs.State.{counts_of}
use Rattle.mp_acts.proofs.WithinLemmas.{macro_lent}
use Rattle.mp_acts.proofs.state.State.macro_named.Goals as goal

pub returns-in-Some-clause-within : goal.returns-in-Some-clause-within
returns-in-Some-clause-within c =
    let n = counts_of c.self.inside.system.unknowns.states c.self.inside.slots.items c.self.inside.symbols in
    let within = macro_lent (λ m. m.now) n c.self.inside.variables c.args.root c.args.name.now c.macro_of.result c.self.invariant.within.macros c.macro_of.ensures in
    rw (← c.self.view_is) (rw c.in-Some.is at within)
