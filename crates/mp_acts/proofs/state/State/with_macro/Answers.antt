use Rattle.std.proofs.Common.{true}
use Rattle.mp_vartree.specs.declared.entry.Declared.TheVariants as declared
use Rattle.mp_acts.specs.State.{counts_of}
use Rattle.mp_acts.proofs.WithinLemmas.{holding, with_variables, define_within}
use Rattle.mp_acts.proofs.state.State.with_macro.Goals as goal

pub invariant_of-self-2 : goal.invariant_of-self-2
invariant_of-self-2 c =
    with_variables c.self.invariant
    (define_within (counts_of c.self.inside.system.unknowns.states c.self.inside.slots.items c.self.inside.symbols) c.self.inside.variables (holding c.self.invariant) c.variables_are_a_map.ensures.takes c.args.root c.args.name.now
    (declared.Macro c.args.m) true c.in_ok-answer.answer c.define_macro.new.self c.in_ok-answer.ensures.exact (rw (← c.self.view_is) at c.requires))
