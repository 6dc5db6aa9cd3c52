use Rattle.std.proofs.Common.{true, ap, ◌∙◌}
use Rattle.mp_vartree.specs.Variables.{made}
use Rattle.mp_acts.specs.State.{State}
use Rattle.mp_acts.proofs.DeclarationLemmas.{defined}
use Rattle.mp_acts.proofs.state.State.define_variable.Goals as goal

pub returns-in-Ok-clause-exact : goal.returns-in-Ok-clause-exact
returns-in-Ok-clause-exact c =
    defined c.args.symbol c.in_ok-root.root c.args.name.now c.args.self.now c.with_macro.new.self c.become_tag.new.self c.in_ok-serials.serials c.in_ok-root.ensures.root
    c.in_ok-with_macro.ensures.rest (rw c.as_slice.ensures at c.become_tag.ensures.exact) c.args.m (c.in_ok-serials.ensures ∙ ap (λ (t : State). made t.variables c.in_ok-root.root c.args.name.now true) c.self.view_is) (rw c.in-Ok.is at c.in_ok-with_macro.ensures.exact)
