use Rattle.std.proofs.Common.{false, ap, ◌∙◌}
use Rattle.mp_vartree.specs.Variables.{made}
use Rattle.mp_acts.specs.State.{State}
use Rattle.mp_acts.proofs.DeclarationLemmas.{declared}
use Rattle.mp_acts.proofs.state.State.do_declare.Goals as goal

pub returns-in-Ok-clause-exact : goal.returns-in-Ok-clause-exact
returns-in-Ok-clause-exact c =
    declared c.args.symbol c.in_ok-root.root c.args.name.now c.args.self.now c.with_type.new.self c.become_tag.new.self c.in_ok-serials.serials c.in_ok-root.ensures.root
    c.in_ok-with_type.ensures.rest (rw c.as_slice.ensures at c.become_tag.ensures.exact) c.args.kind (c.in_ok-serials.ensures ∙ ap (λ (t : State). made t.variables c.in_ok-root.root c.args.name.now false) c.self.view_is) (rw c.in-Ok.is at c.in_ok-with_type.ensures.exact)
