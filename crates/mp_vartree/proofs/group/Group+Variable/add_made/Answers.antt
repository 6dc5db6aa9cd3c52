use Rattle.std.proofs.Common.{◌||◌, ap, ◌∙◌}
use Rattle.mp_vartree.specs.Layout.Gathered.{has}
use Rattle.mp_vartree.specs.Layout.Groups.{listed}
use Rattle.mp_vartree.specs.Variables.{made_for_any}
use Rattle.mp_vartree.proofs.GatherLemmas.{next_entry, last_entry, gathers_listed}
use Rattle.mp_vartree.proofs.group.Group+Variable.add_made.Goals as goal

pub names-preserved : goal.names-preserved
names-preserved c n =
    next_entry c.add_made.new.into.keys c.names.into.keys n _ c.names.variable-iterator c.next.new.self c.in-Some.field-0-0.now c.in-Some.variable.now c.in-Some.ensures.steps (c.in_ok-add_made.ensures n)
    (c.names.invariant n)

pub returns : goal.returns
returns c =
    let entries = c.into_iter-variable-iterator.ensures.into_iter_gives ∙ c.iter-variable-items.ensures.rest in
    rw (← c.self.view_is)
    (gathers_listed c.args.into.now.keys c.names.into.keys c.self.inside.names.entries c.iter-variable-items.ensures.ordered
    (λ n. last_entry c.names.into.keys n _ c.names.variable-iterator c.in-None.ensures.steps.0 (c.names.invariant n) ∙ ap (λ xs. has n c.args.into.now.keys || has n (made_for_any (listed xs))) entries))
