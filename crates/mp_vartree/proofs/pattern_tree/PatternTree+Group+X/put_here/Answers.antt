use Rattle.std.proofs.Common.{Some, ap, ◌∙◌}
use Rattle.mp_vartree.proofs.ResultLemmas.{on_ok}
use Rattle.mp_vartree.proofs.CoverLemmas.{tree, group_here, no_group_here}
use Rattle.mp_vartree.proofs.pattern_tree.PatternTree+Group+X.put_here.Goals as goal

pub returns-in-Some-clause-ok : goal.returns-in-Some-clause-ok
returns-in-Some-clause-ok g c =
    rw (← c.self.view_is, c.in-Some.is)
    (on_ok c.insert.result (λ e. ap (λ group. tree (Some group) c.self.inside.children) e ∙ group_here c.in-Some.group c.self.inside.children c.args.name.now c.args.x) c.insert.ensures.ok)

pub returns-clause-ok : goal.returns-clause-ok
returns-clause-ok g c = rw (← c.self.view_is, c.in_default.is) (no_group_here c.self.inside.children c.args.name.now c.args.x)
