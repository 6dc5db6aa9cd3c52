use Rattle.std.proofs.Common.{ap, sym, ◌∙◌}
use Rattle.std.specs.Option.{option_copied}
use Rattle.mp_vartree.proofs.CoverLemmas.{pruned}
use Rattle.mp_vartree.proofs.pattern_tree.PatternTree.prune.Goals as goal
use Rattle.mp_vartree.proofs.pattern_tree.PatternTree.prune.Goals.{in-Some-1, in-None-1}

pub returns-then-is_bare : goal.returns-then-is_bare
returns-then-is_bare g c =
    let dropped =
    pruned c.self.inside.held c.self.inside.children c.remove.new.self c.args.shape.now c.in-Some.child.now (ap option_copied (sym c.in-Some.is) ∙ c.get.ensures.value) c.remove.ensures.updates.0
    (ap (λ tree. tree.paths) (sym c.deref.ensures) ∙ c.is_bare.ensures c.if-is_bare.true) in
    elim c.match-remove.branch [
      | in-Some-1 w ↦ ap (λ t. t.paths) w.self-is ∙ dropped ∙ ap (λ t. t.paths) c.self.view_is
      | in-None-1 w ↦ ap (λ t. t.paths) w.self-is ∙ dropped ∙ ap (λ t. t.paths) c.self.view_is
    ]
