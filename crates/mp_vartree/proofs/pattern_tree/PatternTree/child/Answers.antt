use Rattle.std.proofs.Common.{ap, sym, ◌∙◌}
use Rattle.std.specs.Option.{option_and_then}
use Rattle.std.specs.FinMap.{get}
use Rattle.mp_vartree.proofs.OrderLemmas.{by_shape}
use Rattle.mp_vartree.proofs.StepLemmas.{behind_step}
use Rattle.mp_vartree.proofs.pattern_tree.PatternTree.child.Goals as goal

pub returns-in-Some : goal.returns-in-Some
returns-in-Some g c rest =
    rw (← c.self.view_is)
    (behind_step by_shape c.self.inside.held c.self.inside.children c.args.shape c.get.result c.get.ensures.value rest
    ∙ ap (option_and_then (λ child. get child.now.value.paths rest)) c.in-Some.is ∙ ap (λ tree. get tree.paths rest) (sym c.deref.ensures))

pub returns-in-None : goal.returns-in-None
returns-in-None g c rest =
    rw (← c.self.view_is)
    (behind_step by_shape c.self.inside.held c.self.inside.children c.args.shape c.get.result c.get.ensures.value rest ∙ ap (option_and_then (λ child. get child.now.value.paths rest)) c.in-None.is)
