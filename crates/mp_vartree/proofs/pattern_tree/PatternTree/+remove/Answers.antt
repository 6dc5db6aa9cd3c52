use Rattle.std.proofs.Common.{Some, ap, sym, ◌∙◌}
use Rattle.std.specs.Option.{option_copied_mut}
use Rattle.std.specs.Box.{with_value}
use Rattle.std.specs.FinMap.{retain_keys}
use Rattle.mp_vartree.proofs.ListLemmas.{empty_from_length}
use Rattle.mp_vartree.proofs.OrderLemmas.{by_shape}
use Rattle.mp_vartree.proofs.StepLemmas.{written_back}
use Rattle.mp_vartree.proofs.CoverLemmas.{is_left, none_left, here_removed, child_removed, no_child_removed}
use Rattle.mp_vartree.proofs.pattern_tree.PatternTree.+remove.Goals as goal

pub returns-in_default : goal.returns-in_default
returns-in_default g t c =
    let none = ap option_copied_mut (sym c.in_default.is) ∙ c.get_mut.ensures.value in
    rw (c.in-Some.ensures.cases.0, ← c.self-in-Some.view_is)
    (no_child_removed c.self-in-Some.inside.held c.self-in-Some.inside.children c.get_mut.follows.lender-at-none c.in-Some.shape.now c.args.below c.in-Some.rest.now none c.get_mut.follows.holds-at-none)

pub returns-then-below : goal.returns-then-below
returns-then-below g t c = rw (c.clear.ensures.empty, empty_from_length c.in-None.ensures.cases, c.if-below.true) (none_left c.args.self.now.paths)

pub returns-else-below : goal.returns-else-below
returns-else-below g t c = rw (empty_from_length c.in-None.ensures.cases, c.if-below.false, ← c.self.view_is) (here_removed c.self.inside.held c.self.inside.children)

pub returns-in-Some-get_mut : goal.returns-in-Some-get_mut
returns-in-Some-get_mut g t c =
    let child = c.in-Some-get_mut.child.now in
    let left = with_value child c.remove.new.self in
    let lent = c.get_mut.follows.lender left in
    let before = ap option_copied_mut (sym c.in-Some-get_mut.is) ∙ c.get_mut.ensures.value in
    rw (c.in-Some.ensures.cases.0, ← c.self-in-Some.view_is)
    (c.prune.ensures
    ∙ child_removed c.self-in-Some.inside.held c.self-in-Some.inside.children lent c.in-Some.shape.now (Some child) (Some left) c.args.below c.in-Some.rest.now before
    (written_back by_shape c.self-in-Some.inside.children lent c.in-Some.shape.now child left before (c.get_mut.follows.holds left))
    (c.remove.ensures ∙ ap (λ tree. retain_keys tree.paths (is_left c.args.below c.in-Some.rest.now)) c.deref_mut.ensures.value))
