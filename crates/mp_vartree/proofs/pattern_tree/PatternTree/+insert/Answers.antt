use Rattle.std.proofs.Common.{Some, ap, sym, ◌∙◌}
use Rattle.std.specs.Option.{option_copied_mut}
use Rattle.std.specs.Box.{with_value}
use Rattle.std.specs.FinMap.{insert}
use Rattle.mp_vartree.proofs.ListLemmas.{empty_from_length}
use Rattle.mp_vartree.proofs.ResultLemmas.{on_ok, on_err}
use Rattle.mp_vartree.proofs.OrderLemmas.{by_shape}
use Rattle.mp_vartree.proofs.StepLemmas.{inserted, kept, put_here, added, written_back}
use Rattle.mp_vartree.proofs.pattern_tree.PatternTree.+insert.Goals as goal

pub returns-in-Some-get_mut-clause-ok : goal.returns-in-Some-get_mut-clause-ok
returns-in-Some-get_mut-clause-ok g t c =
    let child = c.in-Some-get_mut.child.now in
    let left = with_value child c.insert.new.self in
    let before = ap option_copied_mut (sym c.in-Some-get_mut.is) ∙ c.get_mut.ensures.value in
    rw (c.in-Some.ensures.cases.0, ← c.self.view_is)
    (on_ok c.insert.result
    (λ e. inserted by_shape c.self.inside.held c.self.inside.children (c.get_mut.follows.lender left) c.in-Some.shape.now (Some child) left c.in-Some.rest.now c.args.x before
    (written_back by_shape c.self.inside.children (c.get_mut.follows.lender left) c.in-Some.shape.now child left before (c.get_mut.follows.holds left))
    (e ∙ ap (λ tree. insert tree.paths c.in-Some.rest.now c.args.x) c.deref_mut.ensures.value)) c.insert.ensures.ok)

pub returns-in-Some-get_mut-clause-err : goal.returns-in-Some-get_mut-clause-err
returns-in-Some-get_mut-clause-err g t c =
    let child = c.in-Some-get_mut.child.now in
    let left = with_value child c.insert.new.self in
    let before = ap option_copied_mut (sym c.in-Some-get_mut.is) ∙ c.get_mut.ensures.value in
    rw (← c.self.view_is)
    (on_err c.insert.result
    (λ e. kept by_shape c.self.inside.held c.self.inside.children (c.get_mut.follows.lender left) c.in-Some.shape.now (Some child) left before
    (written_back by_shape c.self.inside.children (c.get_mut.follows.lender left) c.in-Some.shape.now child left before (c.get_mut.follows.holds left))
    (e ∙ ap (λ tree. tree.paths) c.deref_mut.ensures.value)) c.insert.ensures.err)

pub returns-in-None-clause-ok : goal.returns-in-None-clause-ok
returns-in-None-clause-ok g t c = rw (empty_from_length c.in-None.ensures.cases, ← c.self.view_is) (put_here by_shape c.self.inside.held c.self.inside.children c.args.x)

pub returns-in_ok-insert-in-Some-2-clause-ok : goal.returns-in_ok-insert-in-Some-2-clause-ok
returns-in_ok-insert-in-Some-2-clause-ok g t c =
    let none = ap option_copied_mut (sym c.in_default.is) ∙ c.get_mut.ensures.value in
    rw (c.in-Some.ensures.cases.0, ← c.self.view_is)
    (added by_shape c.self.inside.held c.self.inside.children c.get_mut.follows.lender-at-none c.insert-in-Some-2.new.self c.in-Some.shape.now c.new-child.result c.insert-in-Some.new.self c.in_ok-new-in-Some.field-0
    c.in-Some.rest.now c.args.x none c.get_mut.follows.holds-at-none c.in_ok-insert-in-Some-2.ensures.updates c.new-child.ensures c.in_ok-insert-in-Some.ensures.ok c.in_ok-new-in-Some.ensures.ok)
