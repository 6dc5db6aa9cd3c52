use Rattle.std.proofs.Common.{Some, ap, sym, ◌∙◌}
use Rattle.std.specs.Option.{option_copied_mut}
use Rattle.std.specs.Box.{with_value}
use Rattle.mp_vartree.specs.Names.{pattern_of}
use Rattle.mp_vartree.specs.Layout.Groups.{with_name}
use Rattle.mp_vartree.proofs.ResultLemmas.{on_ok, on_err}
use Rattle.mp_vartree.proofs.OrderLemmas.{by_shape}
use Rattle.mp_vartree.proofs.StepLemmas.{kept, written_back}
use Rattle.mp_vartree.proofs.CoverLemmas.{group_behind, no_group_behind}
use Rattle.mp_vartree.proofs.pattern_tree.PatternTree+Group+X.+put.Goals as goal

pub returns-in-Some-get_mut-clause-ok : goal.returns-in-Some-get_mut-clause-ok
returns-in-Some-get_mut-clause-ok g t c =
    let child = c.in-Some-get_mut.child.now in
    let left = with_value child c.put.new.self in
    let lent = c.get_mut.follows.lender left in
    let before = ap option_copied_mut (sym c.in-Some-get_mut.is) ∙ c.get_mut.ensures.value in
    rw (c.in-Some.ensures.cases.0, ← c.of.ensures, ← c.self.view_is)
    (on_ok c.put.result
    (λ e. group_behind c.self.inside.held c.self.inside.children lent c.of.result (Some child) left (pattern_of c.in-Some.rest.now) c.args.name.now c.args.x before
    (written_back by_shape c.self.inside.children lent c.of.result child left before (c.get_mut.follows.holds left))
    (e ∙ ap (λ tree. with_name tree.paths (pattern_of c.in-Some.rest.now) c.args.name.now c.args.x) c.deref_mut.ensures.value)) c.put.ensures.ok)

pub returns-in-Some-get_mut-clause-err : goal.returns-in-Some-get_mut-clause-err
returns-in-Some-get_mut-clause-err g t c =
    let child = c.in-Some-get_mut.child.now in
    let left = with_value child c.put.new.self in
    let lent = c.get_mut.follows.lender left in
    let before = ap option_copied_mut (sym c.in-Some-get_mut.is) ∙ c.get_mut.ensures.value in
    rw (← c.self.view_is)
    (on_err c.put.result
    (λ e. kept by_shape c.self.inside.held c.self.inside.children lent c.of.result (Some child) left before
    (written_back by_shape c.self.inside.children lent c.of.result child left before (c.get_mut.follows.holds left))
    (e ∙ ap (λ tree. tree.paths) c.deref_mut.ensures.value)) c.put.ensures.err)

pub returns-clause-ok : goal.returns-clause-ok
returns-clause-ok g t c =
    let none = ap option_copied_mut (sym c.in_default-get_mut.is) ∙ c.get_mut.ensures.value in
    rw (c.in-Some.ensures.cases.0, ← c.of.ensures, ← c.self.view_is)
    (no_group_behind c.self.inside.held c.self.inside.children c.get_mut.follows.lender-at-none c.of.result (pattern_of c.in-Some.rest.now) c.args.name.now c.args.x none c.get_mut.follows.holds-at-none)
