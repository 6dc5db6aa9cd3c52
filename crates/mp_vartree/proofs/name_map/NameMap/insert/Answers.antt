use Rattle.std.proofs.Common.{None, true, false, ap, sym, ◌∙◌, subst}
use Rattle.std.specs.FinMap.{get, insert}
use Rattle.mp_vartree.specs.Names.{pattern_of}
use Rattle.mp_vartree.specs.Layout.Groups.{all_names, AreGrouped}
use Rattle.mp_vartree.proofs.ResultLemmas.{on_ok, in_both}
use Rattle.mp_vartree.proofs.DeclarationLemmas.{is_some_map}
use Rattle.mp_vartree.proofs.TagLemmas.{none_there}
use Rattle.mp_vartree.proofs.GroupLemmas.{put_into, names_put, grouped_put, with_name_put}
use Rattle.mp_vartree.proofs.name_map.NameMap.insert.Goals as goal

pub invariant_of-self : goal.invariant_of-self
invariant_of-self g c =
    let groups = c.self.inside.groups.paths in
    let name = c.args.name.now in
    let there = is_some_map (λ x. x.now) c.get.result (get groups (pattern_of name)) true c.get.ensures (sym c.if-is_some.true ∙ c.is_some.ensures) in
    in_both AreGrouped c.put.result c.put.new.self.paths _ groups c.put.ensures.ok c.put.ensures.err
    (subst AreGrouped (sym (with_name_put groups name c.args.x there)) (grouped_put groups name c.args.x (get groups (pattern_of name)) (λ _. get groups (pattern_of name)) c.self.invariant)) c.self.invariant

pub returns-then-is_some-clause-ok : goal.returns-then-is_some-clause-ok
returns-then-is_some-clause-ok g c =
    let groups = c.self.inside.groups.paths in
    let name = c.args.name.now in
    let there = is_some_map (λ x. x.now) c.get.result (get groups (pattern_of name)) true c.get.ensures (sym c.if-is_some.true ∙ c.is_some.ensures) in
    rw (← c.self.view_is)
    (on_ok c.put.result (λ e. ap all_names (e ∙ with_name_put groups name c.args.x there) ∙ names_put groups name c.args.x (get groups (pattern_of name)) (λ _. get groups (pattern_of name))) c.put.ensures.ok)

pub invariant_of-self-2 : goal.invariant_of-self-2
invariant_of-self-2 g c =
    let groups = c.self.inside.groups.paths in
    let name = c.args.name.now in
    let none = none_there (get groups (pattern_of name)) (is_some_map (λ x. x.now) c.get.result (get groups (pattern_of name)) false c.get.ensures (sym c.if-is_some.false ∙ c.is_some.ensures)) in
    let pattern = c.as_slice.ensures ∙ c.in_ok-pattern.ensures in
    let group = c.in_ok-insert.ensures.ok ∙ ap (λ g. insert g name c.args.x) c.new-group.ensures in
    in_both AreGrouped c.insert-2.result c.insert-2.new.self.paths (put_into groups name c.args.x None) groups (on_ok c.insert-2.result (λ e. e ∙ (λ i. insert groups (pattern i) (group i))) c.insert-2.ensures.ok)
    c.insert-2.ensures.err (grouped_put groups name c.args.x None (sym none) c.self.invariant) c.self.invariant

pub returns-clause-ok : goal.returns-clause-ok
returns-clause-ok g c =
    let groups = c.self.inside.groups.paths in
    let name = c.args.name.now in
    let none = none_there (get groups (pattern_of name)) (is_some_map (λ x. x.now) c.get.result (get groups (pattern_of name)) false c.get.ensures (sym c.if-is_some.false ∙ c.is_some.ensures)) in
    let pattern = c.as_slice.ensures ∙ c.in_ok-pattern.ensures in
    let group = c.in_ok-insert.ensures.ok ∙ ap (λ g. insert g name c.args.x) c.new-group.ensures in
    rw (← c.self.view_is) (on_ok c.insert-2.result (λ e. ap all_names (e ∙ (λ i. insert groups (pattern i) (group i))) ∙ names_put groups name c.args.x None (sym none)) c.insert-2.ensures.ok)
