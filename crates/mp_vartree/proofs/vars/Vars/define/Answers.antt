use Rattle.std.proofs.Common.{refl, ap, sym, ◌∙◌}
use Rattle.std.specs.Option.{option_copied_mut}
use Rattle.mp_vartree.specs.declared.tag.Tag.{Tag}
use Rattle.mp_vartree.proofs.ResultLemmas.{err_always}
use Rattle.mp_vartree.proofs.VarsLemmas.{seen, defined, untouched, below_in, same_seen, written_tag, define_refused, define_accepted}
use Rattle.mp_vartree.proofs.vars.Vars.define.Goals as goal

pub returns-then-is_below_macro-clause-exact : goal.returns-then-is_below_macro-clause-exact
returns-then-is_below_macro-clause-exact c =
    let roots = c.self.inside.roots in
    let tags = c.add_tag.new.tags in
    let tag = c.in-Some.tag.now in
    let new = c.get_mut.follows.lender tag in
    let was = ap option_copied_mut (sym c.in-Some.is) ∙ c.get_mut.ensures.value in
    rw (← c.self.view_is)
    (define_refused (seen roots c.self.inside.tags.entries) (seen roots tags.entries) (seen roots new.entries) c.args.root c.args.name.now c.args.declared c.args.below
    (same_seen roots c.self.inside.tags.entries tags.entries c.add_tag.ensures.declarations c.add_tag.ensures.variables)
    (untouched roots tags.entries new.entries c.args.root tag tag was (written_tag tags new c.args.root tag tag was (c.get_mut.follows.holds tag)) refl refl)
    (sym c.if-is_below_macro.true ∙ c.is_below_macro.ensures ∙ below_in roots tags.entries c.args.root c.args.name.now tag was))

pub returns-in_err-insert-clause-err : goal.returns-in_err-insert-clause-err
returns-in_err-insert-clause-err c =
    let roots = c.self.inside.roots in
    let tags = c.add_tag.new.tags in
    let tag = c.in-Some.tag.now in
    let left : Tag = record { declarations = c.insert.new.self; variables = tag.variables } in
    let new = c.get_mut.follows.lender left in
    let was = ap option_copied_mut (sym c.in-Some.is) ∙ c.get_mut.ensures.value in
    rw (← c.self.view_is)
    (err_always c.from_residual-in_err-insert.result
    (untouched roots tags.entries new.entries c.args.root tag left was (written_tag tags new c.args.root tag left was (c.get_mut.follows.holds left)) c.in_err-insert.ensures.err refl
    ∙ same_seen roots c.self.inside.tags.entries tags.entries c.add_tag.ensures.declarations c.add_tag.ensures.variables))

pub returns-clause-exact : goal.returns-clause-exact
returns-clause-exact c =
    let roots = c.self.inside.roots in
    let tags = c.add_tag.new.tags in
    let tag = c.in-Some.tag.now in
    let left : Tag = record { declarations = c.insert.new.self; variables = c.forget.new.self } in
    let new = c.get_mut.follows.lender left in
    let was = ap option_copied_mut (sym c.in-Some.is) ∙ c.get_mut.ensures.value in
    rw (← c.self.view_is)
    (define_accepted (seen roots c.self.inside.tags.entries) (seen roots tags.entries) (seen roots new.entries) c.args.root c.args.name.now c.args.declared c.args.below
    (same_seen roots c.self.inside.tags.entries tags.entries c.add_tag.ensures.declarations c.add_tag.ensures.variables)
    (defined roots tags.entries new.entries c.args.root tag left c.args.name.now c.args.declared c.args.below was (written_tag tags new c.args.root tag left was (c.get_mut.follows.holds left))
    c.in_ok-insert.ensures.ok c.forget.ensures)
    (sym c.if-is_below_macro.false ∙ c.is_below_macro.ensures ∙ below_in roots tags.entries c.args.root c.args.name.now tag was))
