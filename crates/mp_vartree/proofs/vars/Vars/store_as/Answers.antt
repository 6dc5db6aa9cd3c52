use Rattle.std.proofs.Common.{Some, refl, ap, sym, ◌∙◌}
use Rattle.std.specs.Option.{option_copied_mut, unwrap_or}
use Rattle.mp_values.specs.declared.value.Kind.TheVariants.{Numeric}
use Rattle.mp_values.specs.Kinds.{kind_of, is_kind}
use Rattle.mp_vartree.specs.declared.tag.Tag.{Tag}
use Rattle.mp_vartree.proofs.ResultLemmas.{err_always}
use Rattle.mp_vartree.proofs.VarsLemmas.{seen, stored, untouched, type_in, same_seen, written_tag, store_refused, store_accepted}
use Rattle.mp_vartree.proofs.vars.Vars.store_as.Goals as goal

pub returns-then-not-has_kind-clause-exact : goal.returns-then-not-has_kind-clause-exact
returns-then-not-has_kind-clause-exact c =
    let roots = c.self.inside.roots in
    let tags = c.add_tag.new.tags in
    let tag = c.in-Some.tag.now in
    let new = c.get_mut.follows.lender tag in
    let was = ap option_copied_mut (sym c.in-Some.is) ∙ c.get_mut.ensures.value in
    let wanted = c.unwrap_or-wanted.ensures ∙ ap (λ k. unwrap_or k Numeric) (c.kind_of.ensures ∙ type_in roots tags.entries c.args.root c.args.name.now (Some tag) was) in
    rw (← c.self.view_is)
    (store_refused c.args.made (seen roots c.self.inside.tags.entries) (seen roots tags.entries) (seen roots new.entries) c.args.root c.args.name.now c.args.value
    (same_seen roots c.self.inside.tags.entries tags.entries c.add_tag.ensures.declarations c.add_tag.ensures.variables)
    (untouched roots tags.entries new.entries c.args.root tag tag was (written_tag tags new c.args.root tag tag was (c.get_mut.follows.holds tag)) refl refl)
    (sym c.if-not-has_kind.true ∙ c.has_kind.ensures ∙ ap (λ k. is_kind k (kind_of c.args.value)) wanted))

pub returns-in_err-insert-clause-err : goal.returns-in_err-insert-clause-err
returns-in_err-insert-clause-err c =
    let roots = c.self.inside.roots in
    let tags = c.add_tag.new.tags in
    let tag = c.in-Some.tag.now in
    let left : Tag = record { declarations = tag.declarations; variables = c.insert.new.self } in
    let new = c.get_mut.follows.lender left in
    let was = ap option_copied_mut (sym c.in-Some.is) ∙ c.get_mut.ensures.value in
    rw (← c.self.view_is)
    (err_always c.from_residual-in_err-insert.result
    (untouched roots tags.entries new.entries c.args.root tag left was (written_tag tags new c.args.root tag left was (c.get_mut.follows.holds left)) refl c.in_err-insert.ensures.err
    ∙ same_seen roots c.self.inside.tags.entries tags.entries c.add_tag.ensures.declarations c.add_tag.ensures.variables))

pub returns-clause-exact : goal.returns-clause-exact
returns-clause-exact c =
    let roots = c.self.inside.roots in
    let tags = c.add_tag.new.tags in
    let tag = c.in-Some.tag.now in
    let left : Tag = record { declarations = tag.declarations; variables = c.insert.new.self } in
    let new = c.get_mut.follows.lender left in
    let was = ap option_copied_mut (sym c.in-Some.is) ∙ c.get_mut.ensures.value in
    let wanted = c.unwrap_or-wanted.ensures ∙ ap (λ k. unwrap_or k Numeric) (c.kind_of.ensures ∙ type_in roots tags.entries c.args.root c.args.name.now (Some tag) was) in
    rw (← c.self.view_is)
    (store_accepted c.args.made (seen roots c.self.inside.tags.entries) (seen roots tags.entries) (seen roots new.entries) c.args.root c.args.name.now c.args.value
    (same_seen roots c.self.inside.tags.entries tags.entries c.add_tag.ensures.declarations c.add_tag.ensures.variables)
    (stored roots tags.entries new.entries c.args.root tag left c.args.name.now (record { value = c.args.value; made = c.args.made }) was
    (written_tag tags new c.args.root tag left was (c.get_mut.follows.holds left)) refl c.in_ok-insert.ensures.ok)
    (sym c.if-not-has_kind.false ∙ c.has_kind.ensures ∙ ap (λ k. is_kind k (kind_of c.args.value)) wanted))
