use Rattle.std.proofs.Common.{ap, sym, ◌∙◌}
use Rattle.std.specs.Option.{option_copied}
use Rattle.mp_vartree.proofs.VarsLemmas.{type_in, no_type}
use Rattle.mp_vartree.proofs.vars.Vars.type_of.Goals as goal

pub returns-in-Some : goal.returns-in-Some
returns-in-Some c =
    let tag = ap option_copied (sym c.in-Some.is) ∙ c.get.ensures.value in
    rw (← c.self.view_is) (c.kind_of.ensures ∙ type_in c.self.inside.roots c.self.inside.tags.entries c.args.root c.args.name.now _ tag)

pub returns-in-None : goal.returns-in-None
returns-in-None c =
    let tag = ap option_copied (sym c.in-None.is) ∙ c.get.ensures.value in
    rw (← c.self.view_is) (no_type c.args.name.now ∙ type_in c.self.inside.roots c.self.inside.tags.entries c.args.root c.args.name.now _ tag)
