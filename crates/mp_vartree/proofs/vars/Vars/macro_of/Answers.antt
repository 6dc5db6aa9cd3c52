use Rattle.std.proofs.Common.{ap, sym, ◌∙◌}
use Rattle.std.specs.Option.{option_copied}
use Rattle.mp_vartree.proofs.VarsLemmas.{macro_in_tag, no_macro}
use Rattle.mp_vartree.proofs.vars.Vars.macro_of.Goals as goal

pub returns-in-Some : goal.returns-in-Some
returns-in-Some c =
    let tag = ap option_copied (sym c.in-Some.is) ∙ c.get.ensures.value in
    rw (← c.self.view_is) (c.first_macro.ensures ∙ macro_in_tag c.self.inside.roots c.self.inside.tags.entries c.args.root c.args.name.now _ tag)

pub returns-in-None : goal.returns-in-None
returns-in-None c =
    let tag = ap option_copied (sym c.in-None.is) ∙ c.get.ensures.value in
    rw (← c.self.view_is) (no_macro c.args.name.now ∙ macro_in_tag c.self.inside.roots c.self.inside.tags.entries c.args.root c.args.name.now _ tag)
