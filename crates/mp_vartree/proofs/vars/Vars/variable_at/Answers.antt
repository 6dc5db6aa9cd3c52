use Rattle.std.proofs.Common.{ap, sym, ◌∙◌}
use Rattle.std.specs.Option.{option_copied}
use Rattle.mp_vartree.proofs.VarsLemmas.{held_in, none_held}
use Rattle.mp_vartree.proofs.vars.Vars.variable_at.Goals as goal

pub returns-in-Some : goal.returns-in-Some
returns-in-Some c =
    let tag = ap option_copied (sym c.in-Some.is) ∙ c.get.ensures.value in
    rw (← c.self.view_is) (c.get-in-Some.ensures ∙ held_in c.self.inside.roots c.self.inside.tags.entries c.args.root c.args.name.now _ tag)

pub returns-in-None : goal.returns-in-None
returns-in-None c =
    let tag = ap option_copied (sym c.in-None.is) ∙ c.get.ensures.value in
    rw (← c.self.view_is) (none_held c.args.name.now ∙ held_in c.self.inside.roots c.self.inside.tags.entries c.args.root c.args.name.now _ tag)
