use Rattle.std.proofs.Common.{◌≡◌, [], Some, None, ap, sym, ◌∙◌, subst}
use Rattle.std.specs.Option.{option_copied}
use Rattle.std.proofs.lemmas.Result.{IfOk-weaker}
use Rattle.mp_vartree.specs.Names.{is_meant}
use Rattle.mp_vartree.specs.Layout.Gathered.{Gathers, InVariable}
use Rattle.mp_vartree.specs.Variables.{made}
use Rattle.mp_vartree.proofs.VarsLemmas.{seen, held_by}
use Rattle.mp_vartree.proofs.MadeLemmas.{made_is, made_of_none}
use Rattle.mp_vartree.proofs.vars.Vars.made.Goals as goal
use Rattle.mp_vartree.proofs.vars.Vars.made.Goals.{in-Some+in_ok-add_made, in_default}

pub returns : goal.returns
returns c =
    let inside = c.self.inside in
    let test = is_meant c.args.below c.args.name.now in
    let keys = c.match-get.serials.keys in
    let all : keys ≡ made (seen inside.roots inside.tags.entries) c.args.root c.args.name.now c.args.below =
    elim c.match-get.branch [
      | in-Some+in_ok-add_made w ↦
          made_is inside.roots inside.tags.entries c.args.root (Some w.in-Some.tag.now) (ap option_copied (sym w.in-Some.is) ∙ c.get.ensures.value) c.args.name.now c.args.below keys c.listed.ensures.ordered
          (subst (λ ks. Gathers InVariable [] ks w.in-Some.tag.now.variables test) (ap (λ s. s.keys) (sym w.serials-is))
          (subst (λ ks. Gathers InVariable ks w.add_made.new.into.keys w.in-Some.tag.now.variables test) c.new-serials.ensures.empty w.in_ok-add_made.ensures))
      | in_default w ↦
          made_is inside.roots inside.tags.entries c.args.root None (ap option_copied (sym w.in_default.is) ∙ c.get.ensures.value) c.args.name.now c.args.below keys c.listed.ensures.ordered
          (subst (λ ks. Gathers InVariable [] ks (held_by None) test) (sym (ap (λ s. s.keys) w.serials-is ∙ c.new-serials.ensures.empty)) (made_of_none test))
    ] in
    rw (← c.self.view_is) (IfOk-weaker c.listed.result (λ s. s ≡ keys) _ (λ s e. e ∙ all) c.listed.ensures.exact)
