use Rattle.std.proofs.Common.{◌≡◌, ℕ, ◌||◌, ap, sym, ◌∙◌}
use Rattle.std.specs.Option.{option_map}
use Rattle.std.proofs.lemmas.Result.{IfOk-weaker}
use Rattle.mp_vartree.specs.Layout.Gathered.{has}
use Rattle.mp_vartree.specs.Variables.{made_for, made_for_one, variable_at}
use Rattle.mp_vartree.proofs.MadeLemmas.{made_one}
use Rattle.mp_vartree.proofs.vars.Vars.made_at.Goals as goal
use Rattle.mp_vartree.proofs.vars.Vars.made_at.Goals.{in-Some+in_ok-add_made, in_default}

pub returns : goal.returns
returns c =
    let keys = c.match-variable_at.serials.keys in
    let held = variable_at c.args.self.now c.args.root c.args.name.now in
    let same : (n : ℕ) → has n keys ≡ has n (made_for_one held) =
    λ n. elim c.match-variable_at.branch [
      | in-Some+in_ok-add_made w ↦
          ap (λ s. has n s.keys) w.serials-is ∙ w.in_ok-add_made.ensures n ∙ ap (λ ks. has n ks || has n (made_for w.in-Some.variable.now)) c.new-serials.ensures.empty
          ∙ ap (λ o. has n (made_for_one o)) (ap (option_map (λ x. x.now)) (sym w.in-Some.is) ∙ c.variable_at.ensures)
      | in_default w ↦
          ap (λ s. has n s.keys) w.serials-is ∙ ap (has n) c.new-serials.ensures.empty
          ∙ ap (λ o. has n (made_for_one o)) (ap (option_map (λ x. x.now)) (sym w.in_default.is) ∙ c.variable_at.ensures)
    ] in
    IfOk-weaker c.listed.result (λ s. s ≡ keys) _ (λ s e. e ∙ made_one c.args.self.now c.args.root c.args.name.now keys c.listed.ensures.ordered same) c.listed.ensures.exact
