use Rattle.std.proofs.Common.{ap, sym, ◌∙◌}
use Rattle.std.specs.Option.{option_map, option_and_then}
use Rattle.std.specs.FinMap.{get}
use Rattle.mp_vartree.proofs.GroupLemmas.{get-all_names}
use Rattle.mp_vartree.proofs.name_map.NameMap.get.Goals as goal

pub returns-in-Some : goal.returns-in-Some
returns-in-Some g c =
    let name = c.args.name.now in
    c.get-in-Some.ensures ∙ ap (option_and_then (λ group. get group name)) (ap (option_map (λ x. x.now)) (sym c.in-Some.is) ∙ c.get.ensures)
    ∙ sym (get-all_names c.self.inside.groups.paths name) ∙ ap (λ m. get m name) c.self.view_is

pub returns-in-None : goal.returns-in-None
returns-in-None g c =
    let name = c.args.name.now in
    ap (option_and_then (λ group. get group name)) (ap (option_map (λ x. x.now)) (sym c.in-None.is) ∙ c.get.ensures)
    ∙ sym (get-all_names c.self.inside.groups.paths name) ∙ ap (λ m. get m name) c.self.view_is
