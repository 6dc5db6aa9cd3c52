use Rattle.std.proofs.Common.{ap, sym, ◌∙◌}
use Rattle.std.specs.Option.{option_map}
use Rattle.mp_vartree.proofs.ResultLemmas.{on_ok}
use Rattle.mp_vartree.proofs.GatherLemmas.{gathers_held}
use Rattle.mp_vartree.proofs.serials.PatternTree+Group+Variable.add_held.Goals as goal

pub returns-in-Some : goal.returns-in-Some
returns-in-Some c =
    on_ok c.add_made.result
    (gathers_held c.args.into.now.keys c.add_made.new.into.keys c.args.self.now.paths c.in-Some.group.now (sym c.held.ensures ∙ ap (option_map (λ x. x.now)) c.in-Some.is)) c.add_made.ensures
