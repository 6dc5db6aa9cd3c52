use Rattle.std.proofs.Common.{rules, ◌≡◌}
use Rattle.mp_tokens.specs.Items.{with_names_of, items_by}
use Rattle.mp_tokens.proofs.ItemLemmas.{GainsSome-all}
use Rattle.mp_tokens.proofs.items.add.Goals as goal
use Rattle.mp_tokens.proofs.items.add.Goals.{in-Symbol+in_ok-number_of-in-Symbol, in-Number+in-Ok, in-Number+in-Err, in-Text+in_ok-inner-in-Text, in-Bad}

pub returns-in_err-push-clause-err : goal.returns-in_err-push-clause-err
returns-in_err-push-clause-err g c =
    let names : c.match-kind.names ≡ with_names_of g.M.FreshMeaning.first c.args.names.now (items_by c.args.kind c.args.text.now) =
    elim c.match-kind.branch [
      | in-Symbol+in_ok-number_of-in-Symbol w ↦ search rules
      | in-Number+in-Ok w ↦ search rules
      | in-Number+in-Err w ↦ search rules
      | in-Text+in_ok-inner-in-Text w ↦ search rules
      | in-Bad w ↦ search rules
    ] in
    let some = GainsSome-all g.M.FreshMeaning.first c.args.names.now c.match-kind.names (items_by c.args.kind c.args.text.now) names in
    search rules
