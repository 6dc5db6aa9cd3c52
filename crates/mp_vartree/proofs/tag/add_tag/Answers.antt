use Rattle.std.proofs.Common.{sym, ◌∙◌}
use Rattle.mp_vartree.proofs.TagLemmas.{fresh_declarations, fresh_variables}
use Rattle.mp_vartree.proofs.tag.add_tag.Goals as goal

pub returns-in_ok-insert-clause-declarations : goal.returns-in_ok-insert-clause-declarations
returns-in_ok-insert-clause-declarations c =
    fresh_declarations c.args.tags.now c.insert.new.self c.args.root c.new.result (sym c.contains_key.ensures ∙ c.if-not-contains_key.true)
    c.in_ok-insert.ensures.updates c.new.ensures.declarations

pub returns-in_ok-insert-clause-variables : goal.returns-in_ok-insert-clause-variables
returns-in_ok-insert-clause-variables c =
    fresh_variables c.args.tags.now c.insert.new.self c.args.root c.new.result (sym c.contains_key.ensures ∙ c.if-not-contains_key.true)
    c.in_ok-insert.ensures.updates c.new.ensures.variables
