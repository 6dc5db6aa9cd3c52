use Rattle.std.proofs.Common.{rules, ◌++◌, sym, ◌∙◌}
use Rattle.mp_tokens.specs.Items.{line_items, items_by}
use Rattle.mp_tokens.proofs.ItemLemmas.{Reading-more, GainsSome-more}
use Rattle.mp_tokens.proofs.items.add_line.Goals as goal

pub returns-in_err-add-clause-err : goal.returns-in_err-add-clause-err
returns-in_err-add-clause-err g c =
    let some =
    GainsSome-more g.M.FreshMeaning.first c.args.names.now c.lexemes.names c.add.new.names c.args.tokens.now c.lexemes.tokens
    (line_items c.args.line.now) (line_items c.lexemes.rest.now) (items_by c.in-Some.first.kind c.split_at.result.0.now) (line_items c.split_at.result.1.now)
    c.lexemes.invariant
    (c.in-Some.ensures.first.items ∙ (λ j. items_by c.in-Some.first.kind (sym c.split_at.ensures.front j) ++ line_items (sym c.split_at.ensures.back j)))
    c.in_err-add.ensures.err in
    search rules

pub lexemes-preserved : goal.lexemes-preserved
lexemes-preserved g c =
    Reading-more c.numbers_are_for_good.ensures.given c.numbers_are_for_good.ensures.for_good g.M.FreshMeaning.first c.args.names.now c.lexemes.names c.add.new.names c.args.tokens.now c.lexemes.tokens c.add.new.tokens
    (line_items c.args.line.now) (line_items c.lexemes.rest.now) (items_by c.in-Some.first.kind c.split_at.result.0.now) (line_items c.split_at.result.1.now)
    c.lexemes.invariant
    (c.in-Some.ensures.first.items ∙ (λ j. items_by c.in-Some.first.kind (sym c.split_at.ensures.front j) ++ line_items (sym c.split_at.ensures.back j)))
    c.in_ok-add.ensures.ok
