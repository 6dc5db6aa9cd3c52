use Rattle.std.proofs.Common.{rules, ◌+◌, [], ◌∷◌, arith, refl}
use Rattle.mp_tokens.specs.Lines.{lines}
use Rattle.mp_tokens.specs.Items.{LineEnd, line_items, lines_items, file_items}
use Rattle.mp_tokens.proofs.ItemLemmas.{Reading-more, GainsSome-more, GainsSome-none, Took-line_end, lines_items-first, AllNumbered, length-Reading, length-file_items}
use Rattle.mp_tokens.proofs.items.items_of_file.Goals as goal

pub returns-in_err-add_line-clause-err : goal.returns-in_err-add_line-clause-err
returns-in_err-add_line-clause-err g c =
    let number = c.in_ok-number.number in
    let line = c.split_line.result.0.now in
    let rest = c.split_line.result.1.now in
    let some =
    GainsSome-more g.M.FreshMeaning.first c.args.names.now c.lines.names c.add_line.new.names [] c.lines.tokens
    (file_items c.args.bytes.now) (lines_items (c.lines.number + 1) (lines c.lines.rest.now)) (line_items line)
    (LineEnd number ∷ lines_items (number + 1) (lines rest))
    c.lines.invariant
    (lines_items-first c.lines.number number c.lines.rest.now line rest c.in_ok-number.ensures.next c.split_line.ensures.lines)
    c.in_err-add_line.ensures.err in
    search rules

pub returns-in_err-push-clause-err : goal.returns-in_err-push-clause-err
returns-in_err-push-clause-err g c =
    let number = c.in_ok-number.number in
    let line = c.split_line.result.0.now in
    let rest = c.split_line.result.1.now in
    let left = LineEnd number ∷ lines_items (number + 1) (lines rest) in
    let reading =
    Reading-more c.numbers_are_for_good.ensures.given c.numbers_are_for_good.ensures.for_good g.M.FreshMeaning.first c.args.names.now c.lines.names c.add_line.new.names [] c.lines.tokens c.add_line.new.tokens
    (file_items c.args.bytes.now) (lines_items (c.lines.number + 1) (lines c.lines.rest.now)) (line_items line) left
    c.lines.invariant
    (lines_items-first c.lines.number number c.lines.rest.now line rest c.in_ok-number.ensures.next c.split_line.ensures.lines)
    c.in_ok-add_line.ensures.ok in
    let some =
    GainsSome-more g.M.FreshMeaning.first c.args.names.now c.add_line.new.names c.add_line.new.names [] c.add_line.new.tokens
    (file_items c.args.bytes.now) left [] left reading refl
    (GainsSome-none g.M.FreshMeaning.first c.add_line.new.names []) in
    search rules

pub lines-preserved : goal.lines-preserved
lines-preserved g c =
    let number = c.in_ok-number.number in
    let line = c.split_line.result.0.now in
    let rest = c.split_line.result.1.now in
    let left = LineEnd number ∷ lines_items (number + 1) (lines rest) in
    let reading =
    Reading-more c.numbers_are_for_good.ensures.given c.numbers_are_for_good.ensures.for_good g.M.FreshMeaning.first c.args.names.now c.lines.names c.add_line.new.names [] c.lines.tokens c.add_line.new.tokens
    (file_items c.args.bytes.now) (lines_items (c.lines.number + 1) (lines c.lines.rest.now)) (line_items line) left
    c.lines.invariant
    (lines_items-first c.lines.number number c.lines.rest.now line rest c.in_ok-number.ensures.next c.split_line.ensures.lines)
    c.in_ok-add_line.ensures.ok in
    Reading-more c.numbers_are_for_good.ensures.given c.numbers_are_for_good.ensures.for_good g.M.FreshMeaning.first c.args.names.now c.add_line.new.names c.add_line.new.names [] c.add_line.new.tokens c.push.new.self
    (file_items c.args.bytes.now) left (LineEnd number ∷ []) (lines_items (number + 1) (lines rest)) reading refl
    (Took-line_end g.M.FreshMeaning.first c.add_line.new.names c.add_line.new.tokens c.push.new.self number c.in_ok-push.ensures.ok)

pub returns-clause-length : goal.returns-clause-length
returns-clause-length g c =
    omega (
      arith,
      length-file_items c.args.bytes.now,
      length-Reading g.M.FreshMeaning.first c.args.names.now c.lines.names c.lines.tokens (file_items c.args.bytes.now)
          (lines_items (c.lines.number + 1) (lines c.lines.rest.now)) c.lines.invariant,
    )

pub returns-clause-symbols : goal.returns-clause-symbols
returns-clause-symbols g c =
    let reading = c.lines.invariant in
    AllNumbered c.numbers_are_for_good.ensures.given c.numbers_are_for_good.ensures.for_good g.M.FreshMeaning.first c.args.names.now c.lines.names c.lines.tokens reading.done reading.took.names reading.took.tokens
