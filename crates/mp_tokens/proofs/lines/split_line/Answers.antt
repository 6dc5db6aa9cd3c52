use Rattle.std.proofs.Common.{◌-◌, ◌∷◌, ◌∙◌, length, drop, ap, sym, arith, length-drop}
use Rattle.std.proofs.lemmas.List.{take_all}
use Rattle.mp_tokens.specs.Lines.{lines, end_length}
use Rattle.mp_tokens.proofs.LineLemmas.{lines-first, cut_at}
use Rattle.mp_tokens.proofs.lines.split_line.Goals as goal

pub returns-clause-lines : goal.returns-clause-lines
returns-clause-lines c =
    lines-first c.args.text.now c.requires
    ∙ ap (cut_at c.args.text.now) (sym c.line_length.ensures.value)
    ∙ (λ j. sym c.split_at.ensures.front j ∷ lines (drop (end_length (sym c.split_at.ensures.back j)) (sym c.split_at.ensures.back j)))
    ∙ ap (λ n. c.split_at.result.0.now ∷ lines (drop n c.split_at.result.1.now)) (sym c.end_length.ensures.value)
    ∙ ap (λ l. c.split_at.result.0.now ∷ lines l) (sym (take_all (length c.split_at.result.1.now - c.end_length.result) (drop c.end_length.result c.split_at.result.1.now)
    (omega (arith, length-drop c.end_length.result c.split_at.result.1.now))))
