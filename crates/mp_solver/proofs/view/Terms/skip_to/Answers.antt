use Rattle.std.proofs.Common.{◌+◌, ◌∷◌, drop, ap, ◌∙◌, arith}
use Rattle.std.proofs.lemmas.List.{drop-drop}
use Rattle.mp_solver.proofs.ReplacementLemmas.{equal_from}
use Rattle.mp_solver.proofs.view.Terms.skip_to.Goals as goal

pub skipping-preserved : goal.skipping-preserved
skipping-preserved c =
    let before = c.skipping.invariant in
    (1 + before.0, c.step.ensures ∙ ap (drop 1) before.1 ∙ drop-drop 1 before.0 c.args.self.now ∙ ap (λ n. drop n c.args.self.now) (omega arith))

pub returns-then-term-serial-clause-found : goal.returns-then-term-serial-clause-found
returns-then-term-serial-clause-found c = λ same.
    (c.in-Some.term.coefficient, c.in-Some.ensures.some ∙ ap (λ s. record { serial = s; coefficient = c.in-Some.term.coefficient } ∷ drop 1 c.skipping.self-inside.rest) (equal_from c.in-Some.term.serial c.args.serial same))
