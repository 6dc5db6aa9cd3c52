use Rattle.std.proofs.Common.{rules, ◌∙◌}
use Rattle.mp_scaled.proofs.DigitLemmas.{equal_later}
use Rattle.mp_scaled.proofs.print.print_scaled.Goals as goal

pub returns-clause-rest : goal.returns-clause-rest
returns-clause-rest c =
    let end = c.put_fraction.result in
    c.put_fraction.ensures.rest
    ∙ equal_later c.put_whole-whole_end.result end _ _ (search rules)
    (c.put_whole-whole_end.ensures.rest ∙ equal_later c.put_sign-sign_end.result c.put_whole-whole_end.result _ _ (search rules) c.put_sign-sign_end.ensures.rest)
