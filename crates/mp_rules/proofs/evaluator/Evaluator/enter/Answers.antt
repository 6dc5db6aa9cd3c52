use Rattle.std.proofs.Common.{◌≡◌, rules, subst}
use Rattle.mp_expand.specs.Steps.{enter}
use Rattle.mp_rules.specs.Machine.{Machine}
use Rattle.mp_rules.specs.Promises.{Acts}
use Rattle.mp_rules.specs.Steps.{expanding}
use Rattle.mp_rules.specs.contracts.evaluator.Evaluator.{the_view}
use Rattle.mp_rules.proofs.TextLemmas.{enters}
use Rattle.mp_rules.proofs.evaluator.Evaluator.enter.Goals as goal

pub returns-clause-acts : goal.returns-clause-acts
returns-clause-acts c =
    let old : Machine = the_view c.self.inside in
    let new : Machine = record old { expander = c.enter.new.self } in
    let is : old ≡ c.args.self.now = search rules in
    subst (λ (m : Machine). Acts (expanding enter) c.enter.result m new) is
    (enters old c.enter.new.self c.enter.result c.enter.ensures.exact c.enter.ensures.kept)
