use Rattle.std.proofs.Common.{◌≡◌, rules, subst}
use Rattle.std.specs.Prelude.{IfSome}
use Rattle.mp_acts.specs.Counts.{IsWithin}
use Rattle.mp_acts.specs.Reach.{reach_of_macro}
use Rattle.mp_acts.specs.State.{counts}
use Rattle.mp_rules.specs.Machine.{Machine, things}
use Rattle.mp_rules.specs.contracts.evaluator.Evaluator.{the_view}
use Rattle.mp_rules.proofs.NameLemmas.{operator_within, some_within}
use Rattle.mp_rules.proofs.evaluator.Evaluator.operator_in_hand.Goals as goal

pub returns-clause-within : goal.returns-clause-within
returns-clause-within c =
    let old : Machine = the_view c.self.inside in
    let is : old ≡ c.args.self.now = search rules in
    subst (λ (m : Machine). IfSome c.operator.result (λ a. IsWithin (reach_of_macro a.now) (things m))) is
    (some_within (counts c.self.inside.acts) (λ a. a.now) c.operator.result _ c.operator.ensures
    (operator_within (counts c.self.inside.acts) c.table.result.now.names c.args.level c.self.inside.front c.table.ensures.within))
