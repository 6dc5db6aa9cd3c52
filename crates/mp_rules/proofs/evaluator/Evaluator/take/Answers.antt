use Rattle.std.proofs.Common.{◌≡◌, rules, subst}
use Rattle.mp_acts.specs.State.{counts}
use Rattle.mp_rules.specs.Machine.{Machine}
use Rattle.mp_rules.specs.Promises.{Took}
use Rattle.mp_rules.specs.contracts.evaluator.Evaluator.{the_view}
use Rattle.mp_rules.proofs.HeldLemmas.{taken_text, taken_given}
use Rattle.mp_rules.proofs.TextLemmas.{takes}
use Rattle.mp_rules.proofs.evaluator.Evaluator.take.Goals as goal

pub invariant_of-self : goal.invariant_of-self
invariant_of-self c =
    let readable = c.self.invariant in
    record {
      within_text = taken_text (counts c.self.inside.acts) c.self.inside.expander c.take.new.self c.take.result c.take.ensures.exact c.take.ensures.whole readable.within_text;
      within_front = readable.within_front;
      within_held = readable.within_held;
      within_value = readable.within_value;
    }

pub returns-clause-took : goal.returns-clause-took
returns-clause-took c =
    let old : Machine = the_view c.self.inside in
    let new : Machine = record old { expander = c.take.new.self } in
    let is : old ≡ c.args.self.now = search rules in
    subst (λ (m : Machine). Took c.take.result m new) is
    (takes old c.take.new.self c.take.result c.take.ensures.exact c.take.ensures.kept
    (taken_given (counts c.self.inside.acts) c.self.inside.expander c.take.new.self c.take.result c.take.ensures.exact c.take.ensures.whole c.self.invariant.within_text))
