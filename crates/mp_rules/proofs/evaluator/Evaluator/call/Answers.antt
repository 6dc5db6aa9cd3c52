use Rattle.std.proofs.Common.{◌≡◌, rules, subst, sym}
use Rattle.mp_acts.specs.State.{counts}
use Rattle.mp_acts.specs.Counts.{greatest, IsWithin}
use Rattle.mp_acts.specs.Reach.{reach_of_item, reach_of_macro}
use Rattle.mp_rules.specs.Machine.{Machine, things}
use Rattle.mp_rules.specs.Promises.{Calls}
use Rattle.mp_rules.specs.contracts.evaluator.Evaluator.{the_view}
use Rattle.mp_rules.proofs.HeldLemmas.{called_text, called_given}
use Rattle.mp_rules.proofs.TextLemmas.{calls_macro}
use Rattle.mp_rules.proofs.evaluator.Evaluator.call.Goals as goal

pub invariant_of-self : goal.invariant_of-self
invariant_of-self c =
    let readable = c.self.invariant in
    let old : Machine = the_view c.self.inside in
    let is : old ≡ c.args.self.now = search rules in
    let body = subst (λ (m : Machine). IsWithin (reach_of_macro c.args.called) (things m)) (sym is) c.requires.body in
    let arguments = subst (λ (m : Machine). IsWithin (greatest (greatest reach_of_item) c.args.arguments) (things m)) (sym is) c.requires.arguments in
    record {
      within_text = called_text (counts c.self.inside.acts) c.args.called c.args.arguments c.self.inside.expander c.call.new.self c.call.result c.call.ensures.exact c.call.ensures.whole body arguments readable.within_text;
      within_front = readable.within_front;
      within_held = readable.within_held;
      within_value = readable.within_value;
    }

pub returns-clause-calls : goal.returns-clause-calls
returns-clause-calls c =
    let old : Machine = the_view c.self.inside in
    let new : Machine = record old { expander = c.call.new.self } in
    let is : old ≡ c.args.self.now = search rules in
    let body = subst (λ (m : Machine). IsWithin (reach_of_macro c.args.called) (things m)) (sym is) c.requires.body in
    let arguments = subst (λ (m : Machine). IsWithin (greatest (greatest reach_of_item) c.args.arguments) (things m)) (sym is) c.requires.arguments in
    subst (λ (m : Machine). Calls c.args.called c.args.arguments c.call.result m new) is
    (calls_macro c.args.called c.args.arguments old c.call.new.self c.call.result c.call.ensures.exact c.call.ensures.kept
    (called_given (counts c.self.inside.acts) c.args.called c.args.arguments c.self.inside.expander c.call.new.self c.call.result c.call.ensures.exact c.call.ensures.whole body arguments c.self.invariant.within_text))
