use Rattle.std.proofs.Common.{◌≡◌, rules, subst, sym}
use Rattle.mp_acts.specs.State.{counts}
use Rattle.mp_expand.specs.Advance.{items_of}
use Rattle.mp_expand.specs.declared.front.Front.TheVariants as front
use Rattle.mp_acts.specs.Counts.{greatest, IsWithin}
use Rattle.mp_acts.specs.Reach.{reach_of_item}
use Rattle.mp_rules.specs.Machine.{Machine, things}
use Rattle.mp_rules.specs.Promises.{Answers}
use Rattle.mp_rules.specs.contracts.evaluator.Evaluator.{the_view}
use Rattle.mp_rules.proofs.HeldLemmas.{answered_text, answered_given}
use Rattle.mp_rules.proofs.ReachLemmas.{none_in}
use Rattle.mp_rules.proofs.TextLemmas.{answers_call}
use Rattle.mp_rules.proofs.evaluator.Evaluator.answer.Goals as goal

pub invariant_of-self : goal.invariant_of-self
invariant_of-self c =
    let readable = c.self.invariant in
    let old : Machine = the_view c.self.inside in
    let is : old ≡ c.args.self.now = search rules in
    let given = subst (λ (m : Machine). IsWithin (greatest reach_of_item (items_of c.args.answer)) (things m)) (sym is) c.requires in
    record {
      within_text = answered_text (counts c.self.inside.acts) c.table.result.now.names c.args.answer c.self.inside.front c.self.inside.expander c.answer.new.self c.answer.result c.answer.ensures.exact c.answer.ensures.lost given readable.within_text;
      within_front = none_in (counts c.self.inside.acts);
      within_held = readable.within_held;
      within_value = readable.within_value;
    }

pub returns-clause-answers : goal.returns-clause-answers
returns-clause-answers c =
    let old : Machine = the_view c.self.inside in
    let new : Machine = record old { front = front.EndOfText; expander = c.answer.new.self } in
    let is : old ≡ c.args.self.now = search rules in
    let given = subst (λ (m : Machine). IsWithin (greatest reach_of_item (items_of c.args.answer)) (things m)) (sym is) c.requires in
    subst (λ (m : Machine). Answers c.args.answer c.answer.result m new) is
    (answers_call c.args.answer old c.answer.new.self c.answer.result (rw c.table.ensures.exact at c.answer.ensures.exact) c.answer.ensures.kept
    (answered_given (counts c.self.inside.acts) c.table.result.now.names c.args.answer c.self.inside.front c.self.inside.expander c.answer.new.self c.answer.result c.answer.ensures.exact c.answer.ensures.lost given c.self.invariant.within_text))
