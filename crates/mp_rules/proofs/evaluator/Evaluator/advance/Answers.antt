use Rattle.std.proofs.Common.{◌≡◌, rules, subst}
use Rattle.mp_acts.specs.State.{counts}
use Rattle.mp_rules.specs.Machine.{Machine}
use Rattle.mp_rules.specs.Promises.{Advances}
use Rattle.mp_rules.specs.contracts.evaluator.Evaluator.{the_view}
use Rattle.mp_rules.proofs.HeldLemmas.{advanced_text, advanced_given}
use Rattle.mp_rules.proofs.TextLemmas.{advances}
use Rattle.mp_rules.proofs.evaluator.Evaluator.advance.Goals as goal

pub invariant_of-self : goal.invariant_of-self
invariant_of-self c =
    let readable = c.self.invariant in
    record {
      within_text = advanced_text (counts c.self.inside.acts) c.table.result.now.names c.self.inside.expander c.next.new.self c.next.result c.next.ensures.exact c.next.ensures.lost c.table.ensures.within readable.within_text;
      within_front = readable.within_front;
      within_held = readable.within_held;
      within_value = readable.within_value;
    }

pub returns-clause-advances : goal.returns-clause-advances
returns-clause-advances c =
    let old : Machine = the_view c.self.inside in
    let new : Machine = record old { expander = c.next.new.self } in
    let is : old ≡ c.args.self.now = search rules in
    subst (λ (m : Machine). Advances c.next.result m new) is
    (advances old c.next.new.self c.next.result (rw c.table.ensures.exact at c.next.ensures.exact) c.next.ensures.kept
    (advanced_given (counts c.self.inside.acts) c.table.result.now.names c.self.inside.expander c.next.new.self c.next.result c.next.ensures.exact c.next.ensures.lost c.table.ensures.within c.self.invariant.within_text))
