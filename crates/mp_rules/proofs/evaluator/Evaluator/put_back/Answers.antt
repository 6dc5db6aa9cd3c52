use Rattle.std.proofs.Common.{◌≡◌, rules, subst, sym}
use Rattle.mp_acts.specs.Counts.{IsWithin}
use Rattle.mp_acts.specs.Reach.{reach_of_item}
use Rattle.mp_acts.specs.State.{counts}
use Rattle.mp_rules.specs.Machine.{Machine, things}
use Rattle.mp_rules.specs.Reach.{reach_of_maybe_item}
use Rattle.mp_rules.specs.contracts.evaluator.Evaluator.{the_view}
use Rattle.mp_rules.proofs.HeldLemmas.{back_text}
use Rattle.mp_rules.proofs.evaluator.Evaluator.put_back.Goals as goal

pub invariant_of-self : goal.invariant_of-self
invariant_of-self c =
    let readable = c.self.invariant in
    let old : Machine = the_view c.self.inside in
    let is : old ≡ c.args.self.now = search rules in
    let item = subst (λ (m : Machine). IsWithin (reach_of_item c.in-Some.item) (things m)) (sym is) (rw c.in-Some.is at c.requires.within) in
    record {
      within_text = back_text (counts c.self.inside.acts) c.in-Some.item c.self.inside.expander c.put_back.new.self c.put_back.result c.put_back.ensures.exact c.put_back.ensures.err item readable.within_text;
      within_front = readable.within_front;
      within_held = readable.within_held;
      within_value = readable.within_value;
    }
