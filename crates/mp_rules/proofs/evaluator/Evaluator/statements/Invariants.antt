use Rattle.std.proofs.Common.{◌≡◌, ◌≤◌}
use Rattle.mp_acts.specs.Counts.{IsWithin}
use Rattle.mp_rules.specs.Machine.{left, things}
use Rattle.mp_rules.specs.Rules.{Statements}
use Rattle.mp_rules.specs.Meaning.{the}
use Rattle.mp_rules.proofs.evaluator.Evaluator.statements.Given as goal

abbrev pub invariant-statements : goal.invariant-statements
invariant-statements l = record {
  leads : the Statements l.fn.self ≡ the Statements l.self;
  went : left l.self ≤ left l.fn.self;
  kept : l.self.expander.budget ≡ l.fn.self.expander.budget;
  files : l.self.sources ≡ l.fn.self.sources;
  grown : IsWithin (things l.fn.self) (things l.self);
}

abbrev pub decreases-statements : goal.decreases-statements
decreases-statements l = left l.self
