use Rattle.std.proofs.Common.{◌≡◌, ◌≤◌}
use Rattle.mp_acts.specs.Counts.{IsWithin}
use Rattle.mp_rules.specs.Machine.{coming, things}
use Rattle.mp_rules.specs.Rules.{NextRaw}
use Rattle.mp_rules.specs.Meaning.{the}
use Rattle.mp_rules.proofs.evaluator.Evaluator.raw.Given as goal

abbrev pub invariant-items : goal.invariant-items
invariant-items l = record {
  leads : the NextRaw l.fn.self ≡ the NextRaw l.self;
  went : coming l.self ≤ coming l.fn.self;
  kept : l.self.expander.budget ≡ l.fn.self.expander.budget;
  files : l.self.sources ≡ l.fn.self.sources;
  grown : IsWithin (things l.fn.self) (things l.self);
}

abbrev pub decreases-items : goal.decreases-items
decreases-items l = coming l.self
