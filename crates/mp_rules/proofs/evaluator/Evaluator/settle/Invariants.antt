use Rattle.std.proofs.Common.{◌≡◌, ◌≤◌, reverse, vec_len}
use Rattle.mp_acts.specs.Counts.{IsWithin}
use Rattle.mp_rules.specs.Machine.{left, things}
use Rattle.mp_acts.specs.Reach.{reach}
use Rattle.mp_rules.specs.Chains.{settle, reach_of_sides}
use Rattle.mp_rules.specs.Steps.{acting}
use Rattle.mp_rules.proofs.evaluator.Evaluator.settle.Given as goal

abbrev pub invariant-sides : goal.invariant-sides
invariant-sides l = record {
  leads : acting (settle (reverse l.fn.sides.items) l.value) l.fn.self ≡ acting (settle (reverse l.left.items) l.value) l.self;
  went : left l.self ≤ left l.fn.self;
  kept : l.self.expander.budget ≡ l.fn.self.expander.budget;
  files : l.self.sources ≡ l.fn.self.sources;
  grown : IsWithin (things l.fn.self) (things l.self);
  within : IsWithin (reach_of_sides (reverse l.left.items)) (things l.self);
  known : IsWithin (reach l.value) (things l.self);
}

abbrev pub decreases-sides : goal.decreases-sides
decreases-sides l = vec_len l.left
