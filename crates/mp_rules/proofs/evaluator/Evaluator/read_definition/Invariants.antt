use Rattle.std.proofs.Common.{◌≡◌, ◌≤◌}
use Rattle.mp_macro.specs.Definitions.{start, is_whole}
use Rattle.mp_acts.specs.Counts.{IsWithin}
use Rattle.mp_acts.specs.Definitions.{group_symbols}
use Rattle.mp_rules.specs.Definitions.{unless_whole, read_on, definition_read}
use Rattle.mp_rules.specs.Machine.{coming, things}
use Rattle.mp_rules.specs.Promises.{reach_of_reading}
use Rattle.mp_expand.specs.declared.front.Front.TheVariants as front
use Rattle.mp_rules.proofs.evaluator.Evaluator.read_definition.Given as goal

abbrev pub invariant-items : goal.invariant-items
invariant-items l = record {
  leads : definition_read (start l.fn.word group_symbols) l.fn.self ≡ unless_whole (is_whole l.reader) l.reader (read_on l.self.expander.text l.reader) l.self;
  went : coming l.self ≤ coming l.fn.self;
  group : l.reader.group ≡ group_symbols;
  hand : l.self.front ≡ front.EndOfText;
  kept : l.self.expander.budget ≡ l.fn.self.expander.budget;
  files : l.self.sources ≡ l.fn.self.sources;
  grown : IsWithin (things l.fn.self) (things l.self);
  within : IsWithin (reach_of_reading l.reader) (things l.self);
}

abbrev pub decreases-items : goal.decreases-items
decreases-items l = coming l.self
