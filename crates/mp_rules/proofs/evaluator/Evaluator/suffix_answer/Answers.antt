use Rattle.std.proofs.Common.{rules}
use Rattle.mp_rules.specs.Machine.{things}
use Rattle.mp_rules.proofs.NameLemmas.{suffix_within}
use Rattle.mp_rules.proofs.evaluator.Evaluator.suffix_answer.Goals as goal

pub returns : goal.returns
returns c = record {
  meaning = search rules;
  went = search rules;
  kept = search rules;
  files = search rules;
  grown = search rules;
  within = suffix_within (things c.args.self.now) c.args.parts c.in_ok-answer.answer (rw c.as_slice.ensures at c.in_ok-answer.ensures) c.requires;
}
