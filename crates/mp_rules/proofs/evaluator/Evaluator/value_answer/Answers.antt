use Rattle.std.proofs.Common.{rules}
use Rattle.mp_rules.specs.Machine.{things}
use Rattle.mp_rules.proofs.NameLemmas.{value_within}
use Rattle.mp_rules.proofs.evaluator.Evaluator.value_answer.Goals as goal

pub returns : goal.returns
returns c = record {
  meaning = search rules;
  went = search rules;
  kept = search rules;
  files = search rules;
  grown = search rules;
  within = value_within (things c.args.self.now) c.args.value c.in_ok-answer.answer c.in_ok-answer.ensures c.requires;
}
