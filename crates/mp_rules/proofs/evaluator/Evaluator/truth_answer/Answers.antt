use Rattle.std.proofs.Common.{rules}
use Rattle.mp_rules.specs.Machine.{things}
use Rattle.mp_rules.proofs.NameLemmas.{truth_within}
use Rattle.mp_rules.proofs.evaluator.Evaluator.truth_answer.Goals as goal

pub returns : goal.returns
returns c = record {
  meaning = search rules;
  went = search rules;
  kept = search rules;
  files = search rules;
  grown = search rules;
  within = truth_within (things c.args.self.now) c.in_ok-truth.truth;
}
