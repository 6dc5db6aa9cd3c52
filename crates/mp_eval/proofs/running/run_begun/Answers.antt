use Rattle.std.proofs.Common.{rules}
use Rattle.mp_eval.proofs.running.run_begun.Goals as goal

pub returns-clause-ran : goal.returns-clause-ran
returns-clause-ran c = record {
  lines = search rules;
  figures = search rules;
  steps = search rules;
  unknowns = search rules;
  equations = search rules;
  end = search rules;
  sources = search rules;
  asked = search rules;
  read = search rules;
  spent = search rules;
}
