use Rattle.std.proofs.Common.{arith}
use Rattle.mp_eval.proofs.Readings.{short_result, within_result}
use Rattle.mp_eval.proofs.running.try_run_on.Goals as goal

pub returns-clause-ran : goal.returns-clause-ran
returns-clause-ran c = short_result _ _ _ _ _ _ (grind arith) c.in_ok-evaluator_of.ensures c.run_begun.ensures.ran

pub returns-clause-within : goal.returns-clause-within
returns-clause-within c = within_result _ _ _ _ _ _ c.in_ok-evaluator_of.ensures c.run_begun.ensures.within
