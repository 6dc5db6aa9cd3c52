use Rattle.std.proofs.Common.{sym}
use Rattle.mp_solver.proofs.ReducedLemmas.{reduce_of_reduced}
use Rattle.mp_solver.proofs.system.System.reduce_owned.Goals as goal

pub returns-then-is_reduced-clause-exact : goal.returns-then-is_reduced-clause-exact
returns-then-is_reduced-clause-exact c = sym (reduce_of_reduced c.args.self.now.unknowns.states c.args.form (c.is_reduced.ensures.0 c.if-is_reduced.true))

pub returns-then-is_reduced-clause-again : goal.returns-then-is_reduced-clause-again
returns-then-is_reduced-clause-again c = reduce_of_reduced c.args.self.now.unknowns.states c.args.form (c.is_reduced.ensures.0 c.if-is_reduced.true)
