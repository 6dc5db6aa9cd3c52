use Rattle.mp_solver.proofs.JudgedLemmas.{redundant-where, inconsistent-where}
use Rattle.mp_solver.proofs.LimitLemmas.{too_large-where, overflow-where, limit-where, accepted-where}
use Rattle.mp_solver.proofs.system.System.equate.Goals as goal

pub returns-clause-redundant : goal.returns-clause-redundant
returns-clause-redundant c = λ r. redundant-where _ _ r _ _ c.take.ensures.exact

pub returns-clause-inconsistent : goal.returns-clause-inconsistent
returns-clause-inconsistent c = λ r. inconsistent-where _ _ r _ _ c.take.ensures.exact

pub returns-clause-too_large : goal.returns-clause-too_large
returns-clause-too_large c = too_large-where c.args.self.now.unknowns.states c.args.ready.residual _ _ c.take.ensures.exact

pub returns-clause-overflow : goal.returns-clause-overflow
returns-clause-overflow c = overflow-where c.args.self.now.unknowns.states c.args.ready.residual _ _ c.take.ensures.exact

pub returns-clause-limit : goal.returns-clause-limit
returns-clause-limit c = limit-where c.args.self.now.unknowns.states c.args.ready.residual _ _ c.take.ensures.exact

pub returns-clause-accepted : goal.returns-clause-accepted
returns-clause-accepted c = accepted-where c.args.self.now.unknowns.states c.args.ready.residual _ _ c.take.ensures.exact
