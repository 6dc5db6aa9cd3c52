use Rattle.std.proofs.Common.{take}
use Rattle.mp_solver.specs.Solved.{IsReduced}
use Rattle.mp_solver.proofs.system.System.is_reduced.Given as goal

abbrev pub invariant-terms : goal.invariant-terms
invariant-terms l = IsReduced l.self.unknowns.states (record { constant = l.form.constant; terms = take l.term-index l.terms })
