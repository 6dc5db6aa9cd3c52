use Rattle.std.proofs.Common.{drop}
use Rattle.mp_solver.specs.Elimination.{solved_for}
use Rattle.mp_solver.proofs.VisitLemmas.{IsVisit}
use Rattle.mp_solver.proofs.system.System.substituted.Given as goal

abbrev pub invariant-rows : goal.invariant-rows
invariant-rows l = IsVisit l.self.unknowns.states l.pivot.serial (solved_for l.pivot l.residual) (drop l.row-index l.row-items) l.tally.overflows l.tally.unchanged l.tally.added l.tally.peak
