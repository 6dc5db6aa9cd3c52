use Rattle.std.proofs.Common.{◌≡◌, take}
use Rattle.mp_solver.specs.Elimination.{without}
use Rattle.mp_solver.proofs.solution.without.Given as goal

abbrev pub invariant-terms : goal.invariant-terms
invariant-terms l = l.others.items ≡ without l.serial (take l.term-index l.terms)
