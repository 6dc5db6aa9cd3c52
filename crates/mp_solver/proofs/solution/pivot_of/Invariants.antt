use Rattle.std.proofs.Common.{◌≡◌, take}
use Rattle.std.specs.List.{best_of}
use Rattle.mp_solver.specs.Elimination.{outranks}
use Rattle.mp_solver.proofs.solution.pivot_of.Given as goal

abbrev pub invariant-terms : goal.invariant-terms
invariant-terms l = l.pivot ≡ best_of outranks l.initial.pivot (take l.term-index l.rest)
