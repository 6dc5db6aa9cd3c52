use Rattle.std.proofs.Common.{◌≡◌, take}
use Rattle.mp_pool.specs.Terms.{changed_terms}
use Rattle.mp_solver.specs.Elimination.{over_negative}
use Rattle.mp_solver.proofs.solution.quotients.Given as goal

abbrev pub invariant-terms : goal.invariant-terms
invariant-terms l = l.quotients.items ≡ changed_terms (over_negative l.v) (take l.term-index l.terms)
