use Rattle.std.proofs.Common.{◌≡◌}
use Rattle.mp_pool.specs.Terms.{term_of, AreTerms}
use Rattle.mp_solver.proofs.view.FormView.term_of.Given as goal

abbrev pub invariant-terms : goal.invariant-terms
invariant-terms l = record {
  ordered : AreTerms l.term-iterator;
  same : term_of l.serial l.term-iterator ≡ term_of l.serial l.self.terms;
}
