use Rattle.std.proofs.Common.{◌≡◌, ◌++◌}
use Rattle.mp_solver.proofs.view.FormView.to_form.Given as goal

abbrev pub invariant-terms : goal.invariant-terms
invariant-terms l = l.terms.items ++ l.term-iterator ≡ l.self.terms
