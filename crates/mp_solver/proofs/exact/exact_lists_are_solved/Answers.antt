use Rattle.mp_solver.proofs.ExactLemmas.{exact_lists}
use Rattle.mp_solver.proofs.exact.exact_lists_are_solved.Goals as goal

pub returns : goal.returns
returns c = exact_lists c.terms_stay_in_order.ensures
