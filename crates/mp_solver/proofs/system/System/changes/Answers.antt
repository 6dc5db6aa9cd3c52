use Rattle.std.proofs.Common.{arith}
use Rattle.mp_solver.proofs.StateLemmas.{length-forms_in}
use Rattle.mp_solver.proofs.system.System.changes.Goals as goal

pub overflow_add-result : goal.overflow_add-result
overflow_add-result c =
    omega (arith, c.count.ensures, c.self.invariant.system.states_length, c.self.invariant.system.dependent_count, length-forms_in c.self.inside.forms.states)
