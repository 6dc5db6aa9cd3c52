use Rattle.std.proofs.Common.{sym, ap, ◌∙◌}
use Rattle.mp_solver.specs.Elimination.{pivot_of}
use Rattle.mp_solver.proofs.EliminationLemmas.{pivot_coefficient}
use Rattle.mp_solver.proofs.TermLists.{greatest-pivot_of}
use Rattle.mp_solver.proofs.system.System.eliminated.Goals as goal

pub solved_for-requires-clause-small : goal.solved_for-requires-clause-small
solved_for-requires-clause-small c =
    let found = ap pivot_of (sym c.terms.ensures.same) ∙ sym c.in-Some.ensures in
    (pivot_coefficient c.args.self.now.unknowns.states c.args.residual.now c.requires c.in-Some.pivot found).1

pub solved_for-requires-clause-greatest : goal.solved_for-requires-clause-greatest
solved_for-requires-clause-greatest c =
    let found = ap pivot_of (sym c.terms.ensures.same) ∙ sym c.in-Some.ensures in
    greatest-pivot_of c.args.residual.now.terms c.in-Some.pivot found
