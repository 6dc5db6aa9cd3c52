use Rattle.std.proofs.Common.{sym, ap, ◌∙◌, subst}
use Rattle.mp_pool.specs.Terms.{AreTerms}
use Rattle.mp_solver.specs.Solved.{IsSolved}
use Rattle.mp_solver.proofs.StepLemmas.{IsResidual-reduce_of}
use Rattle.mp_solver.proofs.system.System.ready.Goals as goal

pub eliminated-requires : goal.eliminated-requires
eliminated-requires c =
    let states = ap (λ s. s.unknowns.states) c.self.view_is in
    let solved = subst IsSolved states c.self.invariant.system.solved in
    let terms = subst AreTerms (ap (λ p. p.terms) c.residual.view_is) c.residual.invariant in
    IsResidual-reduce_of c.args.self.now.unknowns.states solved c.args.form.now c.in-Ok.residual c.requires (sym c.in-Ok.is ∙ c.in_ok-residual.ensures) terms
