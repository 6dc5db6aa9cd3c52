use Rattle.std.proofs.Common.{◌≡◌, Ok, ap, ◌∙◌, subst}
use Rattle.std.specs.Result.{IfOk}
use Rattle.std.proofs.lemmas.Result.{IfOk-weaker}
use Rattle.mp_solver.specs.States.{IsOver}
use Rattle.mp_solver.specs.Reduction.{reduce_of}
use Rattle.mp_solver.specs.Solved.{IsReduced, IsSolved}
use Rattle.mp_solver.proofs.ReducedLemmas.{reduce_of_reduced}
use Rattle.mp_solver.proofs.StepLemmas.{reduced-reduce_of, over-reduce_of, again-reduce_of}
use Rattle.mp_solver.proofs.system.System.reduce.Goals as goal

solved : (c : goal.After-up_to_date) → IsSolved c.args.self.now.unknowns.states
solved c = subst IsSolved (ap (λ s. s.unknowns.states) c.self.view_is) c.self.invariant.system.solved

pub returns-clause-unchanged : goal.returns-clause-unchanged
returns-clause-unchanged c =
    let states = c.args.self.now.unknowns.states in
    let p = c.args.form.now in
    λ free. IfOk-weaker c.up_to_date.result (λ answer. answer ≡ reduce_of states p) (λ answer. answer ≡ Ok p) (λ answer is. is ∙ reduce_of_reduced states p free) c.up_to_date.ensures

pub returns-clause-reduced : goal.returns-clause-reduced
returns-clause-reduced c =
    let states = c.args.self.now.unknowns.states in
    let p = c.args.form.now in
    IfOk-weaker c.up_to_date.result (λ answer. answer ≡ reduce_of states p) (λ answer. IfOk answer (IsReduced states)) (λ answer is. reduced-reduce_of states (solved c) p answer c.requires is) c.up_to_date.ensures

pub returns-clause-over : goal.returns-clause-over
returns-clause-over c =
    let states = c.args.self.now.unknowns.states in
    let p = c.args.form.now in
    IfOk-weaker c.up_to_date.result (λ answer. answer ≡ reduce_of states p) (λ answer. IfOk answer (IsOver states)) (λ answer is. over-reduce_of states (solved c) p answer c.requires is) c.up_to_date.ensures

pub returns-clause-again : goal.returns-clause-again
returns-clause-again c =
    let states = c.args.self.now.unknowns.states in
    let p = c.args.form.now in
    IfOk-weaker c.up_to_date.result (λ answer. answer ≡ reduce_of states p) (λ answer. IfOk answer (λ q. reduce_of states q ≡ Ok q)) (λ answer is. again-reduce_of states (solved c) p answer c.requires is) c.up_to_date.ensures
