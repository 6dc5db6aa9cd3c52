use Rattle.std.proofs.Common.{◌≡◌, ◌∙◌, arith}
use Rattle.mp_solver.proofs.ReplacementLemmas.{term_of-pass, terms-rest}
use Rattle.mp_solver.proofs.view.FormView.term_of.Goals as goal

pub terms-preserved : goal.terms-preserved
terms-preserved c =
    let steps = c.in-Some.ensures.steps in
    let other : c.in-Some.term.serial ≡ c.args.serial → ⊥ = λ e. omega (arith, e, c.if-term-serial.false) in
    record {
      ordered = terms-rest c.in-Some.term c.next.new.self c.terms.term-iterator steps c.terms.invariant.ordered;
      same = term_of-pass c.args.serial c.in-Some.term c.next.new.self c.terms.term-iterator steps other ∙ c.terms.invariant.same;
    }
