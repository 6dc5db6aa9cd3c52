use Rattle.std.proofs.Common.{FitsSigned, w32, refl, ◌∙◌, rules, arith}
use Rattle.std.proofs.lemmas.Int.{to_z-of_z}
use Rattle.std.proofs.lemmas.List.{take_all}
use Rattle.mp_solver.proofs.ReductionLemmas.{AreTerms-filter}
use Rattle.mp_solver.proofs.system.System.independent_part.Goals as goal

pub of_terms-requires : goal.of_terms-requires
of_terms-requires c =
    rw (c.terms.invariant, take_all c.terms.term-index c.terms-terms.result.now (omega arith))
    (AreTerms-filter _ c.terms-terms.result.now c.terms-terms.ensures.ordered)

pub returns : goal.returns
returns c =
    let fits : FitsSigned w32 c.constant.result = search rules in
    let made = simp to_z-of_z at c.of_terms.ensures in
    let independent = rw (take_all c.terms.term-index c.terms-terms.result.now (omega arith)) at c.terms.invariant in
    made ∙ simp (c.constant.ensures, independent, c.terms-terms.ensures.same) refl
