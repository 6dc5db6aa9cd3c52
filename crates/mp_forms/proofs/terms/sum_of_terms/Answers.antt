use Rattle.std.proofs.Common.{◌+ℤ◌, FitsSigned, w64, rules, arith}
use Rattle.std.proofs.lemmas.Int.{ints, to_z-of_z}
use Rattle.mp_pool.specs.Ratios.{ratio_times}
use Rattle.mp_forms.proofs.TermLemmas.{AreTerms-head, IsMerging-left, IsMerging-both, IsMerging-right, IsMerging-none_left, IsMerging-none_right}
use Rattle.mp_forms.proofs.terms.sum_of_terms.Goals as goal
use Rattle.mp_forms.proofs.terms.sum_of_terms.Goals.{in_default, in_default-2}

pub overflow_add-coefficient : goal.overflow_add-coefficient
overflow_add-coefficient c =
    let p = AreTerms-head _ _ _ c.in-Some-Some.ensures.cases.0 c.merge.invariant.on_left in
    let q = AreTerms-head _ _ _ c.in-Some-Some.ensures'.cases.0 c.merge.invariant.on_right in
    omega (arith, ints)

pub merge-preserved-in_ok-push-in-Greater : goal.merge-preserved-in_ok-push-in-Greater
merge-preserved-in_ok-push-in-Greater c =
    let so_far = rw (c.in-Some-Some.ensures.cases.0, c.in-Some-Some.ensures'.cases.0) at c.merge.invariant in
    rw (c.in-Some-Some.ensures'.cases.0)
    (IsMerging-left (ratio_times c.args.ratio.numerator c.args.ratio.denominator) c.args.left.now c.args.right.now _ _ _ _ _ _ so_far c.in-Greater.ensures c.in_ok-push-in-Greater.ensures.items)

pub merge-preserved-in_ok-push_from-in-Equal : goal.merge-preserved-in_ok-push_from-in-Equal
merge-preserved-in_ok-push_from-in-Equal c =
    let so_far = rw (c.in-Some-Some.ensures.cases.0, c.in-Some-Some.ensures'.cases.0) at c.merge.invariant in
    let p = AreTerms-head _ _ _ c.in-Some-Some.ensures.cases.0 c.merge.invariant.on_left in
    let q = AreTerms-head _ _ _ c.in-Some-Some.ensures'.cases.0 c.merge.invariant.on_right in
    let p_fits : FitsSigned w64 c.in-Some-Some.p.now.coefficient = search rules in
    let q_fits : FitsSigned w64 c.in-Some-Some.q.now.coefficient = search rules in
    let fits : FitsSigned w64 c.times.result = search rules in
    let sum_fits : FitsSigned w64 (c.in-Some-Some.p.now.coefficient +ℤ c.times.result) = omega (arith, ints) in
    let multiple = simp to_z-of_z at c.times.ensures.exact in
    let pushed = simp to_z-of_z at c.in_ok-push_from-in-Equal.ensures in
    IsMerging-both (ratio_times c.args.ratio.numerator c.args.ratio.denominator) c.args.left.now c.args.right.now _ _ _ _ _ _ so_far c.in-Equal.ensures (simp multiple at pushed)

pub merge-preserved : goal.merge-preserved
merge-preserved c =
    let so_far = rw (c.in-Some-Some.ensures.cases.0, c.in-Some-Some.ensures'.cases.0) at c.merge.invariant in
    let q = AreTerms-head _ _ _ c.in-Some-Some.ensures'.cases.0 c.merge.invariant.on_right in
    let q_fits : FitsSigned w64 c.in-Some-Some.q.now.coefficient = search rules in
    let fits : FitsSigned w64 c.times-in-Less.result = search rules in
    let multiple = simp to_z-of_z at c.times-in-Less.ensures.exact in
    let pushed = simp to_z-of_z at c.in_ok-push_from-in-Less.ensures in
    rw (c.in-Some-Some.ensures.cases.0)
    (IsMerging-right (ratio_times c.args.ratio.numerator c.args.ratio.denominator) c.args.left.now c.args.right.now _ _ _ _ _ _ so_far c.in-Less.ensures (simp multiple at pushed))

pub returns : goal.returns
returns c =
    let change = ratio_times c.args.ratio.numerator c.args.ratio.denominator in
    rw (c.in_ok-push_each.ensures, c.in_ok-extend_from_slice.ensures.items)
    (elim c.match-split_first.branch [
      | in_default w ↦ IsMerging-none_right change c.args.left.now c.args.right.now _ _ _ w.in_default.ensures'.cases c.merge.invariant
      | in_default-2 w ↦ IsMerging-none_left change c.args.left.now c.args.right.now _ _ _ w.in_default.ensures.cases c.merge.invariant
    ])
