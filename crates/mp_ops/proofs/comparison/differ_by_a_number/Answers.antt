use Rattle.std.proofs.Common.{◌≡◌, length, sym, arith}
use Rattle.std.proofs.lemmas.Bool.Decides.{nat_tests}
use Rattle.mp_ops.proofs.ComparisonLemmas.{none_between}
use Rattle.mp_ops.proofs.comparison.differ_by_a_number.Goals as goal

pub returns-then-is_empty-2 : goal.returns-then-is_empty-2
returns-then-is_empty-2 c =
    let left : length c.args.p.now.terms ≡ 0 = grind (arith, nat_tests, c.if-is_empty.ensures, c.terms.ensures.same) in
    let right : length c.args.q.now.terms ≡ 0 = grind (arith, nat_tests, c.if-is_empty-2.ensures, c.terms-then-is_empty.ensures.same) in
    sym (none_between c.args.p.now c.args.q.now left right)
