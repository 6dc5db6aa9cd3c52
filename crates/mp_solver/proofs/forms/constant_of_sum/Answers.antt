use Rattle.std.proofs.Common.{◌+ℤ◌, FitsSigned, w64, ap, rules, arith}
use Rattle.std.proofs.lemmas.Int.{ints, to_z-of_z}
use Rattle.mp_solver.proofs.forms.constant_of_sum.Goals as goal

pub returns : goal.returns
returns c =
    let left_fits = c.ranges.constant in
    let right_fits = c.ranges.other in
    let f_fits : FitsSigned w64 c.args.f = c.ranges.f in
    let left = simp to_z-of_z at c.from.ensures in
    let right = simp to_z-of_z at c.from-2.ensures in
    let fits : FitsSigned w64 c.args.other = omega (arith, ints) in
    let times_fits : FitsSigned w64 c.times.result = search rules in
    let left_fits' : FitsSigned w64 c.args.constant = omega (arith, ints) in
    let times = simp (right, c.fraction.ensures.numerator, c.fraction.ensures.denominator, to_z-of_z) at c.times.ensures.exact in
    let sum_fits : FitsSigned w64 (c.args.constant +ℤ c.times.result) = omega (arith, ints) in
    simp (left, to_z-of_z) (ap (λ z. c.args.constant +ℤ z) times)
