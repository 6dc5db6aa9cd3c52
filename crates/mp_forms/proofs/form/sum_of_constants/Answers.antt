use Rattle.std.proofs.Common.{◌+ℤ◌, FitsSigned, w64, ap, rules, arith}
use Rattle.std.proofs.lemmas.Int.{ints, to_z-of_z}
use Rattle.mp_forms.proofs.form.sum_of_constants.Goals as goal

pub returns : goal.returns
returns c =
    let left_fits = c.ranges.left in
    let right_fits = c.ranges.right in
    let left = simp to_z-of_z at c.from.ensures in
    let right = simp to_z-of_z at c.from-2.ensures in
    let fits : FitsSigned w64 c.args.right = omega (arith, ints) in
    let times_fits : FitsSigned w64 c.times.result = search rules in
    let left_fits' : FitsSigned w64 c.args.left = omega (arith, ints) in
    let times = simp (right, to_z-of_z) at c.times.ensures.exact in
    let sum_fits : FitsSigned w64 (c.args.left +ℤ c.times.result) = omega (arith, ints) in
    simp (left, to_z-of_z) (ap (λ z. c.args.left +ℤ z) times)
