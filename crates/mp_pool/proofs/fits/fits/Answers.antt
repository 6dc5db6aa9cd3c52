use Rattle.std.proofs.Common.{◌≡◌, [], drop, w64, FitsSigned, arith}
use Rattle.std.proofs.lemmas.Int.{to_z-of_z}
use Rattle.std.proofs.lemmas.List.{drop_all}
use Rattle.mp_pool.specs.Ratios.{times_fraction}
use Rattle.mp_pool.specs.Terms.{without}
use Rattle.mp_pool.proofs.Fitting.{fit-end}
use Rattle.mp_pool.proofs.fits.fits.Goals as goal

pub returns : goal.returns
returns c =
    let fits_f : FitsSigned w64 c.args.f = c.ranges.f in
    let none : drop c.fitting.q-index c.args.right.now ≡ [] = drop_all c.fitting.q-index c.args.right.now (omega arith) in
    fit-end (times_fraction c.args.f) (without c.args.omitted c.fitting.left) (drop c.fitting.q-index c.args.right.now) c.fitting.count c.rest_count.result _
    none c.rest_count.ensures.exact (simp to_z-of_z at c.fitting.invariant.same)
