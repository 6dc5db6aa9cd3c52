use Rattle.std.proofs.Common.{length, ap, arith}
use Rattle.mp_pool.proofs.Fitting.{terms-drop, count-one}
use Rattle.mp_pool.proofs.fits.rest_count.Goals as goal

pub overflow_add-count : goal.overflow_add-count
overflow_add-count c = omega (arith, c.counting.invariant.fewer, c.requires.few, c.stays-count.ensures.bounded)

pub counting-preserved : goal.counting-preserved
counting-preserved c =
    let n = ap length c.in-Some.ensures.some in
    record {
      terms = rw c.step.ensures (terms-drop _ c.counting.invariant.terms);
      fewer = rw c.step.ensures (omega (arith, c.counting.invariant.fewer, c.stays-count.ensures.bounded, n));
      same = rw c.step.ensures
          (count-one c.args.omitted c.counting.left c.in-Some.p c.counting.count c.stays-count.result _ c.in-Some.ensures.some
          c.counting.invariant.terms c.stays-count.ensures.exact c.counting.invariant.same);
    }
