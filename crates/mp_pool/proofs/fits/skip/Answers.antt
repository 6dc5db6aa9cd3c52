use Rattle.std.proofs.Common.{length, ap, arith}
use Rattle.mp_pool.proofs.Fitting.{terms-drop, skip-one}
use Rattle.mp_pool.proofs.fits.skip.Goals as goal

pub overflow_add-count : goal.overflow_add-count
overflow_add-count c = omega (arith, c.skipping.invariant.fewer, c.requires.few, c.stays-count.ensures.bounded)

pub skipping-preserved : goal.skipping-preserved
skipping-preserved c =
    let n = ap length c.in-Some.ensures.some in
    record {
      terms = rw c.step.ensures (terms-drop _ c.skipping.invariant.terms);
      fewer = rw c.step.ensures (omega (arith, c.skipping.invariant.fewer, c.stays-count.ensures.bounded, n));
      same = λ change q qs e. rw c.step.ensures
          (skip-one c.args.omitted change c.skipping.left c.in-Some.p q qs c.skipping.count c.stays-count.result _ c.in-Some.ensures.some (omega arith)
          c.skipping.invariant.terms c.stays-count.ensures.exact (c.skipping.invariant.same change q qs e));
    }
