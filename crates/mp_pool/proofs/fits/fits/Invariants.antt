use Rattle.std.proofs.Common.{◌≡◌, ◌≤◌, ◌+◌, Some, length, drop}
use Rattle.mp_pool.specs.Ratios.{times_fraction}
use Rattle.mp_pool.specs.Terms.{without, AreTerms}
use Rattle.mp_pool.specs.Storage.Merge.{merge, plus, fitting}
use Rattle.mp_pool.proofs.fits.fits.Given as goal

abbrev pub invariant-fitting : goal.invariant-fitting
invariant-fitting l = record {
  terms : AreTerms l.left;
  shorter : length l.left ≤ length l.fn.left;
  fewer : l.count + length l.left ≤ length l.fn.left + l.q-index;
  same : plus (Some l.count) (fitting (merge (times_fraction l.f) (without l.omitted l.left) (drop l.q-index l.right)))
      ≡ fitting (merge (times_fraction l.f) (without l.omitted l.fn.left) l.right);
}
