use Rattle.std.proofs.Common.{◌≡◌, ◌≤◌, ◌+◌, Some, length}
use Rattle.mp_pool.specs.Terms.{without, AreTerms}
use Rattle.mp_pool.specs.Storage.Merge.{plus, fitting}
use Rattle.mp_pool.proofs.fits.rest_count.Given as goal

abbrev pub invariant-counting : goal.invariant-counting
invariant-counting l = record {
  terms : AreTerms l.left;
  fewer : l.count + length l.left ≤ length l.fn.left;
  same : plus (Some l.count) (fitting (without l.omitted l.left)) ≡ fitting (without l.omitted l.fn.left);
}

abbrev pub decreases-counting : goal.decreases-counting
decreases-counting l = length l.left
