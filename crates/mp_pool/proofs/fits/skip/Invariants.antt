use Rattle.std.proofs.Common.{◌≡◌, ◌≤◌, ◌+◌, ◌∷◌, List, Some, length}
use Rattle.std.specs.Prelude.{ℤ}
use Rattle.mp_pool.specs.declared.Term.{Term}
use Rattle.mp_pool.specs.Terms.{without, AreTerms}
use Rattle.mp_pool.specs.Storage.Merge.{merge, plus, fitting}
use Rattle.mp_pool.proofs.fits.skip.Given as goal

abbrev pub invariant-skipping : goal.invariant-skipping
invariant-skipping l = record {
  terms : AreTerms l.left;
  fewer : l.count + length l.left ≤ length l.fn.left;
  same : (change : ℤ → ℤ) (q : Term) (qs : List Term) → q.serial ≡ l.serial →
      plus (Some l.count) (fitting (merge change (without l.omitted l.left) (q ∷ qs))) ≡ fitting (merge change (without l.omitted l.fn.left) (q ∷ qs));
}

abbrev pub decreases-skipping : goal.decreases-skipping
decreases-skipping l = length l.left
