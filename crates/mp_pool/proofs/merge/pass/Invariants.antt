use Rattle.std.proofs.Common.{◌≡◌, ◌+◌, ◌++◌, ◌∷◌, List, length}
use Rattle.std.specs.Prelude.{ℤ}
use Rattle.mp_pool.specs.declared.Term.{Term}
use Rattle.mp_pool.specs.Storage.Chains.{chain_of}
use Rattle.mp_pool.specs.Storage.Frames.{OnlyTwo}
use Rattle.mp_pool.specs.Storage.Merge.{merge, AreSmall}
use Rattle.mp_pool.proofs.merge.pass.Given as goal

abbrev pub invariant-passing : goal.invariant-passing
invariant-passing l = record {
  rest : OnlyTwo l.fn.cells l.cells l.left l.done;
  cells : length (chain_of l.cells l.left) + length (chain_of l.cells l.done) ≡ length (chain_of l.fn.cells l.left) + length (chain_of l.fn.cells l.done);
  small : AreSmall (chain_of l.cells l.left);
  same : (change : ℤ → ℤ) (q : Term) (qs : List Term) → q.serial ≡ l.serial →
      chain_of l.cells l.done ++ merge change (chain_of l.cells l.left) (q ∷ qs) ≡ chain_of l.fn.cells l.done ++ merge change (chain_of l.fn.cells l.left) (q ∷ qs);
}

abbrev pub decreases-passing : goal.decreases-passing
decreases-passing l = length (chain_of l.cells l.left)
