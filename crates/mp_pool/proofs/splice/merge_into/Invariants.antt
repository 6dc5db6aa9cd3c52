use Rattle.std.proofs.Common.{◌≡◌, ◌≤◌, ◌+◌, ◌++◌, length, drop}
use Rattle.mp_pool.specs.Storage.Chains.{chain_of}
use Rattle.mp_pool.specs.Storage.Frames.{OnlyThree}
use Rattle.mp_pool.specs.Ratios.{times_fraction}
use Rattle.mp_pool.specs.Storage.Merge.{merge, AreSmall}
use Rattle.mp_pool.proofs.splice.merge_into.Given as goal

abbrev pub invariant-merging : goal.invariant-merging
invariant-merging l = record {
  others : OnlyThree l.fn.cells l.cells l.left 1 0;
  cells : length (chain_of l.cells l.left) + length (chain_of l.cells 1) + length (chain_of l.cells 0)
      ≡ length (chain_of l.fn.cells l.left) + length (chain_of l.fn.cells 0);
  spare : length l.right ≤ length (chain_of l.cells 0) + l.q-index;
  small : AreSmall (chain_of l.cells l.left);
  same : chain_of l.cells 1 ++ merge (times_fraction l.f) (chain_of l.cells l.left) (drop l.q-index l.right)
      ≡ merge (times_fraction l.f) (chain_of l.fn.cells l.left) l.right;
}
