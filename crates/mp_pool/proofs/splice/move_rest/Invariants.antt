use Rattle.std.proofs.Common.{◌≡◌, ◌+◌, ◌++◌, length}
use Rattle.mp_pool.specs.Storage.Chains.{chain_of}
use Rattle.mp_pool.specs.Storage.Frames.{OnlyTwo}
use Rattle.mp_pool.proofs.splice.move_rest.Given as goal

abbrev pub invariant-moving : goal.invariant-moving
invariant-moving l = record {
  rest : OnlyTwo l.fn.cells l.cells l.left 1;
  cells : length (chain_of l.cells l.left) + length (chain_of l.cells 1) ≡ length (chain_of l.fn.cells l.left) + length (chain_of l.fn.cells 1);
  moved : chain_of l.cells 1 ++ chain_of l.cells l.left ≡ chain_of l.fn.cells 1 ++ chain_of l.fn.cells l.left;
}

abbrev pub decreases-moving : goal.decreases-moving
decreases-moving l = length (chain_of l.cells l.left)
