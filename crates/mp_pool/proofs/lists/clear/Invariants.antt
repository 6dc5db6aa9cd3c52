use Rattle.std.proofs.Common.{◌≡◌, ◌+◌, length}
use Rattle.mp_pool.specs.Storage.Chains.{chain_of}
use Rattle.mp_pool.specs.Storage.Frames.{OnlyTwo}
use Rattle.mp_pool.proofs.lists.clear.Given as goal

abbrev pub invariant-clearing : goal.invariant-clearing
invariant-clearing l = record {
  rest : OnlyTwo l.fn.cells l.cells 0 l.chain;
  cells : length (chain_of l.cells 0) + length (chain_of l.cells l.chain) ≡ length (chain_of l.fn.cells 0) + length (chain_of l.fn.cells l.chain);
}

abbrev pub decreases-clearing : goal.decreases-clearing
decreases-clearing l = length (chain_of l.cells l.chain)
