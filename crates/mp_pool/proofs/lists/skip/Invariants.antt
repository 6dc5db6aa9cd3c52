use Rattle.std.proofs.Common.{◌≡◌, ◌+◌, ◌++◌, ◌^◌, length}
use Rattle.mp_pool.specs.Terms.{SerialsDecrease, without, term_of}
use Rattle.mp_pool.specs.Storage.Chains.{chain_of}
use Rattle.mp_pool.specs.Storage.Frames.{OnlyTwo}
use Rattle.mp_pool.proofs.lists.skip.Given as goal

abbrev pub invariant-skipping : goal.invariant-skipping
invariant-skipping l = record {
  rest : OnlyTwo l.fn.cells l.cells l.chain 1;
  cells : length (chain_of l.cells l.chain) + length (chain_of l.cells 1) ≡ length (chain_of l.fn.cells l.chain) + length (chain_of l.fn.cells 1);
  ordered : SerialsDecrease (2 ^ 32) (chain_of l.cells l.chain);
  others : chain_of l.cells 1 ++ without l.serial (chain_of l.cells l.chain) ≡ chain_of l.fn.cells 1 ++ without l.serial (chain_of l.fn.cells l.chain);
  same : term_of l.serial (chain_of l.cells l.chain) ≡ term_of l.serial (chain_of l.fn.cells l.chain);
}

abbrev pub decreases-skipping : goal.decreases-skipping
decreases-skipping l = length (chain_of l.cells l.chain)
