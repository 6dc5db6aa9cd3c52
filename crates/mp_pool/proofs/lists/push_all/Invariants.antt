use Rattle.std.proofs.Common.{◌≡◌, ◌+◌, ◌++◌, length, take}
use Rattle.mp_pool.specs.Storage.Chains.{chain_of}
use Rattle.mp_pool.specs.Storage.Frames.{OnlyTwo}
use Rattle.mp_pool.proofs.lists.push_all.Given as goal

abbrev pub invariant-pushing : goal.invariant-pushing
invariant-pushing l = record {
  rest : OnlyTwo l.fn.cells l.cells 0 l.chain;
  list : chain_of l.cells l.chain ≡ chain_of l.fn.cells l.chain ++ take l.term-index l.terms;
  cells : length (chain_of l.cells 0) + length (chain_of l.cells l.chain) ≡ length (chain_of l.fn.cells 0) + length (chain_of l.fn.cells l.chain);
}
