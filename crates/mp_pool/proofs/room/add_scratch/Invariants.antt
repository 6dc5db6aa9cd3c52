use Rattle.std.proofs.Common.{◌≡◌, ◌-◌, ◌≤◌, ℕ, List, max, length}
use Rattle.std.specs.List.{sum_by}
use Rattle.mp_pool.specs.declared.Term.{Term}
use Rattle.mp_pool.specs.Storage.Chains.{chain_of}
use Rattle.mp_pool.proofs.room.add_scratch.Given as goal

abbrev pub invariant-chains : goal.invariant-chains
invariant-chains l = record {
  longer : length l.fn.cells ≤ length l.cells;
  shorter : length l.cells ≤ max (length l.fn.cells) 3;
  same : (k : ℕ) → chain_of l.cells k ≡ chain_of l.fn.cells k;
  total : sum_by (λ (ts : List Term). length ts) l.cells ≡ sum_by (λ (ts : List Term). length ts) l.fn.cells;
}

abbrev pub decreases-chains : goal.decreases-chains
decreases-chains l = 3 - length l.cells
