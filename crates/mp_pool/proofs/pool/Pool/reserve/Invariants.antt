use Rattle.std.proofs.Common.{◌-◌, ◌≤◌}
use Rattle.mp_pool.specs.Pool.{spare, spare_lists, IsGrown}
use Rattle.mp_pool.proofs.pool.Pool.reserve.Given as goal

abbrev pub invariant-cells : goal.invariant-cells
invariant-cells l = IsGrown l.fn.self l.self

abbrev pub decreases-cells : goal.decreases-cells
decreases-cells l = l.cells - spare l.self

abbrev pub invariant-lists : goal.invariant-lists
invariant-lists l = record {
  grown : IsGrown l.fn.self l.self;
  enough : l.cells ≤ spare l.self;
}

abbrev pub decreases-lists : goal.decreases-lists
decreases-lists l = l.lists - spare_lists l.self
