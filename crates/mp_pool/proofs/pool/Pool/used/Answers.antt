use Rattle.std.proofs.Common.{arith}
use Rattle.mp_pool.proofs.SlotLemmas.{spare_and_used}
use Rattle.mp_pool.proofs.pool.Pool.used.Goals as goal

pub overflow_sub-result : goal.overflow_sub-result
overflow_sub-result c =
    let both = spare_and_used c.self.inside.cells c.self.inside.taken.items c.self.inside.vacant.items _ c.self.invariant in
    omega (arith, both, c.length.ensures, c.size.ensures)

pub returns : goal.returns
returns c =
    let both = spare_and_used c.self.inside.cells c.self.inside.taken.items c.self.inside.vacant.items _ c.self.invariant in
    rw (← c.self.view_is) (omega (arith, both, c.length.ensures, c.size.ensures))
