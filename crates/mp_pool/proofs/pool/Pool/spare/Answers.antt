use Rattle.std.proofs.Common.{arith}
use Rattle.mp_pool.proofs.SlotLemmas.{spare_and_used}
use Rattle.mp_pool.proofs.pool.Pool.spare.Goals as goal

pub returns-clause-exact : goal.returns-clause-exact
returns-clause-exact c =
    let both = spare_and_used c.self.inside.cells c.self.inside.taken.items c.self.inside.vacant.items _ c.self.invariant in
    rw (← c.self.view_is) (omega (arith, both, c.length.ensures))

pub returns-clause-total : goal.returns-clause-total
returns-clause-total c =
    let both = spare_and_used c.self.inside.cells c.self.inside.taken.items c.self.inside.vacant.items _ c.self.invariant in
    rw (← c.self.view_is) (omega (arith, both, c.length.ensures))
