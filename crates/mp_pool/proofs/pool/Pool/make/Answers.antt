use Rattle.std.proofs.Common.{ap, arith}
use Rattle.std.proofs.lemmas.Bool.{false≢true}
use Rattle.mp_pool.specs.Pool.{spare_lists}
use Rattle.mp_pool.proofs.SlotLemmas.{count-slots_from}
use Rattle.mp_pool.proofs.PoolLemmas.{IsPool-make, made_free, made_in, view-made, vacant_in}
use Rattle.mp_pool.proofs.pool.Pool.make.Goals as goal

pub unreachable-requires : goal.unreachable-requires
unreachable-requires c =
    let free = count-slots_from c.self.inside.cells 3 c.self.inside.taken.items in
    let seen = ap spare_lists c.self.view_is in
    let count = c.self.invariant.vacancies.count in
    let variant = (c.in-None.ensures {u = tt}).variant in
    false≢true (variant.1 (omega (arith, free, seen, count, c.requires, c.self.inside.vacant.ok.0)))

pub index_mut-requires : goal.index_mut-requires
index_mut-requires c =
    omega (arith, vacant_in c.self.inside.cells c.self.inside.taken.items c.self.inside.vacant.items c.pop.new.self.items c.in-Some.slot _ c.self.invariant (c.in-Some.ensures {u = tt}).items, c.self.inside.taken.ok.0)

pub invariant_of-self : goal.invariant_of-self
invariant_of-self c =
    let enough = c.self.invariant.enough in
    IsPool-make c.self.inside.cells c.self.inside.taken.items c.self.inside.vacant.items c.pop.new.self.items c.in-Some.slot _ c.self.invariant (c.in-Some.ensures {u = tt}).items _
    (omega (arith, enough, c.pop.ensures.capacity))

pub returns-clause-free : goal.returns-clause-free
returns-clause-free c = made_free c.self.inside.cells c.self.inside.taken.items c.self.inside.vacant.items c.pop.new.self.items c.in-Some.slot _ c.self.invariant (c.in-Some.ensures {u = tt}).items c.args.self.now c.self.view_is

pub returns-clause-within : goal.returns-clause-within
returns-clause-within c = made_in c.self.inside.cells c.self.inside.taken.items c.self.inside.vacant.items c.pop.new.self.items c.in-Some.slot _ c.self.invariant (c.in-Some.ensures {u = tt}).items c.args.self.now c.self.view_is

pub returns-clause-made : goal.returns-clause-made
returns-clause-made c = view-made c.self.inside.cells c.self.inside.taken.items c.self.inside.vacant.items c.pop.new.self.items c.in-Some.slot _ c.self.invariant (c.in-Some.ensures {u = tt}).items c.args.self.now c.self.view_is
