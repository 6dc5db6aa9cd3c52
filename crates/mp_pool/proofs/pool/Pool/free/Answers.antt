use Rattle.std.proofs.Common.{[], arith}
use Rattle.mp_pool.proofs.SlotLemmas.{held, slot_in, chain_in}
use Rattle.mp_pool.proofs.PoolLemmas.{IsListed, room_left, IsPool-freed, view-freed}
use Rattle.mp_pool.proofs.pool.Pool.free.Goals as goal

pub clear-requires-clause-is : goal.clear-requires-clause-is
clear-requires-clause-is c =
    let slot = c.args.list.slot in
    let cells = c.self.inside.cells in
    let taken = c.self.inside.taken.items in
    let vacant = c.self.inside.vacant.items in
    let held = held cells taken c.args.self.now slot c.self.view_is c.requires in
    omega (arith, chain_in cells taken vacant _ slot c.self.invariant held.0, c.chain.ensures)

pub index_mut-requires : goal.index_mut-requires
index_mut-requires c =
    let slot = c.args.list.slot in
    let cells = c.self.inside.cells in
    let taken = c.self.inside.taken.items in
    let vacant = c.self.inside.vacant.items in
    let held = held cells taken c.args.self.now slot c.self.view_is c.requires in
    omega (arith, slot_in taken slot held.0, c.self.inside.taken.ok.0)

pub push_reserved-requires : goal.push_reserved-requires
push_reserved-requires c =
    let slot = c.args.list.slot in
    let cells = c.self.inside.cells in
    let taken = c.self.inside.taken.items in
    let vacant = c.self.inside.vacant.items in
    let held = held cells taken c.args.self.now slot c.self.view_is c.requires in
    let listed : IsListed cells c.clear.new.cells slot [] = record {
      only = rw c.chain.ensures at c.clear.ensures.rest;
      list = rw c.chain.ensures at c.clear.ensures.list;
      cells = rw c.chain.ensures at c.clear.ensures.cells;
    } in
    omega (arith, room_left cells c.clear.new.cells taken vacant _ c.self.invariant slot held.0 listed, c.self.inside.vacant.ok.0)

listed : (c : goal.After-push_reserved) → IsListed c.self.inside.cells c.clear.new.cells c.args.list.slot []
listed c = record {
  only = rw c.chain.ensures at c.clear.ensures.rest;
  list = rw c.chain.ensures at c.clear.ensures.list;
  cells = rw c.chain.ensures at c.clear.ensures.cells;
}

pub invariant_of-self : goal.invariant_of-self
invariant_of-self c =
    let slot = c.args.list.slot in
    let cells = c.self.inside.cells in
    let taken = c.self.inside.taken.items in
    let vacant = c.self.inside.vacant.items in
    let held = held cells taken c.args.self.now slot c.self.view_is c.requires in
    rw (c.push_reserved.ensures.items, c.push_reserved.ensures.capacity) (IsPool-freed cells c.clear.new.cells taken vacant _ c.self.invariant slot held.0 (listed c))

pub returns : goal.returns
returns c =
    let slot = c.args.list.slot in
    let cells = c.self.inside.cells in
    let taken = c.self.inside.taken.items in
    let vacant = c.self.inside.vacant.items in
    let held = held cells taken c.args.self.now slot c.self.view_is c.requires in
    view-freed cells c.clear.new.cells taken vacant _ c.self.invariant slot held.0 (listed c) c.args.self.now c.self.view_is
