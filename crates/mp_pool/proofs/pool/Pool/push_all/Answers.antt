use Rattle.std.proofs.Common.{◌++◌, List, sym, ap, ◌∙◌, arith}
use Rattle.mp_pool.specs.declared.Term.{Term}
use Rattle.mp_pool.proofs.SlotLemmas.{held, spare_seen, chain_in}
use Rattle.mp_pool.proofs.PoolLemmas.{IsListed, IsPool-list, view-list}
use Rattle.mp_pool.specs.Pool.{terms_in}
use Rattle.mp_pool.proofs.pool.Pool.push_all.Goals as goal

pub push_all-requires-clause-is : goal.push_all-requires-clause-is
push_all-requires-clause-is c =
    let slot = c.args.list.slot in
    let cells = c.self.inside.cells in
    let taken = c.self.inside.taken.items in
    let vacant = c.self.inside.vacant.items in
    let held = held cells taken c.args.self.now slot c.self.view_is c.requires.list in
    omega (arith, chain_in cells taken vacant _ slot c.self.invariant held.0, c.chain.ensures)

pub push_all-requires-clause-spare : goal.push_all-requires-clause-spare
push_all-requires-clause-spare c =
    let spare = spare_seen c.self.inside.cells c.self.inside.taken.items c.self.inside.vacant.items _ c.args.self.now c.self.view_is c.self.invariant in
    omega (arith, spare, c.requires.spare)

listed : (c : goal.After-push_all) → IsListed c.self.inside.cells c.push_all.new.cells c.args.list.slot (terms_in c.args.self.now c.args.list.slot ++ c.args.terms.now)
listed c =
    let slot = c.args.list.slot in
    let cells = c.self.inside.cells in
    let taken = c.self.inside.taken.items in
    let vacant = c.self.inside.vacant.items in
    let held = held cells taken c.args.self.now slot c.self.view_is c.requires.list in
    record {
      only = rw c.chain.ensures at c.push_all.ensures.rest;
      list = (rw c.chain.ensures at c.push_all.ensures.list) ∙ ap (λ (ts : List Term). ts ++ c.args.terms.now) (sym held.1);
      cells = rw c.chain.ensures at c.push_all.ensures.cells;
    }

pub invariant_of-self : goal.invariant_of-self
invariant_of-self c =
    let slot = c.args.list.slot in
    let cells = c.self.inside.cells in
    let taken = c.self.inside.taken.items in
    let vacant = c.self.inside.vacant.items in
    let held = held cells taken c.args.self.now slot c.self.view_is c.requires.list in
    IsPool-list cells c.push_all.new.cells taken vacant _ c.self.invariant slot held.0 _ (listed c) c.requires.all

pub returns : goal.returns
returns c =
    let slot = c.args.list.slot in
    let cells = c.self.inside.cells in
    let taken = c.self.inside.taken.items in
    let vacant = c.self.inside.vacant.items in
    let held = held cells taken c.args.self.now slot c.self.view_is c.requires.list in
    view-list cells c.push_all.new.cells taken vacant _ c.self.invariant slot held.0 _ (listed c) c.args.self.now c.self.view_is
