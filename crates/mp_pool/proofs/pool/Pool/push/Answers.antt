use Rattle.std.proofs.Common.{◌++◌, ◌∷◌, [], List, sym, ap, ◌∙◌, arith}
use Rattle.mp_pool.specs.declared.Term.{Term}
use Rattle.mp_pool.proofs.SlotLemmas.{held, spare_seen, chain_in}
use Rattle.mp_pool.proofs.PoolLemmas.{IsListed, IsPool-list, view-list}
use Rattle.mp_pool.specs.Pool.{terms_in}
use Rattle.mp_pool.proofs.pool.Pool.push.Goals as goal

pub push-requires-clause-is : goal.push-requires-clause-is
push-requires-clause-is c =
    let slot = c.args.list.slot in
    let cells = c.self.inside.cells in
    let taken = c.self.inside.taken.items in
    let vacant = c.self.inside.vacant.items in
    let held = held cells taken c.args.self.now slot c.self.view_is c.requires.list in
    omega (arith, chain_in cells taken vacant _ slot c.self.invariant held.0, c.chain.ensures)

pub push-requires-clause-spare : goal.push-requires-clause-spare
push-requires-clause-spare c =
    let spare = spare_seen c.self.inside.cells c.self.inside.taken.items c.self.inside.vacant.items _ c.args.self.now c.self.view_is c.self.invariant in
    omega (arith, spare, c.requires.spare)

listed : (c : goal.After-push) → IsListed c.self.inside.cells c.push.new.cells c.args.list.slot (terms_in c.args.self.now c.args.list.slot ++ c.args.term ∷ [])
listed c =
    let slot = c.args.list.slot in
    let cells = c.self.inside.cells in
    let taken = c.self.inside.taken.items in
    let vacant = c.self.inside.vacant.items in
    let held = held cells taken c.args.self.now slot c.self.view_is c.requires.list in
    record {
      only = rw c.chain.ensures at c.push.ensures.rest;
      list = (rw c.chain.ensures at c.push.ensures.list) ∙ ap (λ (ts : List Term). ts ++ c.args.term ∷ []) (sym held.1);
      cells = rw c.chain.ensures at c.push.ensures.cells;
    }

pub invariant_of-self : goal.invariant_of-self
invariant_of-self c =
    let slot = c.args.list.slot in
    let cells = c.self.inside.cells in
    let taken = c.self.inside.taken.items in
    let vacant = c.self.inside.vacant.items in
    let held = held cells taken c.args.self.now slot c.self.view_is c.requires.list in
    IsPool-list cells c.push.new.cells taken vacant _ c.self.invariant slot held.0 _ (listed c) c.requires.terms

pub returns : goal.returns
returns c =
    let slot = c.args.list.slot in
    let cells = c.self.inside.cells in
    let taken = c.self.inside.taken.items in
    let vacant = c.self.inside.vacant.items in
    let held = held cells taken c.args.self.now slot c.self.view_is c.requires.list in
    view-list cells c.push.new.cells taken vacant _ c.self.invariant slot held.0 _ (listed c) c.args.self.now c.self.view_is
