use Rattle.std.proofs.Common.{List, sym, ap, ◌∙◌, subst, arith}
use Rattle.mp_pool.specs.declared.Term.{Term}
use Rattle.mp_pool.specs.Terms.{AreTerms, without}
use Rattle.mp_pool.proofs.SlotLemmas.{held, chain_in}
use Rattle.mp_pool.proofs.PoolLemmas.{IsListed, IsPool-list, view-list}
use Rattle.mp_pool.specs.Pool.{terms_in}
use Rattle.mp_pool.proofs.SlotLemmas.{slot_in}
use Rattle.mp_pool.proofs.TermLemmas.{AreTerms-filter}
use Rattle.mp_pool.proofs.pool.Pool.remove.Goals as goal

pub remove-requires-clause-is : goal.remove-requires-clause-is
remove-requires-clause-is c =
    let slot = c.args.list.slot in
    let cells = c.self.inside.cells in
    let taken = c.self.inside.taken.items in
    let vacant = c.self.inside.vacant.items in
    let held = held cells taken c.args.self.now slot c.self.view_is c.requires in
    omega (arith, chain_in cells taken vacant _ slot c.self.invariant held.0, c.chain.ensures)

pub remove-requires-clause-terms : goal.remove-requires-clause-terms
remove-requires-clause-terms c =
    let slot = c.args.list.slot in
    let cells = c.self.inside.cells in
    let taken = c.self.inside.taken.items in
    let vacant = c.self.inside.vacant.items in
    let held = held cells taken c.args.self.now slot c.self.view_is c.requires in
    rw c.chain.ensures (c.self.invariant.terms slot (slot_in taken slot held.0))

listed : (c : goal.After-remove) → IsListed c.self.inside.cells c.remove.new.cells c.args.list.slot (without c.args.serial (terms_in c.args.self.now c.args.list.slot))
listed c =
    let slot = c.args.list.slot in
    let cells = c.self.inside.cells in
    let taken = c.self.inside.taken.items in
    let vacant = c.self.inside.vacant.items in
    let held = held cells taken c.args.self.now slot c.self.view_is c.requires in
    record {
      only = rw c.chain.ensures at c.remove.ensures.rest;
      list = (rw c.chain.ensures at c.remove.ensures.list) ∙ ap (λ (ts : List Term). without c.args.serial ts) (sym held.1);
      cells = rw c.chain.ensures at c.remove.ensures.cells;
    }

pub invariant_of-self : goal.invariant_of-self
invariant_of-self c =
    let slot = c.args.list.slot in
    let cells = c.self.inside.cells in
    let taken = c.self.inside.taken.items in
    let vacant = c.self.inside.vacant.items in
    let held = held cells taken c.args.self.now slot c.self.view_is c.requires in
    let are : AreTerms (terms_in c.args.self.now slot) = subst AreTerms (sym held.1) (c.self.invariant.terms slot (slot_in taken slot held.0)) in
    IsPool-list cells c.remove.new.cells taken vacant _ c.self.invariant slot held.0 _ (listed c) (AreTerms-filter _ _ are)

pub returns-clause-found : goal.returns-clause-found
returns-clause-found c =
    let slot = c.args.list.slot in
    let cells = c.self.inside.cells in
    let taken = c.self.inside.taken.items in
    let vacant = c.self.inside.vacant.items in
    let held = held cells taken c.args.self.now slot c.self.view_is c.requires in
    rw held.1 (rw c.chain.ensures at c.remove.ensures.found)

pub returns-clause-list : goal.returns-clause-list
returns-clause-list c =
    let slot = c.args.list.slot in
    let cells = c.self.inside.cells in
    let taken = c.self.inside.taken.items in
    let vacant = c.self.inside.vacant.items in
    let held = held cells taken c.args.self.now slot c.self.view_is c.requires in
    view-list cells c.remove.new.cells taken vacant _ c.self.invariant slot held.0 _ (listed c) c.args.self.now c.self.view_is
