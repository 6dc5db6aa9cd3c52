use Rattle.std.proofs.Common.{◌+◌, ◌^◌, List, FitsSigned, w64, ◌∙◌, arith}
use Rattle.std.proofs.lemmas.Int.{to_z-of_z}
use Rattle.mp_pool.specs.declared.Term.{Term}
use Rattle.mp_pool.specs.Ratios.{times_fraction}
use Rattle.mp_pool.specs.Terms.{sum_terms, AreTerms, HasTooLarge}
use Rattle.mp_pool.specs.Storage.Chains.{chain_of}
use Rattle.mp_pool.specs.Storage.Merge.{AreSmall}
use Rattle.mp_pool.proofs.SlotLemmas.{held, spare_seen, slot_in, chain_in}
use Rattle.mp_pool.proofs.Fitting.{not_large, AreTerms-small}
use Rattle.mp_pool.proofs.MergeLemmas.{merge_is}
use Rattle.mp_pool.proofs.TermLemmas.{AreOrdered-sum_terms}
use Rattle.mp_pool.proofs.PoolLemmas.{IsListed, IsPool-list, view-list}
use Rattle.mp_pool.proofs.pool.Pool.splice_add.Goals as goal

small_terms : (ts : List Term) → AreTerms ts → AreSmall ts
small_terms ts are = λ k d lt. (are.coefficients k d lt).1

pub merge_into-requires-clause-merging : goal.merge_into-requires-clause-merging
merge_into-requires-clause-merging c =
    let slot = c.args.list.slot in
    let cells = c.self.inside.cells in
    let taken = c.self.inside.taken.items in
    let vacant = c.self.inside.vacant.items in
    let left = held cells taken c.args.self.now slot c.self.view_is c.requires.list in
    let spare = spare_seen cells taken vacant _ c.args.self.now c.self.view_is c.self.invariant in
    rw (c.chain.ensures) (record {
      left_in = chain_in cells taken vacant _ slot c.self.invariant left.0;
      left_from = omega arith;
      spare = omega (arith, spare, c.requires.spare);
      small = small_terms _ (c.self.invariant.terms slot (slot_in taken slot left.0));
      small_right = small_terms _ c.requires.terms;
    })

abbrev sum : (c : goal.After-merge_into) → List Term
sum c = sum_terms (times_fraction c.args.f) (chain_of c.self.inside.cells (3 + c.args.list.slot)) c.args.terms.now

listed : (c : goal.After-merge_into) → IsListed c.self.inside.cells c.merge_into.new.cells c.args.list.slot (sum c)
listed c =
    let slot = c.args.list.slot in
    let cells = c.self.inside.cells in
    let taken = c.self.inside.taken.items in
    let left = held cells taken c.args.self.now slot c.self.view_is c.requires.list in
    let fits_f : FitsSigned w64 c.args.f = c.ranges.f in
    let ordered = c.self.invariant.terms slot (slot_in taken slot left.0) in
    record {
      only = rw c.chain.ensures at c.merge_into.ensures.rest;
      list =
          (rw c.chain.ensures at (simp to_z-of_z at c.merge_into.ensures.merged))
          ∙ merge_is (times_fraction c.args.f) (2 ^ 32) (2 ^ 32) (chain_of cells (3 + slot)) c.args.terms.now ordered.serials c.requires.terms.serials;
      cells = rw c.chain.ensures at c.merge_into.ensures.cells;
    }

pub invariant_of-self : goal.invariant_of-self
invariant_of-self c =
    let slot = c.args.list.slot in
    let cells = c.self.inside.cells in
    let taken = c.self.inside.taken.items in
    let vacant = c.self.inside.vacant.items in
    let left = held cells taken c.args.self.now slot c.self.view_is c.requires.list in
    let fits : ¬ HasTooLarge (sum c) = rw left.1 at c.requires.fits in
    let ordered = AreOrdered-sum_terms (times_fraction c.args.f) (chain_of cells (3 + slot)) c.args.terms.now (c.self.invariant.terms slot (slot_in taken slot left.0)) c.requires.terms in
    IsPool-list cells c.merge_into.new.cells taken vacant _ c.self.invariant slot left.0 _ (listed c) (AreTerms-small (sum c) ordered (not_large (sum c) fits))

pub returns : goal.returns
returns c =
    let slot = c.args.list.slot in
    let cells = c.self.inside.cells in
    let taken = c.self.inside.taken.items in
    let vacant = c.self.inside.vacant.items in
    let left = held cells taken c.args.self.now slot c.self.view_is c.requires.list in
    rw left.1 (view-list cells c.merge_into.new.cells taken vacant _ c.self.invariant slot left.0 _ (listed c) c.args.self.now c.self.view_is)
