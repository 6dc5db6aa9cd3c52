use Rattle.std.proofs.Common.{◌≡◌, ◌<◌, ◌+◌, ◌++◌, ◌∷◌, [], List, pos, arith, rules, ap, sym, ◌∙◌, refl, w64, FitsSigned, length, length-append, get_or, drop}
use Rattle.std.proofs.lemmas.Int.{to_z-of_z}
use Rattle.std.proofs.lemmas.List.{drop_more, drop_all}
use Rattle.mp_pool.specs.declared.Term.{Term}
use Rattle.mp_pool.specs.Storage.Chains.{chain_of}
use Rattle.mp_pool.specs.Storage.Merge.{merge}
use Rattle.mp_pool.specs.Ratios.{times_fraction}
use Rattle.mp_pool.proofs.Merging.{merge-nil}
use Rattle.mp_pool.proofs.splice.merge_into.Goals as goal

abbrev none : Term
none = record { serial = 0; coefficient = pos 0 }

pub merging-preserved : goal.merging-preserved
merging-preserved c =
    let right = c.args.right.now in
    let i = c.merging.q-index in
    let within : i < length right = omega arith in
    let q = get_or right i none in
    let small = c.requires.merging.small_right i none within in
    let fits_q : FitsSigned w64 q.coefficient = search rules in
    let fits_f : FitsSigned w64 c.args.f = c.ranges.f in
    let before = c.merging.invariant in
    let passed = c.pass.ensures in
    let added = c.add_here.ensures in
    let spare = ap length (passed.rest.others 0 (λ e. omega arith) (λ e. omega arith)) in
    let split : drop i right ≡ q ∷ drop (i + 1) right = drop_more right i none within in
    record {
      others = record {
        count = added.rest.count ∙ passed.rest.count ∙ before.others.count;
        others = λ k a b d. added.rest.others k a b d ∙ passed.rest.others k a b ∙ before.others.others k a b d;
      };
      cells = omega (arith, before.cells, passed.cells, added.cells, spare);
      spare = omega (arith, before.spare, added.spare, spare);
      small = added.small;
      same =
          simp to_z-of_z
          ((simp to_z-of_z at (added.same (drop (i + 1) right)))
          ∙ passed.same (times_fraction c.args.f) q (drop (i + 1) right) refl
          ∙ ap (λ (ts : List Term). chain_of c.merging.cells 1 ++ merge (times_fraction c.args.f) (chain_of c.merging.cells c.args.left) ts) (sym split)
          ∙ (simp to_z-of_z at before.same));
    }

pub returns-clause-merged : goal.returns-clause-merged
returns-clause-merged c =
    let fits_f : FitsSigned w64 c.args.f = c.ranges.f in
    let none_left : drop c.merging.q-index c.args.right.now ≡ [] = drop_all c.merging.q-index c.args.right.now (omega arith) in
    c.exchange.ensures.a ∙ c.move_rest.ensures.done
    ∙ ap (λ (xs : List Term). chain_of c.merging.cells 1 ++ xs) (sym (merge-nil (times_fraction c.args.f) (chain_of c.merging.cells c.args.left)))
    ∙ ap (λ (xs : List Term). chain_of c.merging.cells 1 ++ merge (times_fraction c.args.f) (chain_of c.merging.cells c.args.left) xs) (sym none_left)
    ∙ (simp to_z-of_z at c.merging.invariant.same)

pub returns-clause-cells : goal.returns-clause-cells
returns-clause-cells c =
    let left : chain_of c.exchange.new.self c.args.left ≡ chain_of c.merging.cells 1 ++ chain_of c.merging.cells c.args.left =
    c.exchange.ensures.a ∙ c.move_rest.ensures.done in
    let spare : chain_of c.exchange.new.self 0 ≡ chain_of c.merging.cells 0 =
    c.exchange.ensures.rest.others 0 (λ e. omega arith) (λ e. omega arith) ∙ c.move_rest.ensures.rest.others 0 (λ e. omega arith) (λ e. omega arith) in
    let n = c.merging.invariant.cells in
    rw (left, spare) (simp length-append (omega arith))
