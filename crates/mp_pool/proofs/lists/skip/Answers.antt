use Rattle.std.proofs.Common.{◌<◌, ◌^◌, length, length-append, ◌∙◌, arith, rules}
use Rattle.std.proofs.lemmas.List.{length-drop, length-take}
use Rattle.mp_pool.specs.Storage.Chains.{chain_of}
use Rattle.mp_pool.proofs.Twos.{only_two-trans}
use Rattle.mp_pool.proofs.ListLemmas.{passed}
use Rattle.mp_pool.proofs.lists.skip.Goals as goal

pub skipping-preserved : goal.skipping-preserved
skipping-preserved c =
    let some : 0 < length (chain_of c.skipping.cells c.args.chain) = search rules in
    let next = passed c.args.serial (2 ^ 32) (chain_of c.skipping.cells 1) (chain_of c.skipping.cells c.args.chain) c.first.result c.first.ensures (omega arith) c.skipping.invariant.ordered in
    record {
      rest = only_two-trans _ _ _ _ _ c.skipping.invariant.rest c.step.ensures.rest;
      cells = rw (c.step.ensures.from, c.step.ensures.to) (simp (length-append, length-drop, length-take) (omega arith));
      ordered = rw c.step.ensures.from next.ordered;
      others = rw (c.step.ensures.from, c.step.ensures.to) (next.others ∙ c.skipping.invariant.others);
      same = rw c.step.ensures.from (next.same ∙ c.skipping.invariant.same);
    }
