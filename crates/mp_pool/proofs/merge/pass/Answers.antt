use Rattle.std.proofs.Common.{◌<◌, arith, rules, ap, ◌∙◌, length, length-append, sym, List, get_or}
use Rattle.std.proofs.lemmas.List.{length-drop, length-take}
use Rattle.mp_pool.specs.Storage.Chains.{chain_of}
use Rattle.mp_pool.specs.declared.Term.{Term}
use Rattle.mp_pool.proofs.Merging.{pass-first, small-drop}
use Rattle.mp_pool.proofs.Twos.{only_two-trans}
use Rattle.mp_pool.proofs.merge.pass.Goals as goal

pub passing-preserved : goal.passing-preserved
passing-preserved c =
    let some : 0 < length (chain_of c.passing.cells c.args.left) = search rules in
    record {
      rest = only_two-trans _ _ _ _ _ c.passing.invariant.rest c.step.ensures.rest;
      cells = rw (c.step.ensures.from, c.step.ensures.to) (simp (length-append, length-drop, length-take) (omega arith));
      small = rw c.step.ensures.from (small-drop _ c.passing.invariant.small);
      same = λ f q qs e. rw (c.step.ensures.from, c.step.ensures.to)
          (pass-first f _ _ c.first.result q qs some (sym (ap (λ (xs : List Term). get_or xs 0 c.first.result) c.first.ensures)) (omega arith) ∙ c.passing.invariant.same f q qs e);
    }
