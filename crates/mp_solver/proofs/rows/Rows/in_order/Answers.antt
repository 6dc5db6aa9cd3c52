use Rattle.std.proofs.Common.{◌∙◌}
use Rattle.std.proofs.lemmas.List.Filters.{dedup_is}
use Rattle.std.proofs.lemmas.List.Kept.{Contains-dedup_nat}
use Rattle.std.proofs.lemmas.List.Sorted.{Contains-permutation}
use Rattle.std.proofs.lemmas.Map.Keys.{IsStrictlyIncreasing-dedup}
use Rattle.mp_solver.proofs.rows.Rows.in_order.Goals as goal

pub returns : goal.returns
returns c =
    let copied = c.in_ok-rows.ensures.items ∙ c.deref.ensures.value ∙ c.self.view_is in
    let is = dedup_is _ _ _ c.dedup.ensures.filtered in
    record {
      rises = rw is (IsStrictlyIncreasing-dedup _ c.sort_unstable.ensures.sorted);
      all = λ row listed. rw is (Contains-dedup_nat _ row (Contains-permutation _ _ row c.sort_unstable.ensures.permutation (rw copied listed)));
    }
