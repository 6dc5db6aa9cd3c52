-- The entries of finite maps.
use Rattle.std.proofs.Common.{◌≡◌, Bool, cond, [], None, sym, ap, ◌∙◌}
use Rattle.std.specs.declared.cmp.Ordering.{Ordering}
use Rattle.std.specs.Cmp.{IsTotalOrder}
use Rattle.std.specs.FinMap.{FinMap, IsAntisymmetric, entries, empty, retain_keys, get-entries, get-retain_keys, entries_sorted, len-empty, len-entries}
use Rattle.std.specs.FinMap.Entries.{where_key, find-where_key, is_sorted-where_key, same_entries}
use Rattle.mp_vartree.proofs.ListLemmas.{empty_from_length}

pub entries_empty : {K X : Type 0} (R : K → K → Ordering) → entries (empty {X = X} {R = R}) ≡ []
entries_empty {X = X} R = empty_from_length (sym (len-entries empty) ∙ len-empty R X)

module _ {K X : Type 0} (R : K → K → Ordering) (o : IsTotalOrder R) (same : IsAntisymmetric R) where
  pub entries_retained : (m : FinMap R X) (p : K → Bool) → entries (retain_keys m p) ≡ where_key R p (entries m)
  entries_retained m p =
      same_entries R o same (entries (retain_keys m p)) (where_key R p (entries m)) (entries_sorted (retain_keys m p)) (is_sorted-where_key R p (entries m) (entries_sorted m))
      (λ q. sym (get-entries (retain_keys m p) q) ∙ get-retain_keys m p q (λ x e. ap p (sym (same q x e))) ∙ ap (λ found. cond (p q) found None) (get-entries m q)
      ∙ sym (find-where_key R p q (λ x e. ap p (sym (same q x e))) (entries m)))
