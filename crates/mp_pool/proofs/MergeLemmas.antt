-- The merge that the cells make is the sum of terms.
use Rattle.std.proofs.Common.{◌≡◌, ℕ, ℤ, ◌+ℤ◌, unsigned_abs, Bool, true, false, cond, ltb, List, [], ◌∷◌, ◌++◌, refl, sym, ap, ◌∙◌, inl, inr}
use Rattle.std.proofs.lemmas.Bool.{cases_order}
use Rattle.mp_pool.specs.declared.Term.{Term}
use Rattle.mp_pool.specs.Terms.{term_from, joint_term, lone_term, changed_terms, sum_terms, SerialsDecrease}
use Rattle.mp_pool.specs.Storage.Merge.{merge, products, kept}
use Rattle.mp_pool.proofs.TermLemmas.{sum_terms-left, sum_terms-right, sum_terms-both, sum_terms-none}
use Rattle.mp_pool.proofs.Merging.{merge-greater, merge-same, merge-new, merge-nil}

kept_cond : (b : Bool) (t : Term) (rest : List Term) → cond b rest (t ∷ rest) ≡ cond b [] (t ∷ []) ++ rest
kept_cond true t rest = refl
kept_cond false t rest = refl

kept_is : (least serial : ℕ) (c : ℤ) (rest : List Term) → kept least serial c rest ≡ term_from least serial c ++ rest
kept_is least serial c rest = kept_cond (ltb (unsigned_abs c) least) (record { serial = serial; coefficient = c }) rest

module _ (change : ℤ → ℤ) where
  products_are : (qs : List Term) → products change qs ≡ changed_terms change qs
  products_are [] = refl
  products_are (q ∷ qs) = kept_is 1343 q.serial (change q.coefficient) (products change qs) ∙ ap (λ ts. lone_term q.serial (change q.coefficient) ++ ts) (products_are qs)

  merge-none : (qs : List Term) → merge change [] qs ≡ products change qs
  unfolding merge
  merge-none qs = refl

  module _ (p : Term) (ps : List Term) (left : SerialsDecrease p.serial ps) (rest : (n : ℕ) (qs : List Term) → SerialsDecrease n qs → merge change ps qs ≡ sum_terms change ps qs) where
    merge_among : (n : ℕ) (qs : List Term) → SerialsDecrease n qs → merge change (p ∷ ps) qs ≡ sum_terms change (p ∷ ps) qs
    unfolding sum_terms
    merge_among n [] right = merge-nil change (p ∷ ps)
    merge_among n (q ∷ qs) right =
        elim (cases_order p.serial q.serial) [
          | inl same ↦
              merge-same change p ps q qs same
              ∙ kept_is 2685 q.serial (p.coefficient +ℤ change q.coefficient) (merge change ps qs)
              ∙ ap (λ ts. joint_term q.serial (p.coefficient +ℤ change q.coefficient) ++ ts) (rest q.serial qs right.1)
              ∙ ap (λ s. joint_term s (p.coefficient +ℤ change q.coefficient) ++ sum_terms change ps qs) (sym same)
              ∙ sym (sum_terms-both change p q ps qs same right.1)
          | inr (inl less) ↦
              merge-new change (p ∷ ps) q qs less
              ∙ kept_is 1343 q.serial (change q.coefficient) (merge change (p ∷ ps) qs)
              ∙ ap (λ ts. lone_term q.serial (change q.coefficient) ++ ts) (merge_among q.serial qs right.1)
              ∙ sym (sum_terms-right change (p ∷ ps) qs q (less, left) right.1)
          | inr (inr more) ↦
              merge-greater change p ps q qs more
              ∙ ap (λ ts. p ∷ ts) (rest n (q ∷ qs) right)
              ∙ sym (sum_terms-left change p ps (q ∷ qs) (more, right.1))
        ]

  pub merge_is : (m n : ℕ) (ps qs : List Term) → SerialsDecrease m ps → SerialsDecrease n qs → merge change ps qs ≡ sum_terms change ps qs
  merge_is m n [] qs left right = merge-none qs ∙ products_are qs ∙ sym (sum_terms-none change n qs right)
  merge_is m n (p ∷ ps) qs left right = merge_among p ps left.1 (λ k rs below. merge_is p.serial k ps rs left.1 below) n qs right
