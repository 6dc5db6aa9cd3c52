-- Terms that are added in one pass over two lists.
use Rattle.std.proofs.Common.{◌≡◌, ℕ, ◌+◌, ◌<◌, ◌^◌, ℤ, ◌+ℤ◌, unsigned_abs, Bool, true, false, cond, ltb, List, [], ◌∷◌, ◌++◌, length, get_or, take, refl, sym, ap, ◌∙◌, arith, inl, inr}
use Rattle.std.specs.Ordering.{nat_cmp}
use Rattle.std.specs.declared.cmp.Ordering.TheVariants.{Less, Equal, Greater}
use Rattle.std.proofs.lemmas.Bool.{cases_order, ltb-false}
use Rattle.std.proofs.lemmas.List.{append_assoc, append-nil, flat_map_more, take_more}
use Rattle.std.proofs.lemmas.List.Elements.{All-cons, All-head, All-tail}
use Rattle.mp_pool.specs.declared.Term.{Term}
use Rattle.mp_pool.proofs.TermLemmas.{less_is, equal_is, greater_is, SerialsDecrease-more, sum_terms-left, sum_terms-right, sum_terms-both, sum_terms-none, AreOrdered-changed_terms, AreOrdered-sum_terms}
use Rattle.mp_pool.specs.Terms.{joint_term, lone_term, changed_terms, sum_terms, StayInOrder, SerialsDecrease, IsCoefficient, AreTerms}

-- what is made of the terms of forms is in order
pub stay_in_order : StayInOrder
stay_in_order = record { multiples = AreOrdered-changed_terms; sums = AreOrdered-sum_terms }

-- a term that stands before all others
pub sum_terms-first : (change : ℤ → ℤ) (q : Term) (ts qs : List Term) → qs ≡ q ∷ [] → SerialsDecrease q.serial ts → sum_terms change ts qs ≡ lone_term q.serial (change q.coefficient) ++ ts
unfolding sum_terms
sum_terms-first change q ts qs is below = ap (sum_terms change ts) is ∙ sum_terms-right change ts [] q below tt

-- one more term with a changed coefficient
pub changed_terms-more : (change : ℤ → ℤ) (before ts : List Term) (i : ℕ) (d : Term) → i < length ts →
    (before ++ changed_terms change (take i ts)) ++ lone_term (get_or ts i d).serial (change (get_or ts i d).coefficient) ≡ before ++ changed_terms change (take (i + 1) ts)
changed_terms-more change before ts i d lt =
    flat_map_more (λ t. lone_term t.serial (change t.coefficient)) before (take i ts) (get_or ts i d)
    ∙ ap (λ us. before ++ changed_terms change us) (sym (take_more ts i d lt))

AreTerms-tail : (t : Term) (ts : List Term) → AreTerms (t ∷ ts) → AreTerms ts
AreTerms-tail t ts are = record {
  serials = SerialsDecrease-more t.serial (2 ^ 32) ts (omega (arith, are.serials.0)) are.serials.1;
  coefficients = All-tail (λ u. IsCoefficient u.coefficient) t ts are.coefficients;
}

-- the coefficient of the first of some terms
pub AreTerms-head : (t : Term) (ts terms : List Term) → terms ≡ t ∷ ts → AreTerms terms → IsCoefficient t.coefficient
AreTerms-head t ts terms at are = All-head (λ u. IsCoefficient u.coefficient) t ts (rw at at are.coefficients)

cmp_greater : (m n : ℕ) → Greater ≡ nat_cmp m n → n < m
cmp_greater m n e =
    elim (cases_order m n) [
      | inl same ↦ let other = equal_is m n same in cc
      | inr (inl less) ↦ let other = less_is m n less in cc
      | inr (inr more) ↦ more
    ]

cmp_equal : (m n : ℕ) → Equal ≡ nat_cmp m n → m ≡ n
cmp_equal m n e =
    elim (cases_order m n) [
      | inl same ↦ same
      | inr (inl less) ↦ let other = less_is m n less in cc
      | inr (inr more) ↦ let other = greater_is m n more in cc
    ]

cmp_less : (m n : ℕ) → Less ≡ nat_cmp m n → m < n
cmp_less m n e =
    elim (cases_order m n) [
      | inl same ↦ let other = equal_is m n same in cc
      | inr (inl less) ↦ less
      | inr (inr more) ↦ let other = greater_is m n more in cc
    ]

advance : (sum part next rest whole : List Term) → next ≡ sum ++ part → whole ≡ part ++ rest → next ++ rest ≡ sum ++ whole
advance sum part next rest whole pushed split =
    ap (λ ts. ts ++ rest) pushed ∙ append_assoc sum part rest ∙ ap (λ ts. sum ++ ts) (sym split)

-- how far a merge has come: its sum so far, and what is left of the two lists
pub record IsMerging (change : ℤ → ℤ) (left right sum ps qs : List Term) : Type 0 where
  pub merged : sum ++ sum_terms change ps qs ≡ sum_terms change left right
  pub on_left : AreTerms ps
  pub on_right : AreTerms qs

module _ (change : ℤ → ℤ) (left right sum next : List Term) (p q : Term) (ps qs : List Term) (so_far : IsMerging change left right sum (p ∷ ps) (q ∷ qs)) where
  pub IsMerging-left : Greater ≡ nat_cmp p.serial q.serial → next ≡ sum ++ p ∷ [] → IsMerging change left right next ps (q ∷ qs)
  IsMerging-left first pushed =
      let below = cmp_greater p.serial q.serial first in
      record {
        merged = advance sum (p ∷ []) next (sum_terms change ps (q ∷ qs)) (sum_terms change (p ∷ ps) (q ∷ qs)) pushed
            (sum_terms-left change p ps (q ∷ qs) (below, so_far.on_right.serials.1)) ∙ so_far.merged;
        on_left = AreTerms-tail p ps so_far.on_left;
        on_right = so_far.on_right;
      }

  pub IsMerging-both : Equal ≡ nat_cmp p.serial q.serial → next ≡ sum ++ joint_term p.serial (p.coefficient +ℤ change q.coefficient) → IsMerging change left right next ps qs
  IsMerging-both both pushed =
      let same = cmp_equal p.serial q.serial both in
      record {
        merged = advance sum (joint_term p.serial (p.coefficient +ℤ change q.coefficient)) next (sum_terms change ps qs) (sum_terms change (p ∷ ps) (q ∷ qs)) pushed
            (sum_terms-both change p q ps qs same so_far.on_right.serials.1) ∙ so_far.merged;
        on_left = AreTerms-tail p ps so_far.on_left;
        on_right = AreTerms-tail q qs so_far.on_right;
      }

  pub IsMerging-right : Less ≡ nat_cmp p.serial q.serial → next ≡ sum ++ lone_term q.serial (change q.coefficient) → IsMerging change left right next (p ∷ ps) qs
  IsMerging-right first pushed =
      let below = cmp_less p.serial q.serial first in
      record {
        merged = advance sum (lone_term q.serial (change q.coefficient)) next (sum_terms change (p ∷ ps) qs) (sum_terms change (p ∷ ps) (q ∷ qs)) pushed
            (sum_terms-right change (p ∷ ps) qs q (below, so_far.on_left.serials.1) so_far.on_right.serials.1) ∙ so_far.merged;
        on_left = so_far.on_left;
        on_right = AreTerms-tail q qs so_far.on_right;
      }

-- one of the two lists has come to its end
module _ (change : ℤ → ℤ) (left right sum : List Term) where
  pub IsMerging-none_left : (ps qs : List Term) → length ps ≡ 0 → IsMerging change left right sum ps qs → (sum ++ ps) ++ changed_terms change qs ≡ sum_terms change left right
  IsMerging-none_left [] qs none done =
      advance sum [] (sum ++ []) (changed_terms change qs) (sum_terms change [] qs) refl (sum_terms-none change (2 ^ 32) qs done.on_right.serials)
      ∙ done.merged
  IsMerging-none_left (p ∷ ps) qs none done = absurd (omega arith)

  pub IsMerging-none_right : (ps qs : List Term) → length qs ≡ 0 → IsMerging change left right sum ps qs → (sum ++ ps) ++ changed_terms change qs ≡ sum_terms change left right
  unfolding sum_terms
  IsMerging-none_right ps [] none done = append-nil (sum ++ ps) ∙ done.merged
  IsMerging-none_right ps (q ∷ qs) none done = absurd (omega arith)

-- the terms of a form, with one more before them
AreTerms-cond : (b : Bool) (t : Term) (ts : List Term) → t.serial < 2 ^ 32 → (b ≡ false → 0 < unsigned_abs t.coefficient) → unsigned_abs t.coefficient < 2 ^ 44 → SerialsDecrease t.serial ts → AreTerms ts → AreTerms (cond b [] (t ∷ []) ++ ts)
AreTerms-cond true t ts within some small below are = are
AreTerms-cond false t ts within some small below are = record {
  serials = (within, below);
  coefficients = All-cons (λ u. IsCoefficient u.coefficient) t ts (some refl, small) are.coefficients;
}

pub AreTerms-first : (serial : ℕ) (c : ℤ) (ts : List Term) → serial < 2 ^ 32 → unsigned_abs c < 2 ^ 44 → SerialsDecrease serial ts → AreTerms ts → AreTerms (lone_term serial c ++ ts)
AreTerms-first serial c ts within small below are =
    AreTerms-cond (ltb (unsigned_abs c) 1343) (record { serial = serial; coefficient = c }) ts within (λ e. omega (arith, ltb-false (unsigned_abs c) 1343 e)) small below are
