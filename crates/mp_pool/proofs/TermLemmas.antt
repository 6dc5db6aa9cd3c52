-- Terms that are added one after the other, as they come out when two lists are merged by their serials.
use Rattle.std.proofs.Common.{◌≡◌, ℕ, ◌<◌, ◌≤◌, ◌^◌, ℤ, ◌+ℤ◌, unsigned_abs, Bool, true, false, cond, ltb, eqb, List, [], ◌∷◌, ◌++◌, refl, sym, ap, ◌∙◌, arith, inl, inr}
use Rattle.std.specs.Ordering.{nat_cmp}
use Rattle.std.specs.declared.cmp.Ordering.TheVariants.{Less, Equal, Greater}
use Rattle.std.specs.List.{All, filter}
use Rattle.std.proofs.lemmas.Bool.{lt-ltb, le-ltb, eq-eqb, ne_eqb, cases_order, ltb-false}
use Rattle.std.proofs.lemmas.List.{append-nil}
use Rattle.std.proofs.lemmas.List.Elements.{All-nil, All-cons, All-head, All-tail, All-append, All-filter}
use Rattle.mp_pool.specs.declared.Term.{Term}
use Rattle.mp_pool.specs.Terms.{term_from, joint_term, lone_term, changed_terms, with_term, sum_terms, SerialsDecrease, IsCoefficient, AreTerms, AreOrdered}

-- which of two serials comes first
pub less_is : (m n : ℕ) → m < n → nat_cmp m n ≡ Less
less_is m n lt = ap (λ b. cond b Less (cond (eqb m n) Equal Greater)) (lt-ltb m n lt)

pub equal_is : (m n : ℕ) → m ≡ n → nat_cmp m n ≡ Equal
equal_is m n e = rw (le-ltb m n (omega arith), eq-eqb m n e)

pub greater_is : (m n : ℕ) → n < m → nat_cmp m n ≡ Greater
greater_is m n lt = rw (le-ltb m n (omega arith), ne_eqb m n (λ e. omega arith))

module _ (change : ℤ → ℤ) (q : Term) where
  -- one more term where its serial is above, among and below those that are there
  with_term-above : (ts : List Term) → SerialsDecrease q.serial ts → with_term change q ts ≡ lone_term q.serial (change q.coefficient) ++ ts
  unfolding with_term
  with_term-above [] below = sym (append-nil (lone_term q.serial (change q.coefficient)))
  with_term-above (t ∷ ts) below = rw (less_is t.serial q.serial below.0)

  with_term-same : (p : Term) (ts : List Term) → p.serial ≡ q.serial → with_term change q (p ∷ ts) ≡ joint_term p.serial (p.coefficient +ℤ change q.coefficient) ++ ts
  unfolding with_term
  with_term-same p ts same = rw (equal_is p.serial q.serial same)

  with_term-below : (p : Term) (ts : List Term) → q.serial < p.serial → with_term change q (p ∷ ts) ≡ p ∷ with_term change q ts
  unfolding with_term
  with_term-below p ts below = rw (greater_is p.serial q.serial below)

pub SerialsDecrease-more : (m n : ℕ) (ts : List Term) → m ≤ n → SerialsDecrease m ts → SerialsDecrease n ts
SerialsDecrease-more m n [] le below = tt
SerialsDecrease-more m n (t ∷ ts) le below = (omega (arith, below.0), below.1)

-- a term that may be dropped, before others
SerialsDecrease-cond : (n serial : ℕ) (b : Bool) (c : ℤ) (ts : List Term) → serial < n → SerialsDecrease serial ts → SerialsDecrease n (cond b [] (record { serial = serial; coefficient = c } ∷ []) ++ ts)
SerialsDecrease-cond n serial true c ts lt below = SerialsDecrease-more serial n ts (omega arith) below
SerialsDecrease-cond n serial false c ts lt below = (lt, below)

module _ (change : ℤ → ℤ) where
  SerialsDecrease-with_term : (n : ℕ) (q : Term) (ts : List Term) → q.serial < n → SerialsDecrease n ts → SerialsDecrease n (with_term change q ts)
  SerialsDecrease-with_term n q [] lt below =
      rw (with_term-above change q [] tt) (SerialsDecrease-cond n q.serial (ltb (unsigned_abs (change q.coefficient)) 1343) (change q.coefficient) [] lt tt)
  SerialsDecrease-with_term n q (t ∷ ts) lt below =
      elim (cases_order t.serial q.serial) [
        | inl same ↦
            rw (with_term-same change q t ts same)
            (SerialsDecrease-cond n t.serial (ltb (unsigned_abs (t.coefficient +ℤ change q.coefficient)) 2685) (t.coefficient +ℤ change q.coefficient) ts below.0 below.1)
        | inr (inl less) ↦
            rw (with_term-above change q (t ∷ ts) (less, below.1))
            (SerialsDecrease-cond n q.serial (ltb (unsigned_abs (change q.coefficient)) 1343) (change q.coefficient) (t ∷ ts) lt (less, below.1))
        | inr (inr more) ↦ rw (with_term-below change q t ts more) (below.0, SerialsDecrease-with_term t.serial q ts more below.1)
      ]

  SerialsDecrease-sum_terms : (n : ℕ) (ps qs : List Term) → SerialsDecrease n ps → SerialsDecrease n qs → SerialsDecrease n (sum_terms change ps qs)
  unfolding sum_terms
  SerialsDecrease-sum_terms n ps [] left right = left
  SerialsDecrease-sum_terms n ps (q ∷ qs) left right =
      SerialsDecrease-with_term n q (sum_terms change ps qs) right.0
      (SerialsDecrease-sum_terms n ps qs left (SerialsDecrease-more q.serial n qs (omega (arith, right.0)) right.1))

  -- the merge: the first term on the left comes next
  pub sum_terms-left : (p : Term) (ps qs : List Term) → SerialsDecrease p.serial qs → sum_terms change (p ∷ ps) qs ≡ p ∷ sum_terms change ps qs
  unfolding sum_terms
  sum_terms-left p ps [] below = refl
  sum_terms-left p ps (q ∷ qs) below =
      ap (with_term change q) (sum_terms-left p ps qs (SerialsDecrease-more q.serial p.serial qs (omega (arith, below.0)) below.1))
      ∙ with_term-below change q p (sum_terms change ps qs) below.0

  -- the first term on the right comes next
  pub sum_terms-right : (ps qs : List Term) (q : Term) → SerialsDecrease q.serial ps → SerialsDecrease q.serial qs →
      sum_terms change ps (q ∷ qs) ≡ lone_term q.serial (change q.coefficient) ++ sum_terms change ps qs
  unfolding sum_terms
  sum_terms-right ps qs q left right = with_term-above change q (sum_terms change ps qs) (SerialsDecrease-sum_terms q.serial ps qs left right)

  -- both come next, as one
  pub sum_terms-both : (p q : Term) (ps qs : List Term) → p.serial ≡ q.serial → SerialsDecrease q.serial qs →
      sum_terms change (p ∷ ps) (q ∷ qs) ≡ joint_term p.serial (p.coefficient +ℤ change q.coefficient) ++ sum_terms change ps qs
  unfolding sum_terms
  sum_terms-both p q ps qs same right =
      let right' : SerialsDecrease p.serial qs = SerialsDecrease-more q.serial p.serial qs (omega arith) right in
      ap (with_term change q) (sum_terms-left p ps qs right') ∙ with_term-same change q p (sum_terms change ps qs) same

  -- none is left on the left
  pub sum_terms-none : (n : ℕ) (qs : List Term) → SerialsDecrease n qs → sum_terms change [] qs ≡ changed_terms change qs
  unfolding sum_terms
  sum_terms-none n [] right = refl
  sum_terms-none n (q ∷ qs) right =
      sum_terms-right [] qs q tt right.1 ∙ ap (λ ts. lone_term q.serial (change q.coefficient) ++ ts) (sum_terms-none q.serial qs right.1)

abbrev IsNonzero : Term → Type 0
IsNonzero t = 0 < unsigned_abs t.coefficient

nonzero_cond : (b : Bool) (t : Term) → (b ≡ false → IsNonzero t) → All IsNonzero (cond b [] (t ∷ []))
nonzero_cond true t some = All-nil IsNonzero
nonzero_cond false t some = All-cons IsNonzero t [] (some refl) (All-nil IsNonzero)

nonzero-term_from : (least serial : ℕ) (c : ℤ) → 0 < least → All IsNonzero (term_from least serial c)
nonzero-term_from least serial c some =
    nonzero_cond (ltb (unsigned_abs c) least) (record { serial = serial; coefficient = c }) (λ e. omega (arith, some, ltb-false (unsigned_abs c) least e))

nonzero-lone_term : (serial : ℕ) (c : ℤ) → All IsNonzero (lone_term serial c)
nonzero-lone_term serial c = nonzero-term_from 1343 serial c (omega arith)

nonzero-joint_term : (serial : ℕ) (c : ℤ) → All IsNonzero (joint_term serial c)
nonzero-joint_term serial c = nonzero-term_from 2685 serial c (omega arith)

module _ (change : ℤ → ℤ) where
  nonzero-with_term : (q : Term) (ts : List Term) → All IsNonzero ts → All IsNonzero (with_term change q ts)
  unfolding with_term
  nonzero-with_term q [] some = nonzero-lone_term q.serial (change q.coefficient)
  nonzero-with_term q (t ∷ ts) some =
      let joint = t.coefficient +ℤ change q.coefficient in
      elim (cases_order t.serial q.serial) [
        | inl same ↦
            rw (equal_is t.serial q.serial same)
            (All-append IsNonzero (joint_term t.serial joint) ts (nonzero-joint_term t.serial joint) (All-tail IsNonzero t ts some))
        | inr (inl less) ↦
            rw (less_is t.serial q.serial less)
            (All-append IsNonzero (lone_term q.serial (change q.coefficient)) (t ∷ ts) (nonzero-lone_term q.serial (change q.coefficient)) some)
        | inr (inr more) ↦
            rw (greater_is t.serial q.serial more)
            (All-cons IsNonzero t (with_term change q ts) (All-head IsNonzero t ts some) (nonzero-with_term q ts (All-tail IsNonzero t ts some)))
      ]

  nonzero-sum_terms : (ps qs : List Term) → All IsNonzero ps → All IsNonzero (sum_terms change ps qs)
  unfolding sum_terms
  nonzero-sum_terms ps [] some = some
  nonzero-sum_terms ps (q ∷ qs) some = nonzero-with_term q (sum_terms change ps qs) (nonzero-sum_terms ps qs some)

  nonzero-changed_terms : (ts : List Term) → All IsNonzero (changed_terms change ts)
  nonzero-changed_terms [] = All-nil IsNonzero
  nonzero-changed_terms (t ∷ ts) =
      All-append IsNonzero (lone_term t.serial (change t.coefficient)) (changed_terms change ts) (nonzero-lone_term t.serial (change t.coefficient)) (nonzero-changed_terms ts)

  SerialsDecrease-changed_terms : (n : ℕ) (ts : List Term) → SerialsDecrease n ts → SerialsDecrease n (changed_terms change ts)
  SerialsDecrease-changed_terms n [] below = tt
  SerialsDecrease-changed_terms n (t ∷ ts) below =
      SerialsDecrease-cond n t.serial (ltb (unsigned_abs (change t.coefficient)) 1343) (change t.coefficient) (changed_terms change ts) below.0
      (SerialsDecrease-changed_terms t.serial ts below.1)

  -- what is made of the terms of forms is in order
  pub AreOrdered-changed_terms : (ts : List Term) → AreTerms ts → AreOrdered (changed_terms change ts)
  AreOrdered-changed_terms ts are = record {
    serials = SerialsDecrease-changed_terms (2 ^ 32) ts are.serials;
    nonzero = nonzero-changed_terms ts;
  }

  pub AreOrdered-sum_terms : (ps qs : List Term) → AreTerms ps → AreTerms qs → AreOrdered (sum_terms change ps qs)
  AreOrdered-sum_terms ps qs left right = record {
    serials = SerialsDecrease-sum_terms change (2 ^ 32) ps qs left.serials right.serials;
    nonzero = nonzero-sum_terms ps qs (λ k d lt. (left.coefficients k d lt).0);
  }

pub SerialsDecrease-filter : (keep : Term → Bool) (n : ℕ) (ts : List Term) → SerialsDecrease n ts → SerialsDecrease n (filter keep ts)
SerialsDecrease-filter keep n [] below = tt
SerialsDecrease-filter keep n (t ∷ ts) below =
    let rest = SerialsDecrease-filter keep t.serial ts below.1 in
    elim (keep t) as (λ b. SerialsDecrease n (cond b (t ∷ filter keep ts) (filter keep ts))) [
      | true ↦ (below.0, rest)
      | false ↦ SerialsDecrease-more t.serial n (filter keep ts) (omega (arith, below.0)) rest
    ]

pub AreTerms-filter : (keep : Term → Bool) (ts : List Term) → AreTerms ts → AreTerms (filter keep ts)
AreTerms-filter keep ts are = record {
  serials = SerialsDecrease-filter keep (2 ^ 32) ts are.serials;
  coefficients = All-filter keep (λ t. IsCoefficient t.coefficient) ts are.coefficients;
}
