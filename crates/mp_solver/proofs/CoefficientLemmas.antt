-- The coefficient of an unknown in terms that are added, changed or left out.
use Rattle.std.proofs.Common.{◌≡◌, ◌≢◌, ◌⊎◌, ℕ, ◌<◌, ◌≤◌, ◌^◌, ℤ, pos, ◌+ℤ◌, unsigned_abs, Bool, true, false, not, cond, eqb, ltb, List, [], ◌∷◌, ◌++◌, Option, Some, None, get_or, refl, sym, ap, ◌∙◌, arith, inl, inr}
use Rattle.std.proofs.Math.IntN.{+ℤ_idl, +ℤ_idr}
use Rattle.std.specs.Ordering.{nat_cmp}
use Rattle.std.specs.declared.cmp.Ordering.TheVariants.{Less, Equal, Greater}
use Rattle.std.specs.List.{All, filter}
use Rattle.std.proofs.lemmas.Bool.{lt-ltb, le-ltb, eq-eqb, eqb-false, ne_eqb, cases_order}
use Rattle.std.proofs.lemmas.List.Elements.{All-nil, All-cons, All-head, All-tail}
use Rattle.mp_pool.specs.declared.Term.{Term}
use Rattle.mp_pool.specs.Terms.{changed_terms, with_term, sum_terms, SerialsDecrease, IsCoefficient, AreTerms, StayInOrder}
use Rattle.mp_solver.specs.Elimination.{pivot_of, without, term_of}
use Rattle.mp_solver.specs.Exact.{coefficient_in, coefficient_of}
use Rattle.mp_solver.proofs.TermLists.{holds-pivot_of}

-- which of two serials comes first
less_is : (m n : ℕ) → m < n → nat_cmp m n ≡ Less
less_is m n lt = ap (λ b. cond b Less (cond (eqb m n) Equal Greater)) (lt-ltb m n lt)

equal_is : (m n : ℕ) → m ≡ n → nat_cmp m n ≡ Equal
equal_is m n e = rw (le-ltb m n (omega arith), eq-eqb m n e)

greater_is : (m n : ℕ) → n < m → nat_cmp m n ≡ Greater
greater_is m n lt = rw (le-ltb m n (omega arith), ne_eqb m n (λ e. omega arith))

SerialsDecrease-more : (m n : ℕ) (ts : List Term) → m ≤ n → SerialsDecrease m ts → SerialsDecrease n ts
SerialsDecrease-more m n [] le below = tt
SerialsDecrease-more m n (t ∷ ts) le below = (omega (arith, below.0), below.1)

AreTerms-rest : (t : Term) (ts : List Term) → AreTerms (t ∷ ts) → AreTerms ts
AreTerms-rest t ts are = record {
  serials = SerialsDecrease-more t.serial (2 ^ 32) ts (omega (arith, are.serials.0)) are.serials.1;
  coefficients = All-tail (λ u. IsCoefficient u.coefficient) t ts are.coefficients;
}

pub cases_equal : (m n : ℕ) → (m ≡ n) ⊎ (m ≢ n)
cases_equal m n = elim (cases_order m n) [ inl same ↦ inl same | inr (inl less) ↦ inr (λ e. omega (arith, less, e)) | inr (inr more) ↦ inr (λ e. omega (arith, more, e)) ]

module _ (u : ℕ) where
  -- the first term is the unknown's, or it is not
  pub first_is : (t : Term) (ts : List Term) → t.serial ≡ u → term_of u (t ∷ ts) ≡ Some t
  first_is t ts same = rw (eq-eqb t.serial u same) refl

  pub first_other : (t : Term) (ts : List Term) → t.serial ≢ u → term_of u (t ∷ ts) ≡ term_of u ts
  first_other t ts other = rw (ne_eqb t.serial u other) refl

  absent_cond : (t : Term) (rest : Option Term) (b : Bool) → eqb t.serial u ≡ b → cond b (Some t) rest ≡ None → (t.serial ≢ u) × (rest ≡ None)
  absent_cond t rest true e none = absurd cc
  absent_cond t rest false e none = (eqb-false t.serial u e, none)

  -- no term is the unknown's
  absent_first : (t : Term) (ts : List Term) → term_of u (t ∷ ts) ≡ None → (t.serial ≢ u) × (term_of u ts ≡ None)
  absent_first t ts none = absent_cond t (term_of u ts) (eqb t.serial u) refl none

  pub absent_below : (bound : ℕ) (ts : List Term) → SerialsDecrease bound ts → bound ≤ u → term_of u ts ≡ None
  absent_below bound [] below le = refl
  absent_below bound (t ∷ ts) below le =
      first_other t ts (λ same. omega (arith, below.0, same, le)) ∙ absent_below t.serial ts below.1 (omega (arith, below.0, le))

  -- a coefficient is the one that is due, or its term was dropped
  abbrev pub IsDue : ℤ → Option Term → Type 0
  IsDue due term = (coefficient_in term ≡ due) ⊎ (term ≡ None)

  pub due_of : (due : ℤ) (term : Option Term) → IsDue due term → (term ≡ None → due ≡ pos 0) → coefficient_in term ≡ due
  due_of due term is zero = elim is [ inl same ↦ same | inr none ↦ ap coefficient_in none ∙ sym (zero none) ]

  -- one term that may be dropped, alone and before others
  alone_other : (serial : ℕ) (c : ℤ) (b : Bool) → serial ≢ u → term_of u (cond b [] (record { serial = serial; coefficient = c } ∷ [])) ≡ None
  alone_other serial c true other = refl
  alone_other serial c false other = first_other (record { serial = serial; coefficient = c }) [] other

  before_other : (serial : ℕ) (c : ℤ) (b : Bool) (ts : List Term) → serial ≢ u → term_of u (cond b [] (record { serial = serial; coefficient = c } ∷ []) ++ ts) ≡ term_of u ts
  before_other serial c true ts other = refl
  before_other serial c false ts other = first_other (record { serial = serial; coefficient = c }) ts other

  alone_own : (serial : ℕ) (c : ℤ) (b : Bool) → serial ≡ u → IsDue c (term_of u (cond b [] (record { serial = serial; coefficient = c } ∷ [])))
  alone_own serial c true same = inr refl
  alone_own serial c false same = inl (ap coefficient_in (first_is (record { serial = serial; coefficient = c }) [] same))

  before_own : (serial : ℕ) (c : ℤ) (b : Bool) (ts : List Term) → serial ≡ u → term_of u ts ≡ None → IsDue c (term_of u (cond b [] (record { serial = serial; coefficient = c } ∷ []) ++ ts))
  before_own serial c true ts same none = inr none
  before_own serial c false ts same none = inl (ap coefficient_in (first_is (record { serial = serial; coefficient = c }) ts same))

  module _ (change : ℤ → ℤ) where
    -- another unknown keeps its term when one more is added
    with_term-other : (q : Term) (ts : List Term) → q.serial ≢ u → term_of u (with_term change q ts) ≡ term_of u ts
    unfolding with_term
    with_term-other q [] other = alone_other q.serial (change q.coefficient) (ltb (unsigned_abs (change q.coefficient)) 1343) other
    with_term-other q (t ∷ ts) other =
        elim (cases_order t.serial q.serial) [
          | inl same ↦
              rw (equal_is t.serial q.serial same)
              (before_other t.serial (t.coefficient +ℤ change q.coefficient) (ltb (unsigned_abs (t.coefficient +ℤ change q.coefficient)) 2685) ts (λ e. other (sym same ∙ e))
              ∙ sym (first_other t ts (λ e. other (sym same ∙ e))))
          | inr (inl less) ↦ rw (less_is t.serial q.serial less) (before_other q.serial (change q.coefficient) (ltb (unsigned_abs (change q.coefficient)) 1343) (t ∷ ts) other)
          | inr (inr more) ↦
              rw (greater_is t.serial q.serial more)
              (ap (cond (eqb t.serial u) (Some t)) (with_term-other q ts other))
        ]

    -- and the one that is added gets the sum of its coefficients
    with_term-own : (q : Term) (bound : ℕ) (ts : List Term) → q.serial ≡ u → SerialsDecrease bound ts → IsDue (coefficient_of u ts +ℤ change q.coefficient) (term_of u (with_term change q ts))
    unfolding with_term
    with_term-own q bound [] own below =
        rw (+ℤ_idl (change q.coefficient)) (alone_own q.serial (change q.coefficient) (ltb (unsigned_abs (change q.coefficient)) 1343) own)
    with_term-own q bound (t ∷ ts) own below =
        elim (cases_order t.serial q.serial) [
          | inl same ↦
              rw (equal_is t.serial q.serial same, first_is t ts (same ∙ own))
              (before_own t.serial (t.coefficient +ℤ change q.coefficient) (ltb (unsigned_abs (t.coefficient +ℤ change q.coefficient)) 2685) ts (same ∙ own)
              (absent_below t.serial ts below.1 (omega (arith, same, own))))
          | inr (inl less) ↦
              let none = absent_below q.serial (t ∷ ts) (less, below.1) (omega (arith, own)) in
              rw (less_is t.serial q.serial less, none, +ℤ_idl (change q.coefficient))
              (before_own q.serial (change q.coefficient) (ltb (unsigned_abs (change q.coefficient)) 1343) (t ∷ ts) own none)
          | inr (inr more) ↦
              let other : t.serial ≢ u = λ same. omega (arith, same, own, more) in
              rw (greater_is t.serial q.serial more, first_other t ts other, first_other t (with_term change q ts) other)
              (with_term-own q t.serial ts own below.1)
        ]

    sum_terms-other : (ps qs : List Term) → term_of u qs ≡ None → term_of u (sum_terms change ps qs) ≡ term_of u ps
    unfolding sum_terms
    sum_terms-other ps [] none = refl
    sum_terms-other ps (q ∷ qs) none =
        let both = absent_first q qs none in
        with_term-other q (sum_terms change ps qs) both.0 ∙ sum_terms-other ps qs both.1

    changed_terms-other : (ts : List Term) → term_of u ts ≡ None → term_of u (changed_terms change ts) ≡ None
    changed_terms-other [] none = refl
    changed_terms-other (t ∷ ts) none =
        let both = absent_first t ts none in
        before_other t.serial (change t.coefficient) (ltb (unsigned_abs (change t.coefficient)) 1343) (changed_terms change ts) both.0 ∙ changed_terms-other ts both.1

    -- a coefficient of changed terms is the changed one
    pub changed_terms-due : (bound : ℕ) (ts : List Term) → SerialsDecrease bound ts → IsDue (change (coefficient_of u ts)) (term_of u (changed_terms change ts))
    changed_terms-due bound [] below = inr refl
    changed_terms-due bound (t ∷ ts) below =
        let c = change t.coefficient in
        let small = ltb (unsigned_abs c) 1343 in
        elim (cases_equal t.serial u) [
          | inl same ↦
              let none = absent_below t.serial ts below.1 (omega (arith, same)) in
              rw (first_is t ts same) (before_own t.serial c small (changed_terms change ts) same (changed_terms-other ts none))
          | inr other ↦
              rw (first_other t ts other, before_other t.serial c small (changed_terms change ts) other) (changed_terms-due t.serial ts below.1)
        ]

    -- a coefficient of a sum is the sum of the coefficients
    module _ (order : StayInOrder) (zero : change (pos 0) ≡ pos 0) (ps : List Term) (left : AreTerms ps) where
      pub sum_terms-due : (qs : List Term) → AreTerms qs → IsDue (coefficient_of u ps +ℤ change (coefficient_of u qs)) (term_of u (sum_terms change ps qs))
      unfolding sum_terms
      sum_terms-due [] right = inl (sym (ap (λ n. coefficient_of u ps +ℤ n) zero ∙ +ℤ_idr (coefficient_of u ps)))
      sum_terms-due (q ∷ qs) right =
          let rest = AreTerms-rest q qs right in
          elim (cases_equal q.serial u) [
            | inl same ↦
                let none = absent_below q.serial qs right.serials.1 (omega (arith, same)) in
                let own = with_term-own q (2 ^ 32) (sum_terms change ps qs) same (order.sums change ps qs left rest).serials in
                rw (first_is q qs same) (rw (sum_terms-other ps qs none) at own)
            | inr other ↦ rw (first_other q qs other, with_term-other q (sum_terms change ps qs) other) (sum_terms-due qs rest)
          ]

  -- the terms that a form keeps
  module _ (keep : Term → Bool) where
    filter_cond : (t : Term) (ts : List Term) (b : Bool) → keep t ≡ b → (t.serial ≡ u → keep t ≡ true) → term_of u (filter keep ts) ≡ term_of u ts →
        term_of u (cond b (t ∷ filter keep ts) (filter keep ts)) ≡ term_of u (t ∷ ts)
    filter_cond t ts true e kept rest = ap (cond (eqb t.serial u) (Some t)) rest
    filter_cond t ts false e kept rest = rest ∙ sym (first_other t ts (λ same. let e' = kept same in absurd cc))

    -- a term of the unknown is kept
    pub filter-kept : (ts : List Term) → ((t : Term) → t.serial ≡ u → keep t ≡ true) → term_of u (filter keep ts) ≡ term_of u ts
    filter-kept [] kept = refl
    filter-kept (t ∷ ts) kept = filter_cond t ts (keep t) refl (kept t) (filter-kept ts kept)

-- what is left without an unknown
not_eqb : (m n : ℕ) → m ≢ n → not (eqb m n) ≡ true
not_eqb m n other = rw (ne_eqb m n other) refl

pub without-other : (u serial : ℕ) (ts : List Term) → u ≢ serial → term_of u (without serial ts) ≡ term_of u ts
without-other u serial ts other = filter-kept u (λ t. not (eqb t.serial serial)) ts (λ t same. not_eqb t.serial serial (λ e. other (sym same ∙ e)))

-- each term has the coefficient of its unknown
own_coefficients : (bound : ℕ) (ts : List Term) → SerialsDecrease bound ts → All (λ t. (t.serial < bound) × (coefficient_of t.serial ts ≡ t.coefficient)) ts
own_coefficients bound [] below = All-nil (λ t. (t.serial < bound) × (coefficient_of t.serial [] ≡ t.coefficient))
own_coefficients bound (t ∷ ts) below =
    let rest = own_coefficients t.serial ts below.1 in
    All-cons (λ u. (u.serial < bound) × (coefficient_of u.serial (t ∷ ts) ≡ u.coefficient)) t ts
    (below.0, ap coefficient_in (first_is t.serial t ts refl))
    (λ i d lt.
    let here = rest i d lt in
    (omega (arith, here.0, below.0), ap coefficient_in (first_other (get_or ts i d).serial t ts (λ same. omega (arith, same, here.0))) ∙ here.1))

pub pivot_own : (terms : List Term) (pivot : Term) → AreTerms terms → pivot_of terms ≡ Some pivot → coefficient_of pivot.serial terms ≡ pivot.coefficient
pivot_own terms pivot are found =
    (holds-pivot_of (λ t. (t.serial < 2 ^ 32) × (coefficient_of t.serial terms ≡ t.coefficient)) terms pivot found (own_coefficients (2 ^ 32) terms are.serials)).1

-- what holds of 0 and of each coefficient holds of that of an unknown
pub holds-coefficient : (P : ℤ → Type 0) (u : ℕ) (ts : List Term) → P (pos 0) → All (λ t. P t.coefficient) ts → P (coefficient_of u ts)
holds-coefficient P u [] zero some = zero
holds-coefficient P u (t ∷ ts) zero some =
    elim (cases_equal t.serial u) [
      | inl same ↦ rw (first_is u t ts same) (All-head (λ t. P t.coefficient) t ts some)
      | inr other ↦ rw (first_other u t ts other) (holds-coefficient P u ts zero (All-tail (λ t. P t.coefficient) t ts some))
    ]
