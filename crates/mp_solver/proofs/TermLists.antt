-- Lists of terms: which serials are in what is made of them, and which term comes first by magnitude.
use Rattle.std.proofs.Common.{◌≡◌, ◌≢◌, ℕ, ◌+◌, ◌<◌, ◌≤◌, ◌^◌, ℤ, ◌+ℤ◌, unsigned_abs, Bool, true, false, not, cond, ltb, eqb, List, [], ◌∷◌, ◌++◌, Some, None, length, get_or, take, drop, refl, sym, ap, ◌∙◌, arith}
use Rattle.std.specs.List.{All, best_of}
use Rattle.std.specs.Ordering.{nat_cmp, match_ordering}
use Rattle.std.specs.declared.cmp.Ordering.TheVariants.{Less, Equal, Greater}
use Rattle.std.proofs.lemmas.Bool.{ltb-true, ltb-false, eq-eqb, ne_eqb}
use Rattle.std.proofs.lemmas.List.{flat_map_more, take_more, take-append-drop}
use Rattle.std.proofs.lemmas.List.Elements.{All-nil, All-cons, All-head, All-tail, All-append}
use Rattle.std.proofs.lemmas.List.Folds.{find-append}
use Rattle.mp_pool.specs.declared.Term.{Term}
use Rattle.mp_pool.specs.Terms.{joint_term, lone_term, changed_terms, with_term, sum_terms, AreTerms, StayInOrder}
use Rattle.mp_solver.specs.Elimination.{outranks, pivot_of, without, term_of, over_negative}
use Rattle.mp_solver.proofs.QuotientLemmas.{over_negative_small}

-- what holds of the serials of terms
module _ (P : ℕ → Type 0) where
  abbrev pub Each : List Term → Type 0
  Each ts = All (λ t. P t.serial) ts

  Each-cond : (b : Bool) (t : Term) → P t.serial → Each (cond b [] (t ∷ []))
  Each-cond true t p = All-nil (λ t. P t.serial)
  Each-cond false t p = All-cons (λ t. P t.serial) t [] p (All-nil (λ t. P t.serial))

  Each-lone_term : (serial : ℕ) (c : ℤ) → P serial → Each (lone_term serial c)
  Each-lone_term serial c p = Each-cond (ltb (unsigned_abs c) 1343) (record { serial = serial; coefficient = c }) p

  Each-joint_term : (serial : ℕ) (c : ℤ) → P serial → Each (joint_term serial c)
  Each-joint_term serial c p = Each-cond (ltb (unsigned_abs c) 2685) (record { serial = serial; coefficient = c }) p

  module _ (change : ℤ → ℤ) where
    Each-with_term : (q : Term) (ts : List Term) → P q.serial → Each ts → Each (with_term change q ts)
    unfolding with_term
    Each-with_term q [] p some = Each-lone_term q.serial (change q.coefficient) p
    Each-with_term q (t ∷ ts) p some =
        let first = All-head (λ t. P t.serial) t ts some in
        let rest = All-tail (λ t. P t.serial) t ts some in
        let joint = t.coefficient +ℤ change q.coefficient in
        let above = lone_term q.serial (change q.coefficient) ++ t ∷ ts in
        let same = joint_term t.serial joint ++ ts in
        let below = t ∷ with_term change q ts in
        elim (nat_cmp t.serial q.serial) as (λ o. Each (match_ordering o above same below)) [
          | Less ↦ All-append (λ t. P t.serial) (lone_term q.serial (change q.coefficient)) (t ∷ ts) (Each-lone_term q.serial (change q.coefficient) p) some
          | Equal ↦ All-append (λ t. P t.serial) (joint_term t.serial joint) ts (Each-joint_term t.serial joint first) rest
          | Greater ↦ All-cons (λ t. P t.serial) t (with_term change q ts) first (Each-with_term q ts p rest)
        ]

    pub Each-sum_terms : (ps qs : List Term) → Each ps → Each qs → Each (sum_terms change ps qs)
    unfolding sum_terms
    Each-sum_terms ps [] left right = left
    Each-sum_terms ps (q ∷ qs) left right =
        Each-with_term q (sum_terms change ps qs) (All-head (λ t. P t.serial) q qs right)
        (Each-sum_terms ps qs left (All-tail (λ t. P t.serial) q qs right))

    pub Each-changed_terms : (ts : List Term) → Each ts → Each (changed_terms change ts)
    Each-changed_terms [] some = All-nil (λ t. P t.serial)
    Each-changed_terms (t ∷ ts) some =
        All-append (λ t. P t.serial) (lone_term t.serial (change t.coefficient)) (changed_terms change ts)
        (Each-lone_term t.serial (change t.coefficient) (All-head (λ t. P t.serial) t ts some))
        (Each-changed_terms ts (All-tail (λ t. P t.serial) t ts some))

-- no term of the unknown is left
Each-without_cond : (serial : ℕ) (t : Term) (ts : List Term) (b : Bool) → eqb t.serial serial ≡ b → Each (λ s. s ≢ serial) ts → Each (λ s. s ≢ serial) (cond (not b) (t ∷ ts) ts)
Each-without_cond serial t ts true e rest = rest
Each-without_cond serial t ts false e rest =
    All-cons (λ t. t.serial ≢ serial) t ts (λ same. absurd (let other = eq-eqb t.serial serial same in cc)) rest

pub Each-without : (serial : ℕ) (ts : List Term) → Each (λ s. s ≢ serial) (without serial ts)
Each-without serial [] = All-nil (λ t. t.serial ≢ serial)
Each-without serial (t ∷ ts) = Each-without_cond serial t (without serial ts) (eqb t.serial serial) refl (Each-without serial ts)

-- what holds of all terms holds of the one of greatest magnitude
module _ (P : Term → Type 0) where
  holds_cond : (b : Bool) (t u : Term) → P t → P u → P (cond b u t)
  holds_cond true t u p q = q
  holds_cond false t u p q = p

  holds-best_of : (t : Term) (ts : List Term) → P t → All P ts → P (best_of outranks t ts)
  holds-best_of t [] p some = p
  holds-best_of t (u ∷ us) p some =
      holds-best_of (cond (outranks u t) u t) us (holds_cond (outranks u t) t u p (All-head P u us some)) (All-tail P u us some)

  pub holds-pivot_of : (ts : List Term) (pivot : Term) → pivot_of ts ≡ Some pivot → All P ts → P pivot
  holds-pivot_of [] pivot is some = absurd cc
  holds-pivot_of (t ∷ ts) pivot is some =
      let same : best_of outranks t ts ≡ pivot = cc in
      rw (sym same) (holds-best_of t ts (All-head P t ts some) (All-tail P t ts some))

abbrev magnitude : Term → ℕ
magnitude t = unsigned_abs t.coefficient

greater_cond : (b : Bool) (t u : Term) → ltb (magnitude t) (magnitude u) ≡ b → (magnitude t ≤ magnitude (cond b u t)) × (magnitude u ≤ magnitude (cond b u t))
greater_cond true t u e = (omega (arith, ltb-true (magnitude t) (magnitude u) e), omega arith)
greater_cond false t u e = (omega arith, omega (arith, ltb-false (magnitude t) (magnitude u) e))

module _ where
  greatest-best_of : (t : Term) (ts : List Term) → (magnitude t ≤ magnitude (best_of outranks t ts)) × All (λ u. magnitude u ≤ magnitude (best_of outranks t ts)) ts
  greatest-best_of t [] = (omega arith, All-nil (λ u. magnitude u ≤ magnitude t))
  greatest-best_of t (u ∷ us) =
      let next = cond (outranks u t) u t in
      let best = best_of outranks next us in
      let step = greater_cond (outranks u t) t u refl in
      let rest = greatest-best_of next us in
      (omega (arith, step.0, rest.0), All-cons (λ v. magnitude v ≤ magnitude best) u us (omega (arith, step.1, rest.0)) rest.1)

  -- the pivot has the greatest magnitude
  pub greatest-pivot_of : (ts : List Term) (pivot : Term) → pivot_of ts ≡ Some pivot → All (λ t. magnitude t ≤ magnitude pivot) ts
  greatest-pivot_of [] pivot is = absurd cc
  greatest-pivot_of (t ∷ ts) pivot is =
      let same : best_of outranks t ts ≡ pivot = cc in
      let best = greatest-best_of t ts in
      rw (sym same) (All-cons (λ u. magnitude u ≤ magnitude (best_of outranks t ts)) t ts best.0 best.1)

-- the search for a term: it is none of those before, and it is this one
pub term_of-more : (serial : ℕ) (ts : List Term) (i : ℕ) (d : Term) → i < length ts → term_of serial (take i ts) ≡ None → (get_or ts i d).serial ≢ serial → term_of serial (take (i + 1) ts) ≡ None
term_of-more serial ts i d within none other =
    let t = get_or ts i d in
    let test : Term → Bool = λ t. eqb t.serial serial in
    ap (term_of serial) (take_more ts i d within)
    ∙ find-append test (take i ts) (t ∷ [])
    ∙ rw (none, ne_eqb t.serial serial other) refl

pub term_of-found : (serial : ℕ) (ts : List Term) (i : ℕ) (d : Term) → i < length ts → term_of serial (take i ts) ≡ None → (get_or ts i d).serial ≡ serial → term_of serial ts ≡ Some (get_or ts i d)
term_of-found serial ts i d within none same =
    let t = get_or ts i d in
    let test : Term → Bool = λ t. eqb t.serial serial in
    let here : term_of serial (take (i + 1) ts) ≡ Some t =
    ap (term_of serial) (take_more ts i d within) ∙ find-append test (take i ts) (t ∷ []) ∙ rw (none, eq-eqb t.serial serial same) refl in
    ap (term_of serial) (sym (take-append-drop (i + 1) ts)) ∙ find-append test (take (i + 1) ts) (drop (i + 1) ts) ∙ rw here refl

-- what holds of all terms holds of the one that is found
pub holds-term_of : (P : Term → Type 0) (serial : ℕ) (ts : List Term) (t : Term) → term_of serial ts ≡ Some t → All P ts → P t
holds-term_of P serial [] t is some = absurd cc
holds-term_of P serial (u ∷ us) t is some =
    elim (eqb u.serial serial) as (λ b. cond b (Some u) (term_of serial us) ≡ Some t → P t) [
      | true ↦ λ e. let same : u ≡ t = cc in rw (sym same) (All-head P u us some)
      | false ↦ λ e. holds-term_of P serial us t e (All-tail P u us some)
    ] is

abbrev IsSmall : Term → Type 0
IsSmall t = unsigned_abs t.coefficient < 2 ^ 44

small_cond : (b : Bool) (t : Term) → IsSmall t → All IsSmall (cond b [] (t ∷ []))
small_cond true t small = All-nil IsSmall
small_cond false t small = All-cons IsSmall t [] small (All-nil IsSmall)

small-changed_terms : (change : ℤ → ℤ) (ts : List Term) → All (λ t. unsigned_abs (change t.coefficient) < 2 ^ 44) ts → All IsSmall (changed_terms change ts)
small-changed_terms change [] small = All-nil IsSmall
small-changed_terms change (t ∷ ts) small =
    let c = change t.coefficient in
    All-append IsSmall (lone_term t.serial c) (changed_terms change ts)
    (small_cond (ltb (unsigned_abs c) 1343) (record { serial = t.serial; coefficient = c }) (All-head (λ t. unsigned_abs (change t.coefficient) < 2 ^ 44) t ts small))
    (small-changed_terms change ts (All-tail (λ t. unsigned_abs (change t.coefficient) < 2 ^ 44) t ts small))

-- no coefficient is too large after a division by the greatest
pub small-over_negative : (v : ℤ) (ts : List Term) → 0 < unsigned_abs v → All (λ t. unsigned_abs t.coefficient ≤ unsigned_abs v) ts → All IsSmall (changed_terms (over_negative v) ts)
small-over_negative v ts some greatest =
    small-changed_terms (over_negative v) ts (λ i d lt. omega (arith, over_negative_small v (get_or ts i d).coefficient some (greatest i d lt)))

-- the terms of a form that is divided by the greatest of its coefficients
pub AreTerms-over_negative : (order : StayInOrder) (v : ℤ) (ts : List Term) → 0 < unsigned_abs v → All (λ t. unsigned_abs t.coefficient ≤ unsigned_abs v) ts → AreTerms ts → AreTerms (changed_terms (over_negative v) ts)
AreTerms-over_negative order v ts some greatest are =
    let ordered = order.multiples (over_negative v) ts are in
    let small = small-over_negative v ts some greatest in
    record {
      serials = ordered.serials;
      coefficients = λ i d lt. (ordered.nonzero i d lt, small i d lt);
    }

-- one more term with a changed coefficient
pub changed_terms-more : (change : ℤ → ℤ) (before ts : List Term) (i : ℕ) (d : Term) → i < length ts →
    (before ++ changed_terms change (take i ts)) ++ lone_term (get_or ts i d).serial (change (get_or ts i d).coefficient) ≡ before ++ changed_terms change (take (i + 1) ts)
changed_terms-more change before ts i d lt =
    flat_map_more (λ t. lone_term t.serial (change t.coefficient)) before (take i ts) (get_or ts i d)
    ∙ ap (λ us. before ++ changed_terms change us) (sym (take_more ts i d lt))

pub term_of-none : (serial : ℕ) (ts : List Term) → All (λ t. t.serial ≡ serial → ⊥) ts → term_of serial ts ≡ None
term_of-none serial [] without = refl
term_of-none serial (t ∷ ts) without =
    let first = All-head (λ t. t.serial ≡ serial → ⊥) t ts without in
    rw (ne_eqb t.serial serial first) (term_of-none serial ts (All-tail (λ t. t.serial ≡ serial → ⊥) t ts without))
