-- Whether a merge stays in range, and how many terms it has, term by term.
use Rattle.std.proofs.Common.{◌≡◌, ◌≢◌, ◌↔◌, ◌⊎◌, inl, inr, ◌<◌, ◌^◌, ◌+◌, ℕ, ◌∷◌, [], List, Option, Some, None, length, cond, eqb, not, arith, refl, ap, sym, ◌∙◌, Bool, drop, suc, subst}
use Rattle.std.specs.Prelude.{ℤ, ◌+ℤ◌, unsigned_abs}
use Rattle.std.specs.Option.{IsNone, IfSome}
use Rattle.std.proofs.lemmas.Bool.{cases_lt, cases_eq, lt-ltb, le-ltb, eq-eqb, ne_eqb}
use Rattle.std.proofs.lemmas.List.Elements.{All-nil, All-cons}
use Rattle.mp_pool.specs.declared.Term.{Term}
use Rattle.mp_pool.specs.Terms.{SerialsDecrease, without, AreTerms, AreOrdered, HasTooLarge}
use Rattle.mp_pool.specs.Storage.Merge.{merge, kept, plus, fitting, FrontBelow, IsSmall, AreSmall}
use Rattle.mp_pool.proofs.TermLemmas.{SerialsDecrease-more, SerialsDecrease-filter}
use Rattle.mp_pool.proofs.Merging.{merge-greater, merge-same, merge-new, merge-nil}

pub plus-assoc : (a b c : Option ℕ) → plus (plus a b) c ≡ plus a (plus b c)
plus-assoc None b c = refl
plus-assoc (Some k) None c = refl
plus-assoc (Some k) (Some m) None = refl
plus-assoc (Some k) (Some m) (Some n) = ap (λ (x : ℕ). Some x) (omega arith)

pub plus-zero : (a : Option ℕ) → plus (Some 0) a ≡ a
plus-zero None = refl
plus-zero (Some n) = ap (λ (x : ℕ). Some x) (omega arith)

pub plus-none : (a : Option ℕ) → plus a None ≡ None
plus-none None = refl
plus-none (Some n) = refl

fitting-small : (t : Term) (ts : List Term) → IsSmall t → fitting (t ∷ ts) ≡ plus (Some 1) (fitting ts)
fitting-small t ts fits = ap (λ (b : Bool). plus (cond b (Some 1) None) (fitting ts)) (lt-ltb (unsigned_abs t.coefficient) (2 ^ 44) fits)

without-other : (omitted : ℕ) (p : Term) (ps : List Term) → p.serial ≢ omitted → without omitted (p ∷ ps) ≡ p ∷ without omitted ps
without-other omitted p ps other = ap (λ (b : Bool). cond (not b) (p ∷ without omitted ps) (without omitted ps)) (ne_eqb p.serial omitted other)

without-same : (omitted : ℕ) (p : Term) (ps : List Term) → p.serial ≡ omitted → without omitted (p ∷ ps) ≡ without omitted ps
without-same omitted p ps same = ap (λ (b : Bool). cond (not b) (p ∷ without omitted ps) (without omitted ps)) (eq-eqb p.serial omitted same)

pub terms-drop : (ts : List Term) → AreTerms ts → AreTerms (drop 1 ts)
terms-drop [] are = are
terms-drop (t ∷ ts) are = record {
  serials = SerialsDecrease-more t.serial (2 ^ 32) ts (omega (arith, are.serials.0)) are.serials.1;
  coefficients = λ k d h. are.coefficients (suc k) d (omega arith);
}

pub first-small : (t : Term) (ts : List Term) → ts ≡ t ∷ drop 1 ts → AreTerms ts → IsSmall t
first-small t [] is are = absurd cc
first-small t (u ∷ us) is are = let same : u ≡ t = cc in subst IsSmall same (are.coefficients 0 u (omega arith)).1

-- a term that is passed
pub passed-other : (omitted : ℕ) (change : ℤ → ℤ) (p q : Term) (ps qs : List Term) → p.serial ≢ omitted → q.serial < p.serial → IsSmall p →
    plus (Some 1) (fitting (merge change (without omitted ps) (q ∷ qs))) ≡ fitting (merge change (without omitted (p ∷ ps)) (q ∷ qs))
passed-other omitted change p q ps qs other less fits =
    sym (fitting-small p (merge change (without omitted ps) (q ∷ qs)) fits)
    ∙ ap fitting (sym (merge-greater change p (without omitted ps) q qs less))
    ∙ ap (λ (ts : List Term). fitting (merge change ts (q ∷ qs))) (sym (without-other omitted p ps other))

pub passed-same : (omitted : ℕ) (change : ℤ → ℤ) (p q : Term) (ps qs : List Term) → p.serial ≡ omitted →
    plus (Some 0) (fitting (merge change (without omitted ps) (q ∷ qs))) ≡ fitting (merge change (without omitted (p ∷ ps)) (q ∷ qs))
passed-same omitted change p q ps qs same =
    plus-zero _ ∙ ap (λ (ts : List Term). fitting (merge change ts (q ∷ qs))) (sym (without-same omitted p ps same))

pub alone-other : (omitted : ℕ) (p : Term) (ps : List Term) → p.serial ≢ omitted → IsSmall p → plus (Some 1) (fitting (without omitted ps)) ≡ fitting (without omitted (p ∷ ps))
alone-other omitted p ps other fits = sym (fitting-small p (without omitted ps) fits) ∙ ap fitting (sym (without-other omitted p ps other))

pub alone-same : (omitted : ℕ) (p : Term) (ps : List Term) → p.serial ≡ omitted → plus (Some 0) (fitting (without omitted ps)) ≡ fitting (without omitted (p ∷ ps))
alone-same omitted p ps same = plus-zero _ ∙ ap fitting (sym (without-same omitted p ps same))

front-decrease : (s : ℕ) (n : ℕ) (ts : List Term) → FrontBelow s ts → SerialsDecrease n ts → SerialsDecrease s ts
front-decrease s n [] front below = tt
front-decrease s n (t ∷ ts) front below = (front, below.1)

decrease-front : (s : ℕ) (ts : List Term) → SerialsDecrease s ts → FrontBelow s ts
decrease-front s [] below = tt
decrease-front s (t ∷ ts) below = below.0

front-without : (omitted s n : ℕ) (ts : List Term) → FrontBelow s ts → SerialsDecrease n ts → FrontBelow s (without omitted ts)
front-without omitted s n ts front below = decrease-front s (without omitted ts) (SerialsDecrease-filter _ s ts (front-decrease s n ts front below))

-- a term that the list has not
pub fit-new : (change : ℤ → ℤ) (q : Term) (left : List Term) (m : ℤ) (count : Option ℕ) → FrontBelow q.serial left → AreTerms left → m ≡ change q.coefficient →
    ((s : ℕ) (rest : List Term) → plus count (fitting rest) ≡ fitting (kept 1343 s m rest)) →
    (omitted : ℕ) (qs : List Term) → plus count (fitting (merge change (without omitted left) qs)) ≡ fitting (merge change (without omitted left) (q ∷ qs))
fit-new change q left m count front are is counted omitted qs =
    counted q.serial (merge change (without omitted left) qs)
    ∙ ap (λ (x : ℤ). fitting (kept 1343 q.serial x (merge change (without omitted left) qs))) is
    ∙ ap fitting (sym (merge-new change (without omitted left) q qs (front-without omitted q.serial (2 ^ 32) left front are.serials)))

-- a term that the list has
pub fit-same : (change : ℤ → ℤ) (q : Term) (left : List Term) (c m : ℤ) (count : Option ℕ) → left ≡ record { serial = q.serial; coefficient = c } ∷ drop 1 left → m ≡ c +ℤ change q.coefficient →
    ((s : ℕ) (rest : List Term) → plus count (fitting rest) ≡ fitting (kept 2685 s m rest)) →
    (omitted : ℕ) (qs : List Term) → q.serial ≢ omitted → plus count (fitting (merge change (without omitted (drop 1 left)) qs)) ≡ fitting (merge change (without omitted left) (q ∷ qs))
fit-same change q left c m count is sum counted omitted qs other =
    let p : Term = record { serial = q.serial; coefficient = c } in
    counted q.serial (merge change (without omitted (drop 1 left)) qs)
    ∙ ap (λ (x : ℤ). fitting (kept 2685 q.serial x (merge change (without omitted (drop 1 left)) qs))) sum
    ∙ ap fitting (sym (merge-same change p (without omitted (drop 1 left)) q qs refl))
    ∙ ap (λ (ts : List Term). fitting (merge change ts (q ∷ qs))) (sym (without-other omitted p (drop 1 left) other))
    ∙ ap (λ (ts : List Term). fitting (merge change (without omitted ts) (q ∷ qs))) (sym is)

-- 1 for a term that stays, 0 for that of the unknown which is left out
passed_is : (omitted : ℕ) (change : ℤ → ℤ) (p q : Term) (ps qs : List Term) → q.serial < p.serial → IsSmall p →
    plus (Some (cond (eqb p.serial omitted) 0 1)) (fitting (merge change (without omitted ps) (q ∷ qs))) ≡ fitting (merge change (without omitted (p ∷ ps)) (q ∷ qs))
passed_is omitted change p q ps qs less fits =
    elim (cases_eq p.serial omitted) [
      | inl same ↦
          ap (λ (b : Bool). plus (Some (cond b 0 1)) (fitting (merge change (without omitted ps) (q ∷ qs)))) (eq-eqb p.serial omitted same)
          ∙ passed-same omitted change p q ps qs same
      | inr other ↦
          ap (λ (b : Bool). plus (Some (cond b 0 1)) (fitting (merge change (without omitted ps) (q ∷ qs)))) (ne_eqb p.serial omitted other)
          ∙ passed-other omitted change p q ps qs other less fits
    ]

alone_is : (omitted : ℕ) (p : Term) (ps : List Term) → IsSmall p → plus (Some (cond (eqb p.serial omitted) 0 1)) (fitting (without omitted ps)) ≡ fitting (without omitted (p ∷ ps))
alone_is omitted p ps fits =
    elim (cases_eq p.serial omitted) [
      | inl same ↦ ap (λ (b : Bool). plus (Some (cond b 0 1)) (fitting (without omitted ps))) (eq-eqb p.serial omitted same) ∙ alone-same omitted p ps same
      | inr other ↦ ap (λ (b : Bool). plus (Some (cond b 0 1)) (fitting (without omitted ps))) (ne_eqb p.serial omitted other) ∙ alone-other omitted p ps other fits
    ]

-- one more term is passed
pub skip-one : (omitted : ℕ) (change : ℤ → ℤ) (left : List Term) (p q : Term) (qs : List Term) (count one : ℕ) (whole : Option ℕ) → left ≡ p ∷ drop 1 left → q.serial < p.serial → AreTerms left →
    one ≡ cond (eqb p.serial omitted) 0 1 → plus (Some count) (fitting (merge change (without omitted left) (q ∷ qs))) ≡ whole →
    plus (Some (count + one)) (fitting (merge change (without omitted (drop 1 left)) (q ∷ qs))) ≡ whole
skip-one omitted change left p q qs count one whole is less are one_is so_far =
    plus-assoc (Some count) (Some one) (fitting (merge change (without omitted (drop 1 left)) (q ∷ qs)))
    ∙ ap (λ (n : ℕ). plus (Some count) (plus (Some n) (fitting (merge change (without omitted (drop 1 left)) (q ∷ qs))))) one_is
    ∙ ap (plus (Some count)) (passed_is omitted change p q (drop 1 left) qs less (first-small p left is are))
    ∙ ap (λ (ts : List Term). plus (Some count) (fitting (merge change (without omitted ts) (q ∷ qs)))) (sym is)
    ∙ so_far

pub count-one : (omitted : ℕ) (left : List Term) (p : Term) (count one : ℕ) (whole : Option ℕ) → left ≡ p ∷ drop 1 left → AreTerms left →
    one ≡ cond (eqb p.serial omitted) 0 1 → plus (Some count) (fitting (without omitted left)) ≡ whole → plus (Some (count + one)) (fitting (without omitted (drop 1 left))) ≡ whole
count-one omitted left p count one whole is are one_is so_far =
    plus-assoc (Some count) (Some one) (fitting (without omitted (drop 1 left)))
    ∙ ap (λ (n : ℕ). plus (Some count) (plus (Some n) (fitting (without omitted (drop 1 left))))) one_is
    ∙ ap (plus (Some count)) (alone_is omitted p (drop 1 left) (first-small p left is are))
    ∙ ap (λ (ts : List Term). plus (Some count) (fitting (without omitted ts))) (sym is)
    ∙ so_far

-- none of the others is left
pub fit-end : (change : ℤ → ℤ) (left rest : List Term) (count n : ℕ) (whole : Option ℕ) → rest ≡ [] → Some n ≡ fitting left → plus (Some count) (fitting (merge change left rest)) ≡ whole → Some (count + n) ≡ whole
fit-end change left rest count n whole none is so_far =
    ap (plus (Some count)) is
    ∙ ap (λ (ts : List Term). plus (Some count) (fitting ts)) (sym (merge-nil change left))
    ∙ ap (λ (ts : List Term). plus (Some count) (fitting (merge change left ts))) (sym none)
    ∙ so_far

-- the terms fit, or one is too large
pub fits-or_not : (ts : List Term) → (n : Option ℕ) → n ≡ fitting ts → ((n ≡ None) × HasTooLarge ts) ⊎ ((n ≡ Some (length ts)) × AreSmall ts)
fits-or_not [] n is = inr (is, All-nil IsSmall)
fits-or_not (t ∷ ts) n is =
    elim (cases_lt (unsigned_abs t.coefficient) (2 ^ 44)) [
      | inl less ↦
          let here : n ≡ plus (Some 1) (fitting ts) = is ∙ fitting-small t ts less in
          elim (fits-or_not ts (fitting ts) refl) [
            | inl none ↦ inl (here ∙ ap (plus (Some 1)) none.0, let w = none.1 in (suc w.0, w.1, omega (arith, w.2), w.3, w.4))
            | inr some ↦ inr (here ∙ ap (plus (Some 1)) some.0 ∙ ap (λ (x : ℕ). Some x) (omega arith), All-cons IsSmall t ts less some.1)
          ]
      | inr le ↦ inl (is ∙ ap (λ (b : Bool). plus (cond b (Some 1) None) (fitting ts)) (le-ltb (unsigned_abs t.coefficient) (2 ^ 44) le), (0, t, omega arith, refl, le))
    ]

-- no coefficient is too large, or one is
pub not_large : (ts : List Term) → ¬ HasTooLarge ts → AreSmall ts
not_large ts none =
    elim (fits-or_not ts (fitting ts) refl) [ inl some ↦ absurd (none some.1) | inr small ↦ small.1 ]

pub none_exactly : (ts : List Term) (n : Option ℕ) → n ≡ fitting ts → IsNone n ↔ HasTooLarge ts
none_exactly ts n is =
    elim (fits-or_not ts n is) as (λ _. IsNone n ↔ HasTooLarge ts) [
      | inl some ↦ (λ _. some.1, λ _. subst (λ (x : Option ℕ). IsNone x) (sym some.0) refl)
      | inr small ↦ (
        λ e. absurd (let none : IsNone (Some (length ts)) = subst (λ (x : Option ℕ). IsNone x) small.0 e in cc),
        λ w. absurd (let less = small.1 w.0 w.1 w.2 in let less' = rw (w.3) at less in omega (arith, less', w.4)),
      )
    ]

pub length_exactly : (ts : List Term) (n : Option ℕ) → n ≡ fitting ts → IfSome n (λ k. k ≡ length ts)
length_exactly ts n is =
    elim (fits-or_not ts n is) [
      | inl none ↦ subst (λ (x : Option ℕ). IfSome x (λ k. k ≡ length ts)) (sym none.0) tt
      | inr small ↦ subst (λ (x : Option ℕ). IfSome x (λ k. k ≡ length ts)) (sym small.0) refl
    ]

-- terms in order whose coefficients are small are those of a form
pub AreTerms-small : (ts : List Term) → AreOrdered ts → AreSmall ts → AreTerms ts
AreTerms-small ts ordered small = record {
  serials = ordered.serials;
  coefficients = λ k d lt. (ordered.nonzero k d lt, small k d lt);
}
