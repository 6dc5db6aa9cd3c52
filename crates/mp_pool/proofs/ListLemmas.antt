-- A term taken out of a list.
use Rattle.std.proofs.Common.{◌≡◌, ◌≢◌, ℕ, ◌<◌, ℤ, List, [], ◌∷◌, ◌++◌, Some, None, take, drop, append_assoc, refl, sym, ap, arith}
use Rattle.std.proofs.lemmas.Bool.{eq-eqb, ne_eqb}
use Rattle.mp_pool.specs.declared.Term.{Term}
use Rattle.mp_pool.specs.Terms.{SerialsDecrease, without, term_of}
use Rattle.mp_pool.specs.Storage.Merge.{FrontBelow}

drop-decrease : (n : ℕ) (ts : List Term) → SerialsDecrease n ts → SerialsDecrease n (drop 1 ts)
drop-decrease n [] below = tt
drop-decrease n (t ∷ []) below = tt
drop-decrease n (t ∷ u ∷ us) below = (omega (arith, below.0, below.1.0), below.1.1)

-- a term of another unknown is passed
pub record IsPassed (serial n : ℕ) (done left : List Term) : Type 0 where
  pub ordered : SerialsDecrease n (drop 1 left)
  pub others : (done ++ take 1 left) ++ without serial (drop 1 left) ≡ done ++ without serial left
  pub same : term_of serial (drop 1 left) ≡ term_of serial left

pub passed : (serial n : ℕ) (done left : List Term) (p : Term) → left ≡ p ∷ drop 1 left → serial < p.serial → SerialsDecrease n left → IsPassed serial n done left
passed serial n done [] p is more below = absurd cc
passed serial n done (t ∷ ts) p is more below =
    let same : t ≡ p = cc in
    let other : t.serial ≢ serial = λ e. let s = ap (λ (u : Term). u.serial) same in omega (arith, e, s, more) in
    record {
      ordered = drop-decrease n (t ∷ ts) below;
      others = rw (ne_eqb t.serial serial other) (append_assoc done (t ∷ []) (without serial ts));
      same = rw (ne_eqb t.serial serial other) refl;
    }

lower : (m n : ℕ) (ts : List Term) → m < n → SerialsDecrease m ts → SerialsDecrease n ts
lower m n [] lt below = tt
lower m n (t ∷ ts) lt below = (omega (arith, lt, below.0), below.1)

-- no term of the unknown is left
pub none_below : (serial : ℕ) (ts : List Term) → SerialsDecrease serial ts → (without serial ts ≡ ts) × (term_of serial ts ≡ None)
none_below serial [] below = (refl, refl)
none_below serial (t ∷ ts) below =
    let other : t.serial ≢ serial = λ e. omega (arith, e, below.0) in
    let rest = none_below serial ts (lower t.serial serial ts below.0 below.1) in
    (rw (ne_eqb t.serial serial other) (ap (λ us. t ∷ us) rest.0), rw (ne_eqb t.serial serial other) rest.1)

pub none_at_front : (serial n : ℕ) (ts : List Term) → FrontBelow serial ts → SerialsDecrease n ts → (without serial ts ≡ ts) × (term_of serial ts ≡ None)
none_at_front serial n [] front below = (refl, refl)
none_at_front serial n (t ∷ ts) front below = none_below serial (t ∷ ts) (front, below.1)

-- the first term is the unknown's
pub one_at_front : (serial n : ℕ) (c : ℤ) (ts : List Term) → ts ≡ record { serial = serial; coefficient = c } ∷ drop 1 ts → SerialsDecrease n ts →
    (without serial ts ≡ drop 1 ts) × (term_of serial ts ≡ Some (record { serial = serial; coefficient = c }))
one_at_front serial n c [] is below = absurd cc
one_at_front serial n c (t ∷ ts) is below =
    let same : t ≡ record { serial = serial; coefficient = c } = cc in
    let at : t.serial ≡ serial = ap (λ (u : Term). u.serial) same in
    let rest : SerialsDecrease serial ts = rw (sym at) below.1 in
    (rw (eq-eqb t.serial serial at) (none_below serial ts rest).0, rw (eq-eqb t.serial serial at) (ap (λ (u : Term). Some u) same))
