-- The terms of linear forms: how they are multiplied and added, and which of them are dropped.
-- After Knuth, METAFONT: The Program, part 28 (p_plus_fq and p_times_v); the thresholds are those for fractions.
use Rattle.std.specs.Prelude.{ℕ, ◌<◌, ◌≤◌, ◌^◌, ℤ, ◌+ℤ◌, unsigned_abs, List, [], ◌∷◌, ◌++◌, Option, filter, find, not, nat_eq, nat_lt, nat_le, cond, ⊤, Bool, All, Any}
use Rattle.std.specs.List.{flat_map}
use Rattle.std.specs.Ordering.{nat_cmp, match_ordering}
use Rattle.mp_pool.specs.declared.Term.{Term}

-- a term as a list; nothing where its coefficient has a smaller magnitude than this
abbrev pub term_from : ℕ → ℕ → ℤ → List Term
term_from least serial coefficient = cond (nat_lt (unsigned_abs coefficient) least) [] (record { serial = serial; coefficient = coefficient } ∷ [])

-- the sum of two terms of one serial; nothing where its magnitude is below 2685
abbrev pub joint_term : ℕ → ℤ → List Term
joint_term serial coefficient = term_from 2685 serial coefficient

-- any other term with a new coefficient; nothing where its magnitude is at most 1342
abbrev pub lone_term : ℕ → ℤ → List Term
lone_term serial coefficient = term_from 1343 serial coefficient

-- terms, each with its coefficient changed
abbrev pub changed_terms : (ℤ → ℤ) → List Term → List Term
changed_terms change terms = flat_map (λ t. lone_term t.serial (change t.coefficient)) terms

-- terms whose serials go down, and one more, its coefficient changed: it stands before a first term of a
-- lower serial, is added to one of its own serial, and goes to the others behind one of a higher serial
unfoldable pub with_term : (ℤ → ℤ) → Term → List Term → List Term
with_term change q [] = lone_term q.serial (change q.coefficient)
with_term change q (p ∷ ps) =
    match_ordering (nat_cmp p.serial q.serial)
    (lone_term q.serial (change q.coefficient) ++ p ∷ ps)
    (joint_term p.serial (p.coefficient +ℤ change q.coefficient) ++ ps)
    (p ∷ with_term change q ps)

-- the terms of one form, and those of another one by one, their coefficients changed
unfoldable pub sum_terms : (ℤ → ℤ) → List Term → List Term → List Term
sum_terms change ps [] = ps
sum_terms change ps (q ∷ qs) = with_term change q (sum_terms change ps qs)

-- the terms of all other unknowns
abbrev pub without : ℕ → List Term → List Term
without serial terms = filter (λ t. not (nat_eq t.serial serial)) terms

-- the term of an unknown, where there is one
abbrev pub term_of : ℕ → List Term → Option Term
term_of serial terms = find (λ t. nat_eq t.serial serial) terms

-- serials go down, the first of them from below a number
abbrev pub SerialsDecrease : ℕ → List Term → Type 0
SerialsDecrease bound [] = ⊤
SerialsDecrease bound (t ∷ ts) = (t.serial < bound) × SerialsDecrease t.serial ts

-- a coefficient that a form may have
abbrev pub IsCoefficient : ℤ → Type 0
IsCoefficient c = (0 < unsigned_abs c) × (unsigned_abs c < 2 ^ 44)

-- the terms of a form
pub record AreTerms (terms : List Term) : Type 0 where
  pub serials : SerialsDecrease (2 ^ 32) terms
  pub coefficients : All (λ t. IsCoefficient t.coefficient) terms

-- the terms of a form, but that their coefficients may be too large
pub record AreOrdered (terms : List Term) : Type 0 where
  pub serials : SerialsDecrease (2 ^ 32) terms
  pub nonzero : All (λ t. 0 < unsigned_abs t.coefficient) terms

abbrev pub is_too_large : Term → Bool
is_too_large t = nat_le (2 ^ 44) (unsigned_abs t.coefficient)

-- some coefficient is too large for a form
abbrev pub HasTooLarge : List Term → Type 0
HasTooLarge terms = Any (λ t. 2 ^ 44 ≤ unsigned_abs t.coefficient) terms

-- what is made of the terms of forms stands in order again
pub record StayInOrder : Type 0 where
  pub multiples : (change : ℤ → ℤ) (ts : List Term) → AreTerms ts → AreOrdered (changed_terms change ts)
  pub sums : (change : ℤ → ℤ) (ps qs : List Term) → AreTerms ps → AreTerms qs → AreOrdered (sum_terms change ps qs)
