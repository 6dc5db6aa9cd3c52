use Rattle.std.specs.Prelude.{ℕ, ◌<◌, ◌≤◌, ◌^◌, ℤ, ◌+ℤ◌, unsigned_abs, ◌+◌, nat_lt, nat_eq, cond, Option, Some, None, List, [], ◌∷◌}
use Rattle.std.specs.List.{All}
use Rattle.mp_pool.specs.declared.Term.{Term}

-- the term with its rest, or the rest alone where its coefficient is below the least
abbrev pub kept : ℕ → ℕ → ℤ → List Term → List Term
kept least s c rest = cond (nat_lt (unsigned_abs c) least) rest (record { serial = s; coefficient = c } ∷ rest)

abbrev pub products : (ℤ → ℤ) → List Term → List Term
products change [] = []
products change (q ∷ qs) = kept 1343 q.serial (change q.coefficient) (products change qs)

-- p before what the rest gives, among the terms qs
abbrev pub among : (ℤ → ℤ) → Term → (List Term → List Term) → List Term → List Term
among change p rest [] = p ∷ rest []
among change p rest (q ∷ qs) =
    cond (nat_lt q.serial p.serial) (p ∷ rest (q ∷ qs))
    (cond (nat_eq p.serial q.serial) (kept 2685 q.serial (p.coefficient +ℤ change q.coefficient) (rest qs))
    (kept 1343 q.serial (change q.coefficient) (among change p rest qs)))

-- the terms ps and, changed, the terms qs
unfoldable pub merge : (ℤ → ℤ) → List Term → List Term → List Term
merge change [] qs = products change qs
merge change (p ∷ ps) qs = among change p (merge change ps) qs

abbrev pub IsSmall : Term → Type 0
IsSmall t = unsigned_abs t.coefficient < 2 ^ 44

abbrev pub AreSmall : List Term → Type 0
AreSmall ts = All IsSmall ts

-- the first serial is at most this
abbrev pub FrontAtMost : ℕ → List Term → Type 0
FrontAtMost s [] = Unit {0}
FrontAtMost s (t ∷ ts) = t.serial ≤ s

-- the first serial is below this
abbrev pub FrontBelow : ℕ → List Term → Type 0
FrontBelow s [] = Unit {0}
FrontBelow s (t ∷ ts) = t.serial < s

-- two numbers of terms together, where both are there
abbrev pub plus : Option ℕ → Option ℕ → Option ℕ
plus None n = None
plus (Some m) None = None
plus (Some m) (Some n) = Some (m + n)

-- the number of terms; none where a coefficient is 2^44 or more
abbrev pub fitting : List Term → Option ℕ
fitting [] = Some 0
fitting (t ∷ ts) = plus (cond (nat_lt (unsigned_abs t.coefficient) (2 ^ 44)) (Some 1) None) (fitting ts)
