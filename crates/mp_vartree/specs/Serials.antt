-- Numbers in increasing order, each once.
use Rattle.std.specs.Prelude.{ℕ, List, [], ◌∷◌}
use Rattle.std.specs.Ordering.{nat_cmp, match_ordering}

-- a number at its place among others that increase
abbrev pub with_number : ℕ → List ℕ → List ℕ
with_number n [] = n ∷ []
with_number n (m ∷ ms) = match_ordering (nat_cmp n m) (n ∷ m ∷ ms) (m ∷ ms) (m ∷ with_number n ms)

-- the numbers of a list, in increasing order, each once
abbrev pub increasing : List ℕ → List ℕ
increasing [] = []
increasing (n ∷ ns) = with_number n (increasing ns)
