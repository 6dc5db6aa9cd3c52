-- What is left of a list behind its first entry.
use Rattle.std.proofs.Common.{◌≡◌, ◌≤◌, refl, ℕ, zero, suc, ◌+◌, List, [], ◌∷◌, drop, length, add-one}
use Rattle.std.proofs.lemmas.List.{drop_all}

behind : {A : Type 0} (xs : List A) (n : ℕ) → drop 1 (drop n xs) ≡ drop (suc n) xs
behind [] zero = refl
behind [] (suc n) = refl
behind (x ∷ xs) zero = refl
behind (x ∷ xs) (suc n) = behind xs n

pub rest_is : {A : Type 0} (xs : List A) (n : ℕ) → drop 1 (drop n xs) ≡ drop (n + 1) xs
rest_is xs n = rw (add-one) (behind xs n)

pub nothing_is_left : {A : Type 0} (xs : List A) (n : ℕ) → length xs ≤ n → drop 1 (drop n xs) ≡ drop n xs
nothing_is_left xs n h = rw (drop_all n xs h) refl
