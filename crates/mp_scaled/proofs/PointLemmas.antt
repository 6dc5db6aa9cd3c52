-- A list, cut at the place of the first element that passes a test.
use Rattle.std.proofs.Common.{◌≡◌, ℕ, ◌≤◌, Bool, true, false, cond, ltb, List, length, Some, None, refl}
use Rattle.std.proofs.lemmas.Bool.{ltb-false}
use Rattle.std.specs.List.{position, position_or_len}

-- where the first such element is at that place
pub place_found : {X : Type 0} (p : X → Bool) (xs : List X) (i : ℕ) → Some i ≡ position p xs → position_or_len p xs ≡ i
place_found p xs i e =
    elim (ltb (position_or_len p xs) (length xs)) as (λ b. Some i ≡ cond b (Some (position_or_len p xs)) None → position_or_len p xs ≡ i) [
      | true ↦ λ k. cc
      | false ↦ λ k. cc
    ] e

none_tells : (n m : ℕ) (b : Bool) → ltb n m ≡ b → None ≡ cond b (Some n) None → m ≤ n
none_tells n m true t e = cc
none_tells n m false t e = ltb-false n m t

-- where there is no such element
pub place_missing : {X : Type 0} (p : X → Bool) (xs : List X) → None ≡ position p xs → length xs ≤ position_or_len p xs
place_missing p xs e = none_tells (position_or_len p xs) (length xs) _ refl e
