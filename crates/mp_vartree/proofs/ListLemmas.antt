-- Lists.
use Rattle.std.proofs.Common.{◌≡◌, List, [], ◌∷◌, length, refl, arith}

pub empty_from_length : {A : Type 0} {xs : List A} → length xs ≡ 0 → xs ≡ []
empty_from_length {xs = []} e = refl
empty_from_length {xs = x ∷ xs} e = absurd (omega arith)
