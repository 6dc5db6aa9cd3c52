-- The last place of a symbol, one place on.
use Rattle.std.proofs.Common.{◌≡◌, refl, ℕ, suc, List, ◌∷◌, Option, Some, None, Bool, true, false, nat_eq, if◌then◌else◌}
use Rattle.std.specs.Option.{option_or}
use Rattle.mp_macro.specs.Bodies.{last_place}

-- what is found behind counts before what was found, and that before what is found at one place
or_found : (behind : Option ℕ) (b : Bool) (place : ℕ) (found : Option ℕ) → option_or (option_or behind (if b then Some place else None)) found ≡ option_or behind (if b then Some place else found)
or_found (Some x) b place found = refl
or_found None true place found = refl
or_found None false place found = refl

pub last_place_step : (symbol x place : ℕ) (xs : List ℕ) (found : Option ℕ) →
    option_or (last_place place symbol (x ∷ xs)) found ≡ option_or (last_place (suc place) symbol xs) (if nat_eq symbol x then Some place else found)
last_place_step symbol x place xs found = or_found (last_place (suc place) symbol xs) (nat_eq symbol x) place found
