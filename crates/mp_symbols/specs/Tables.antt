-- What a table of names holds: names with their meanings, internals, and what open groups will give back.
use Rattle.std.specs.Prelude.{ℕ, ℤ, Bool, true, false, ◌&&◌, nat_lt, List, [], ◌∷◌}
use Rattle.mp_symbols.specs.Names.{Names}
use Rattle.mp_symbols.specs.declared.saved.Saved.{Saved}
use Rattle.mp_symbols.specs.declared.saved.Saved.TheVariants.{Boundary, Meaning, Number}

-- a symbol is the position of its name, and an internal the position of its value
pub record Table (M : Type 0) : Type 0 where
  pub names : Names M
  pub internals : List ℤ
  -- what is to be undone at the ends of the open groups, the newest first
  pub saved : List (Saved M)

module _ {M : Type 0} where
  -- a group is open: the place where it began is among what is to be undone
  abbrev pub is_open : List (Saved M) → Bool
  is_open [] = false
  is_open (Boundary ∷ older) = true
  is_open (entry ∷ older) = is_open older

  -- in a table of so many names and internals: each thing to undo is of a symbol or an internal that there is, and
  -- stands in a group
  abbrev pub is_sound : ℕ → ℕ → List (Saved M) → Bool
  is_sound names internals [] = true
  is_sound names internals (Boundary ∷ older) = is_sound names internals older
  is_sound names internals (Meaning symbol old ∷ older) = nat_lt symbol names && (is_open older && is_sound names internals older)
  is_sound names internals (Number k old ∷ older) = nat_lt k internals && (is_open older && is_sound names internals older)
