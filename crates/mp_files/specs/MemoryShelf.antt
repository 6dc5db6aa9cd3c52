-- A shelf in memory: what a put answers and what it leaves.
use Rattle.std.specs.Prelude.{ℕ, ◌+◌, ◌-◌, ◌≤◌, ◌≡◌, List, [], ◌∷◌, ◌++◌, length, Bool, not, ◌||◌, ◌&&◌, nat_lt, nat_le, cond, take, drop, map, sum_by, All, Some}
use Rattle.mp_files.specs.declared.memory_shelf.Place.{Place}
use Rattle.mp_files.specs.declared.outside.Stored.{Stored}
use Rattle.mp_files.specs.declared.outside.Stored.TheVariants as stored
use Rattle.mp_files.specs.Counts.{next_count, is_listed}
use Rattle.mp_files.specs.Seen.{ShelfSeen}

-- the pairs, the room for pairs and for bytes, the calls so far, the calls that fail, and the faults
pub record ShelfState : Type 0 where
  pub pairs : List (List ℕ × List ℕ)
  pub pair_room : ℕ
  pub byte_room : ℕ
  pub calls : ℕ
  pub failing : List ℕ
  pub faults : ℕ

abbrev pub new_shelf : ℕ → ℕ → List ℕ → ShelfState
new_shelf pair_room byte_room failing = record { pairs = []; pair_room = pair_room; byte_room = byte_room; calls = 0; failing = failing; faults = 0 }

-- this shelf tells all that it holds
abbrev pub shelf_seen : ShelfState → ShelfSeen
shelf_seen s = record { faults = s.faults; pairs = Some s.pairs }

-- the bytes of a pair, its name and its content together
abbrev pub pair_size : List ℕ × List ℕ → ℕ
pair_size pair = length pair.0 + length pair.1

-- the room that is left holds the pair
abbrev pub has_room : ShelfState → List ℕ → List ℕ → Bool
has_room s name bytes = nat_lt (length s.pairs) s.pair_room && nat_le (sum_by pair_size s.pairs + pair_size (name, bytes)) s.byte_room

-- the next put fails: it is listed, or its pair has no room
abbrev pub put_fails : ShelfState → List ℕ → List ℕ → Bool
put_fails s name bytes = is_listed s.failing (next_count s.calls) || not (has_room s name bytes)

abbrev pub put_answer : ShelfState → List ℕ → List ℕ → Stored
put_answer s name bytes = cond (put_fails s name bytes) stored.Failed stored.Stored

-- what the next put leaves
abbrev pub after_put : ShelfState → List ℕ → List ℕ → ShelfState
after_put s name bytes = record { pairs = cond (put_fails s name bytes) s.pairs (s.pairs ++ (name, bytes) ∷ []); pair_room = s.pair_room; byte_room = s.byte_room; calls = next_count s.calls; failing = s.failing; faults = cond (put_fails s name bytes) (next_count s.faults) s.faults }

-- the pair that stands at a place of the text
abbrev pub pair_at : List ℕ → Place → List ℕ × List ℕ
pair_at text place = (take (place.middle - place.start) (drop place.start text), take (place.end - place.middle) (drop place.middle text))

-- the place is within a text of that length
abbrev pub IsWithin : ℕ → Place → Type 0
IsWithin size place = (place.start ≤ place.middle) × (place.middle ≤ place.end) × (place.end ≤ size)

-- the places are within the text, and the pairs that stand there take all of it
pub record Fills (places : List Place) (text : List ℕ) : Type 0 where
  pub within : All (IsWithin (length text)) places
  pub size : length text ≡ sum_by pair_size (map (pair_at text) places)
