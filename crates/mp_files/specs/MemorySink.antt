-- A sink in memory: what a write answers and what it leaves.
use Rattle.std.specs.Prelude.{ℕ, ◌-◌, List, [], ◌++◌, length, Bool, ◌==◌, ◌||◌, nat_lt, cond, min, take, Option, Some, find, is_some}
use Rattle.std.specs.Option.{option_map, option_map_or}
use Rattle.mp_files.specs.declared.memory_sink.FailAt.{FailAt}
use Rattle.mp_files.specs.declared.outside.Written.{Written}
use Rattle.mp_files.specs.declared.outside.Written.TheVariants as written
use Rattle.mp_files.specs.Counts.{next_count}
use Rattle.mp_files.specs.Seen.{SinkSeen}

-- the bytes, the room for them, the calls so far, the calls that fail, and the faults
pub record SinkState : Type 0 where
  pub bytes : List ℕ
  pub room : ℕ
  pub calls : ℕ
  pub failing : List FailAt
  pub faults : ℕ

abbrev pub new_sink : ℕ → List FailAt → SinkState
new_sink room failing = record { bytes = []; room = room; calls = 0; failing = failing; faults = 0 }

-- this sink tells all that it holds
abbrev pub sink_seen : SinkState → SinkSeen
sink_seen s = record { faults = s.faults; bytes = Some s.bytes }

abbrev pub room_left : SinkState → ℕ
room_left s = s.room - length s.bytes

-- how many bytes the call takes before it fails, by the first entry that names it
abbrev pub after_of : List FailAt → ℕ → Option ℕ
after_of failing call = option_map (λ f. f.after) (find (λ f. f.call == call) failing)

-- the same of the next call
abbrev pub next_after : SinkState → Option ℕ
next_after s = after_of s.failing (next_count s.calls)

-- the room that is left does not hold the piece
abbrev pub is_short_of : SinkState → List ℕ → Bool
is_short_of s piece = nat_lt (room_left s) (length piece)

-- the next write fails: it is listed, or its piece has no room
abbrev pub write_fails : SinkState → List ℕ → Bool
write_fails s piece = is_some (next_after s) || is_short_of s piece

abbrev pub write_answer : SinkState → List ℕ → Written
write_answer s piece = cond (write_fails s piece) written.Failed written.Written

-- what the next write takes: the start of its piece where it is listed, else all or nothing
abbrev pub taken : SinkState → List ℕ → List ℕ
taken s piece = option_map_or (λ after. take (min after (room_left s)) piece) (next_after s) (cond (is_short_of s piece) [] piece)

-- what the next write leaves
abbrev pub after_write : SinkState → List ℕ → SinkState
after_write s piece = record { bytes = s.bytes ++ taken s piece; room = s.room; calls = next_count s.calls; failing = s.failing; faults = cond (write_fails s piece) (next_count s.faults) s.faults }
