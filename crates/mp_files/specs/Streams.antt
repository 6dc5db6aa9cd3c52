-- What a reader gave and what a writer took, where they tell their bytes.
use Rattle.std.specs.Prelude.{ℕ, ◌≡◌, ◌≤◌, List, ◌++◌, length, Option, None, take, IfSome, Result, Ok}
use Rattle.std.specs.Io.KnownBytes.{Appends}
use Rattle.std.specs.declared.io.ErrorKind.{ErrorKind}
use Rattle.std.specs.declared.io.ErrorKind.TheVariants.{NotFound, OutOfMemory}
use Rattle.mp_files.specs.declared.outside.Fetched.{Fetched}
use Rattle.mp_files.specs.declared.outside.Fetched.TheVariants as fetched
use Rattle.mp_files.specs.declared.outside.TheConstants.{MOST_FETCHED}
use Rattle.mp_files.specs.Seen.{SinkSeen}

-- a start of the piece was appended to the bytes that a writer held, and that rest of it is left
pub record Leads (held holds : Option (List ℕ)) (rest piece : List ℕ) : Type 0 where
  pub taken : List ℕ
  pub split : piece ≡ taken ++ rest
  pub grown : Appends held holds taken

-- a start of the piece was appended, where the bytes are known
abbrev pub AppendsStart : Option (List ℕ) → Option (List ℕ) → List ℕ → Type 0
AppendsStart held holds piece = (rest : List ℕ) × Leads held holds rest piece

-- the bytes are the first of what a reader had, or all of it
abbrev pub IsStartOf : Option (List ℕ) → List ℕ → Type 0
IsStartOf remaining bytes = IfSome remaining (λ all. bytes ≡ take MOST_FETCHED all)

-- no more bytes than are ever fetched
abbrev pub IsBounded : Fetched → Type 0
IsBounded (fetched.Got bytes) = length bytes ≤ MOST_FETCHED
IsBounded other = Unit {0}

-- what is fetched from a reader: what it has from its start on, and never that there is none
abbrev pub GivesStart : Option (List ℕ) → Fetched → Type 0
GivesStart remaining (fetched.Got bytes) = IsStartOf remaining bytes
GivesStart remaining fetched.Absent = ⊥
GivesStart remaining other = Unit {0}

-- what is fetched where a file cannot be opened: it is absent exactly where the system finds none
abbrev pub fetched_of : ErrorKind → Fetched
fetched_of NotFound = fetched.Absent
fetched_of OutOfMemory = fetched.NoMemory
fetched_of _ = fetched.Failed

-- a file could be made, and holds these bytes more, where its bytes are known
abbrev pub HoldsMore : {W E : Type 0} → (W → Option (List ℕ)) → Result W E → Result W E → List ℕ → Type 0
HoldsMore contents (Ok before) (Ok now) bytes = Appends (contents before) (contents now) bytes
HoldsMore contents before now bytes = ⊥

-- a sink over a writer: the count of faults, and the bytes that the writer holds where they are known
pub record WriterState : Type 0 where
  pub faults : ℕ
  pub holds : Option (List ℕ)

-- it tells nothing
abbrev pub writer_seen : WriterState → SinkSeen
writer_seen s = record { faults = s.faults; bytes = None }
