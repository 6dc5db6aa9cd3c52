-- What a fetch, a put and a write leave, whatever object they are made on.
use Rattle.std.specs.Prelude.{ℕ, ◌≡◌, List, [], ◌∷◌, ◌++◌, ◌≤◌, length, Option, take, MatchOption}
use Rattle.std.specs.Option.{option_map}
use Rattle.mp_files.specs.declared.outside.Contents.{Contents}
use Rattle.mp_files.specs.declared.outside.Contents.TheVariants.{Absent, Here}
use Rattle.mp_files.specs.declared.outside.Fetched.{Fetched}
use Rattle.mp_files.specs.declared.outside.Fetched.TheVariants as fetched
use Rattle.mp_files.specs.declared.outside.Stored.{Stored}
use Rattle.mp_files.specs.declared.outside.Stored.TheVariants as stored
use Rattle.mp_files.specs.declared.outside.Written.{Written}
use Rattle.mp_files.specs.declared.outside.Written.TheVariants as written
use Rattle.mp_files.specs.declared.outside.TheConstants.{MOST_FETCHED}
use Rattle.mp_files.specs.Seen.{FilesTold, FilesSeen, ShelfSeen, SinkSeen}
use Rattle.mp_files.specs.Counts.{next_count, Rose}

-- an object that tells its list has gained these at its end; one that does not tell still does not
abbrev pub Gained : {T : Type 0} → Option (List T) → Option (List T) → List T → Type 0
Gained before now more = now ≡ option_map (λ xs. xs ++ more) before

-- the names that were fetched have these more, and no content has changed
pub record Asked (before now : Option FilesTold) (names : List (List ℕ)) : Type 0 where
  pub same : option_map (λ t. t.contents) now ≡ option_map (λ t. t.contents) before
  pub more : Gained (option_map (λ t. t.asked) before) (option_map (λ t. t.asked) now) names

-- at most the first bytes
abbrev pub start_of : Contents → Contents
start_of Absent = Absent
start_of (Here bytes) = Here (take MOST_FETCHED bytes)

-- an answer that gives a content gives this one
abbrev pub Answers : Contents → Fetched → Type 0
Answers content (fetched.Got bytes) = start_of content ≡ Here bytes
Answers content fetched.Absent = content ≡ Absent
Answers content fetched.Failed = Unit {0}
Answers content fetched.NoMemory = Unit {0}

-- the same where the contents are told
abbrev pub AnswersTold : Option FilesTold → List ℕ → Fetched → Type 0
AnswersTold told name answer = MatchOption told (Unit {0}) (λ t. Answers (t.contents name) answer)

-- a count that goes by one where a fetch fails
abbrev pub faults_after : ℕ → Fetched → ℕ
faults_after faults fetched.Failed = next_count faults
faults_after faults answer = faults

-- what a fetch leaves; whether contents are told or not, no more bytes are got than are ever fetched
abbrev pub FetchGives : FilesSeen → FilesSeen → List ℕ → Fetched → Type 0
FetchGives before now name (fetched.Got bytes) = (now.faults ≡ before.faults) × Asked before.told now.told (name ∷ []) × AnswersTold before.told name (fetched.Got bytes) × (length bytes ≤ MOST_FETCHED)
FetchGives before now name fetched.Absent = (now.faults ≡ before.faults) × Asked before.told now.told (name ∷ []) × AnswersTold before.told name fetched.Absent
FetchGives before now name fetched.Failed = Rose before.faults now.faults × Asked before.told now.told (name ∷ [])
FetchGives before now name fetched.NoMemory = (now.faults ≡ before.faults) × Asked before.told now.told []

-- what a put leaves
abbrev pub PutGives : ShelfSeen → ShelfSeen → List ℕ → List ℕ → Stored → Type 0
PutGives before now name bytes stored.Stored = (now.faults ≡ before.faults) × Gained before.pairs now.pairs ((name, bytes) ∷ [])
PutGives before now name bytes stored.Failed = Rose before.faults now.faults × Gained before.pairs now.pairs []

-- what a write leaves: at Failed a prefix was taken
abbrev pub WriteGives : SinkSeen → SinkSeen → List ℕ → Written → Type 0
WriteGives before now piece written.Written = (now.faults ≡ before.faults) × Gained before.bytes now.bytes piece
WriteGives before now piece written.Failed = Rose before.faults now.faults × ((n : ℕ) × Gained before.bytes now.bytes (take n piece))
