-- Files in memory: what a fetch answers and what it leaves.
use Rattle.std.specs.Prelude.{ℕ, List, [], ◌∷◌, ◌++◌, cond, take, Some}
use Rattle.mp_files.specs.declared.outside.Contents.{Contents}
use Rattle.mp_files.specs.declared.outside.Contents.TheVariants.{Absent, Here}
use Rattle.mp_files.specs.declared.outside.Kept.{Kept}
use Rattle.mp_files.specs.declared.outside.Fetched.{Fetched}
use Rattle.mp_files.specs.declared.outside.Fetched.TheVariants as fetched
use Rattle.mp_files.specs.declared.outside.TheConstants.{MOST_FETCHED}
use Rattle.mp_files.specs.Contents.{contents_in}
use Rattle.mp_files.specs.Counts.{next_count, is_listed}
use Rattle.mp_files.specs.Outside.{faults_after}
use Rattle.mp_files.specs.Seen.{FilesSeen}

-- the contents by name, the names that were fetched, the calls so far, the calls that fail, and the faults
pub record FilesState : Type 0 where
  pub contents : List Kept
  pub asked : List (List ℕ)
  pub calls : ℕ
  pub failing : List ℕ
  pub faults : ℕ

abbrev pub new_files : List Kept → List ℕ → FilesState
new_files contents failing = record { contents = contents; asked = []; calls = 0; failing = failing; faults = 0 }

-- these files tell all that they hold
abbrev pub files_seen : FilesState → FilesSeen
files_seen s = record { faults = s.faults; told = Some (record { asked = s.asked; contents = contents_in s.contents }) }

-- the answer that gives a content
abbrev pub answer_of : Contents → Fetched
answer_of Absent = fetched.Absent
answer_of (Here bytes) = fetched.Got (take MOST_FETCHED bytes)

-- what the next fetch answers, where memory is found for it
abbrev pub fetch_answer : FilesState → List ℕ → Fetched
fetch_answer s name = cond (is_listed s.failing (next_count s.calls)) fetched.Failed (answer_of (contents_in s.contents name))

-- the names that were fetched, after an answer
abbrev pub asked_after : List (List ℕ) → List ℕ → Fetched → List (List ℕ)
asked_after asked name fetched.NoMemory = asked
asked_after asked name answer = asked ++ name ∷ []

-- what the next fetch leaves
abbrev pub after_fetch : FilesState → List ℕ → Fetched → FilesState
after_fetch s name answer = record { contents = s.contents; asked = asked_after s.asked name answer; calls = next_count s.calls; failing = s.failing; faults = faults_after s.faults answer }

-- files that never fail: the contents by name, and the names that were fetched
pub record SureState : Type 0 where
  pub contents : List Kept
  pub asked : List (List ℕ)

-- these files tell all that they hold, and their count stands at 0
abbrev pub sure_seen : SureState → FilesSeen
sure_seen s = record { faults = 0; told = Some (record { asked = s.asked; contents = contents_in s.contents }) }
