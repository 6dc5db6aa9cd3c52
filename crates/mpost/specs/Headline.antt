-- The headline: what comes of every command line, by the meaning of the sources that were read.
use Rattle.std.specs.Prelude.{ℕ, zero, suc, ◌≡◌, ◌≢◌, ◌≤◌, ◌<◌, ◌⊎◌, List, [], ◌++◌, Option, Some, None, slice_get, codes, decimal, map, min, length}
use Rattle.mp_files.specs.declared.outside.Kept.{Kept}
use Rattle.mp_files.specs.declared.outside.Written.{Written}
use Rattle.mp_files.specs.declared.outside.Written.TheVariants as written
use Rattle.mp_files.specs.Counts.{Rose}
use Rattle.mp_files.specs.Outside.{Asked, Gained, WriteGives}
use Rattle.mp_files.specs.Seen.{FilesSeen, ShelfSeen, SinkSeen}
use Rattle.mp_report.specs.Line.{error_line}
use Rattle.mpost.specs.CommandWords.{CommandLine, Words, RefusedAt, Accepted}
use Rattle.mpost.specs.Delivery.{Outlets, DeliverGives}
use Rattle.mp_eval.specs.Gives.{run_end_of, ReadCause, NamesAsked}
use Rattle.mp_eval.specs.Run.{Course, Ending, run_of}
use Rattle.mpost.specs.declared.deliver.Delivered.{Delivered}
use Rattle.mpost.specs.declared.deliver.Delivered.TheVariants as delivered
use Rattle.mp_eval.specs.declared.outcome.RunEnd.{RunEnd}
use Rattle.mp_eval.specs.declared.outcome.RunEnd.TheVariants as runs
use Rattle.mpost.specs.declared.top.End.{End}
use Rattle.mpost.specs.declared.top.End.TheVariants.{Done, Source, OutOfSteps, Usage, ReadFault, WriteFault, NoMemory}
use Rattle.mpost.specs.declared.top.Report.{Report}

-- what the call was handed: the files, the shelf and the sink
pub record Outside : Type 0 where
  pub files : FilesSeen
  pub shelf : ShelfSeen
  pub out : SinkSeen

abbrev pub outlets : Outside → Outlets
outlets o = record { shelf = o.shelf; out = o.out }

-- an end of a run as the report has it
abbrev pub reported : RunEnd → End
reported runs.Done = Done
reported (runs.Source error place) = Source error place
reported runs.OutOfSteps = OutOfSteps
reported runs.ReadFault = ReadFault
reported runs.NoMemory = NoMemory

-- the run's own end
abbrev pub own_end : Ending → End
own_end ending = reported (run_end_of ending)

-- the name of a source by its number, which counts from 1; 0 is none, and is shown as the program's name
abbrev pub name_of_kept : Option Kept → List ℕ
name_of_kept (Some kept) = kept.name
name_of_kept None = codes "mpost"

abbrev pub name_of_source : List Kept → ℕ → List ℕ
name_of_source sources zero = codes "mpost"
name_of_source sources (suc before) = name_of_kept (slice_get sources before)

-- the line of an end, over these sources
abbrev pub line_of : List Kept → End → List ℕ
line_of sources Done = []
line_of sources (Source error place) = error_line error (name_of_source sources place.file) place.line
line_of sources OutOfSteps = codes "mpost: out of steps\n"
line_of sources (Usage word) = codes "mpost: usage: word " ++ decimal word ++ codes "\n"
line_of sources ReadFault = codes "mpost: read fault\n"
line_of sources WriteFault = codes "mpost: write fault\n"
line_of sources NoMemory = codes "mpost: out of memory\n"

-- the status that goes with an end
abbrev pub status_of : End → ℕ
status_of Done = 0
status_of (Source error place) = 1
status_of (Usage word) = 2
status_of OutOfSteps = 3
status_of ReadFault = 4
status_of WriteFault = 5
status_of NoMemory = 6

-- this end, or WriteFault where the writing broke off
abbrev pub end_after : Delivered → End → End
end_after delivered.All end = end
end_after at end = WriteFault

-- the same where one line is all that is written
abbrev pub end_said : Written → End → End
end_said written.Written end = end
end_said written.Failed end = WriteFault

-- the report and what was asked for go by the course
pub record FollowsCourse (course : Course) (line : CommandLine) (report : Report) (before now : FilesSeen) : Type 0 where
  pub names : NamesAsked course.ending (map (λ k. k.name) report.sources) course.asked
  pub main : report.main ≡ min 1 (length report.sources)
  pub steps : report.steps ≡ course.steps
  pub seed : report.seed ≡ line.seed
  pub budget : report.budget ≡ line.budget
  pub asked : Asked before.told now.told course.asked
  pub cause : ReadCause course.ending before.faults now.faults

-- the report keeps nothing but its end
pub record KeepsNothing (report : Report) : Type 0 where
  pub sources : report.sources ≡ []
  pub main : report.main ≡ 0
  pub seed : report.seed ≡ 0
  pub budget : report.budget ≡ 0
  pub steps : report.steps ≡ 0

-- the one line of this end was written, or a part of it, and nothing else
pub record OneLine (named : End) (at : Written) (report : Report) (before now : Outside) : Type 0 where
  pub end : report.end ≡ end_said at named
  pub out : WriteGives before.out now.out (line_of [] named) at
  pub shelf : now.shelf ≡ before.shelf

-- the same of the report and the sink alone
abbrev pub Says : End → Report → SinkSeen → SinkSeen → Type 0
Says named report before now = (at : Written)
    × (report ≡ record { status = status_of (end_said at named); sources = []; main = 0; seed = 0; budget = 0; steps = 0; end = end_said at named })
    × WriteGives before now (line_of [] named) at

-- what the course makes was written, all or up to where it broke off
pub record Ran (course : Course) (line : CommandLine) (at : Delivered) (report : Report) (before now : Outside) : Type 0 where
  pub end : report.end ≡ end_after at (own_end course.ending)
  pub follows : FollowsCourse course line report before.files now.files
  pub written : DeliverGives course.lines course.figures (line_of report.sources (own_end course.ending)) (outlets before) (outlets now) at

-- the course of the sources that the report keeps; nothing is loaded before the main file
abbrev pub course_of : CommandLine → Report → Course
course_of line report = run_of report.sources [] line.name line.budget

-- what comes of a run, by the course of the sources that it read
pub data ComesOfRun (line : CommandLine) (report : Report) (before now : Outside) : Type 0 where
  -- the run goes by its course
  ran : (at : Delivered) → Ran (course_of line report) line at report before now → ComesOfRun line report before now
  -- memory ran out
  starved : (at : Written) → before.files.faults ≤ now.files.faults → KeepsNothing report → OneLine NoMemory at report before now → ComesOfRun line report before now

-- a refused command line: nothing is read, and one line is written
abbrev pub ComesOfUsage : ℕ → Report → Outside → Outside → Type 0
ComesOfUsage word report before now =
    (now.files ≡ before.files) × KeepsNothing report × ((at : Written) × OneLine (Usage word) at report before now)

-- the headline: by the words, and by the meaning of the sources that were read
abbrev pub ComesOf : Words → Report → Outside → Outside → Type 0
ComesOf (RefusedAt word) report before now = ComesOfUsage word report before now
ComesOf (Accepted line) report before now = ComesOfRun line report before now

-- none of the counts rose
pub record NoneRose (before now : Outside) : Type 0 where
  pub files : Rose before.files.faults now.files.faults → ⊥
  pub shelf : Rose before.shelf.faults now.shelf.faults → ⊥
  pub out : Rose before.out.faults now.out.faults → ⊥

-- want of memory, or an end that nothing outside has caused
abbrev pub IsOwn : End → End → Type 0
IsOwn own NoMemory = Unit {0}
IsOwn own ReadFault = ⊥
IsOwn own WriteFault = ⊥
IsOwn own end = end ≡ own

abbrev pub IsOwnEnd : Words → Report → Type 0
IsOwnEnd (RefusedAt word) report = report.end ≡ Usage word
IsOwnEnd (Accepted line) report = IsOwn (own_end (course_of line report).ending) report.end

-- one of the two counts of writes is greater than before
abbrev pub WritesCounted : Outside → Outside → Type 0
WritesCounted before now = (before.shelf.faults < now.shelf.faults) ⊎ (before.out.faults < now.out.faults)

-- an end where reading failed: that one, or where writing failed besides, or memory ran out
abbrev pub IsReadFault : End → Type 0
IsReadFault ReadFault = Unit {0}
IsReadFault WriteFault = Unit {0}
IsReadFault NoMemory = Unit {0}
IsReadFault end = ⊥

-- where no count rose and memory was found, the sink gained the lines of the course and the line of its end
abbrev pub AllIsWritten : Type 0
AllIsWritten = (line : CommandLine) (report : Report) (before now : Outside) → ComesOfRun line report before now → NoneRose before now → report.end ≢ NoMemory
    → Gained before.out.bytes now.out.bytes ((course_of line report).lines ++ line_of report.sources (own_end (course_of line report).ending))
