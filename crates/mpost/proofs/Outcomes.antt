-- On outcomes: what the parts of the top call did makes the outcome of the whole.
use Rattle.std.proofs.Common.{◌≡◌, ◌≢◌, ◌≤◌, ◌<◌, ◌++◌, arith, ℕ, List, [], sym, ◌∙◌, ap, subst, min, length}
use Rattle.mp_files.specs.declared.outside.Kept.{Kept}
use Rattle.mpost.specs.declared.deliver.Delivered.{Delivered}
use Rattle.mpost.specs.declared.deliver.Delivered.TheVariants as delivered
use Rattle.mp_eval.specs.declared.outcome.Run.{Run}
use Rattle.mp_files.specs.declared.outside.Written.{Written}
use Rattle.mp_files.specs.declared.outside.Written.TheVariants as written
use Rattle.mp_files.specs.Seen.{FilesSeen, SinkSeen}
use Rattle.mpost.specs.declared.top.End.{End}
use Rattle.mpost.specs.declared.top.End.TheVariants.{Usage, ReadFault, NoMemory}
use Rattle.mpost.specs.declared.top.Report.{Report}
use Rattle.mpost.specs.Delivery.{DeliverGives}
use Rattle.mp_eval.specs.Gives.{Follows, ReadCause}
use Rattle.mpost.specs.Headline.{Outside, outlets, reported, own_end, line_of, end_after, end_said, IsReadFault, Says, KeepsNothing, OneLine, NoneRose, AllIsWritten, Ran, ComesOfRun, ComesOfUsage, course_of, ran, starved}
use Rattle.mp_values.specs.Outcome.{Refused, OutOfSteps, Unread}
use Rattle.mp_files.specs.Outside.{Gained}
use Rattle.mp_eval.specs.declared.outcome.Figure.{Figure}
use Rattle.mpost.specs.CommandWords.{CommandLine}
use Rattle.mp_eval.specs.Run.{Course, Ending, Finished, Stopped, run_of}

keeps_nothing : (named : End) (report : Report) (before now : SinkSeen) → Says named report before now → KeepsNothing report
keeps_nothing named report before now says = record {
  sources = ap (λ (r : Report). r.sources) says.1;
  main = ap (λ (r : Report). r.main) says.1;
  seed = ap (λ (r : Report). r.seed) says.1;
  budget = ap (λ (r : Report). r.budget) says.1;
  steps = ap (λ (r : Report). r.steps) says.1;
}

-- memory ran out, and its line was all that was written
pub starved_by : (line : CommandLine) (report : Report) (before now : Outside)
    → before.files.faults ≤ now.files.faults → now.shelf ≡ before.shelf
    → Says NoMemory report before.out now.out → ComesOfRun line report before now
starved_by line report before now later shelf says =
    starved says.0 later (keeps_nothing NoMemory report before.out now.out says) (record { end = ap (λ (r : Report). r.end) says.1; out = says.2; shelf = shelf })

-- a word was refused, and its line was all that was written
pub refused_by : (word : ℕ) (report : Report) (before now : Outside)
    → now.files ≡ before.files → now.shelf ≡ before.shelf
    → Says (Usage word) report before.out now.out → ComesOfUsage word report before now
refused_by word report before now files shelf says =
    (files, keeps_nothing (Usage word) report before.out now.out says, (says.0, record { end = ap (λ (r : Report). r.end) says.1; out = says.2; shelf = shelf }))

-- a report of a run, by what the run and the writing gave
pub record Reports (run : Run) (line : CommandLine) (at : Delivered) (report : Report) : Type 0 where
  pub sources : report.sources ≡ run.sources
  pub main : report.main ≡ min 1 (length report.sources)
  pub steps : report.steps ≡ run.steps
  pub seed : report.seed ≡ line.seed
  pub budget : report.budget ≡ line.budget
  pub end : report.end ≡ end_after at (reported run.end)

-- a run that follows its course, as it was reported and written
ran_as : (course : Course) (line : CommandLine) (run : Run) (at : Delivered) (report : Report) (before now : Outside)
    → Follows run course before.files now.files → Reports run line at report
    → DeliverGives run.lines run.figures (line_of run.sources (reported run.end)) (outlets before) (outlets now) at
    → Ran course line at report before now
ran_as course line run at report before now f r written = record {
  end = r.end ∙ ap (λ e. end_after at (reported e)) f.end;
  follows = record { names = rw r.sources f.names; main = r.main; steps = r.steps ∙ f.steps; seed = r.seed; budget = r.budget; asked = f.asked; cause = f.cause };
  written = rw (r.sources, ← f.lines, ← f.figures, ← f.end) written;
}

pub ran_by : (called : List ℕ) (budget : ℕ) (line : CommandLine) (run : Run) (at : Delivered) (report : Report) (before now : Outside)
    → called ≡ line.name → budget ≡ line.budget → Follows run (run_of run.sources [] called budget) before.files now.files → Reports run line at report
    → DeliverGives run.lines run.figures (line_of run.sources (reported run.end)) (outlets before) (outlets now) at
    → ComesOfRun line report before now
ran_by called budget line run at report before now is allows f r written =
    let P : List Kept → Type 0 = λ s. Ran (run_of s [] line.name line.budget) line at report before now in
    let Q : List ℕ → Type 0 = λ n. Follows run (run_of run.sources [] n budget) before.files now.files in
    let R : ℕ → Type 0 = λ n. Follows run (run_of run.sources [] line.name n) before.files now.files in
    ran at (subst P (sym r.sources) (ran_as (run_of run.sources [] line.name line.budget) line run at report before now (subst R allows (subst Q is f)) r written))

after_unread : (at : Delivered) → IsReadFault (end_after at ReadFault)
after_unread delivered.All = tt
after_unread delivered.LinesFailed = tt
after_unread delivered.PutFailed = tt
after_unread delivered.LineFailed = tt

said_starved : (at : Written) → IsReadFault (end_said at NoMemory)
said_starved written.Written = tt
said_starved written.Failed = tt

unread_alone : (ending : Ending) (at : Delivered) (before now : ℕ) → ReadCause ending before now → before < now → IsReadFault (end_after at (own_end ending))
unread_alone Finished at before now cause more = absurd (omega (arith, cause))
unread_alone (Stopped (Unread name) place) at before now cause more = after_unread at
unread_alone (Stopped (Refused error) place) at before now cause more = absurd (omega (arith, cause))
unread_alone (Stopped OutOfSteps place) at before now cause more = absurd (omega (arith, cause))

-- a count of reads never falls
later_of : (ending : Ending) (before now : ℕ) → ReadCause ending before now → before ≤ now
later_of Finished before now cause = omega (arith, cause)
later_of (Stopped (Unread name) place) before now cause = cause.0
later_of (Stopped (Refused error) place) before now cause = omega (arith, cause)
later_of (Stopped OutOfSteps place) before now cause = omega (arith, cause)

pub later_by : (run : Run) (course : Course) (before now : FilesSeen) → Follows run course before now → before.faults ≤ now.faults
later_by run course before now follows = later_of course.ending before.faults now.faults follows.cause

-- where the count of reads is greater than before, the end says so
pub reads_counted_by : (line : CommandLine) (report : Report) (before now : Outside)
    → ComesOfRun line report before now → before.files.faults < now.files.faults → IsReadFault report.end
reads_counted_by line report before now (ran at r) more =
    let P : End → Type 0 = λ e. IsReadFault e in
    subst P (sym r.end) (unread_alone (course_of line report).ending at before.files.faults now.files.faults r.follows.cause more)
reads_counted_by line report before now (starved at later nothing said) more =
    let P : End → Type 0 = λ e. IsReadFault e in
    subst P (sym said.end) (said_starved at)

-- WHERE NOTHING FAILED

written_all : (lines : List ℕ) (figures : List Figure) (line : List ℕ) (before now : Outside) (at : Delivered) → NoneRose before now
    → DeliverGives lines figures line (outlets before) (outlets now) at → Gained before.out.bytes now.out.bytes (lines ++ line)
written_all lines figures line before now delivered.All none written = written.out
written_all lines figures line before now delivered.LinesFailed none written = absurd (none.out written.counted)
written_all lines figures line before now delivered.PutFailed none written = absurd (none.shelf written.counted)
written_all lines figures line before now delivered.LineFailed none written = absurd (none.out written.counted)

starved_not : (at : Written) (report : Report) (before now : Outside) → NoneRose before now → report.end ≢ NoMemory → OneLine NoMemory at report before now → ⊥
starved_not written.Written report before now none found said = found said.end
starved_not written.Failed report before now none found said = none.out said.out.0

pub all_is_written : AllIsWritten
all_is_written line report before now (ran at r) none found = written_all _ _ _ before now at none r.written
all_is_written line report before now (starved at later nothing said) none found = absurd (starved_not at report before now none found said)
