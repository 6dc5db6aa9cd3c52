-- What the functions of a run answer, by what a text comes to.
use Rattle.std.specs.Prelude.{ℕ, ◌≡◌, List, [], ◌∷◌, ◌++◌}
use Rattle.mp_files.specs.declared.outside.Contents.{Contents}
use Rattle.mp_files.specs.declared.outside.Kept.{Kept}
use Rattle.mp_report.specs.declared.error.SourceError.TheVariants as error
use Rattle.mp_tokens.specs.Items as tokens
use Rattle.mp_values.specs.Items.{file_items}
use Rattle.mp_values.specs.Outcome.{Unread}
use Rattle.mp_values.specs.declared.turn.Pending.{Pending}
use Rattle.mp_acts.specs.State.{State}
use Rattle.mp_acts.specs.Tokens.{with_file}
use Rattle.mp_input.specs.Lines.{items_pending}
use Rattle.mp_acts.specs.Start.{first_state}
use Rattle.mp_rules.specs.Machine.{Machine, Outcome}
use Rattle.mp_rules.specs.Starts.{start_on}
use Rattle.mp_eval.specs.declared.outcome.Run.{Run}
use Rattle.mp_eval.specs.declared.outcome.RunEnd.{RunEnd}
use Rattle.mp_eval.specs.declared.outcome.RunEnd.TheVariants as ends
use Rattle.mp_eval.specs.Job.{job_of}
use Rattle.mp_eval.specs.Run.{Ending, Stopped, course_of, no_place, unread, put_file, put_prelude}
use Rattle.mp_eval.specs.Gives.{run_end_of, IsSpent}

-- no source was asked for that is not there to read
abbrev pub IsRead : Ending → Type 0
IsRead (Stopped (Unread name) place) = ⊥
IsRead ending = Unit {0}

-- before the text of the main file of that name, which was asked for
abbrev pub asked_on : List Kept → List ℕ → ℕ → Machine
asked_on sources name budget = start_on sources (unread budget) (first_state (job_of name))

-- at the start of its text, behind a prelude
abbrev pub begun_on : List Kept → List ℕ → List ℕ → List ℕ → ℕ → Machine
begun_on sources prelude name bytes budget = put_prelude prelude (put_file 1 bytes (asked_on sources name budget))

-- a run goes by an outcome of rules that began with these sources
pub record RanAs (run : Run) (outcome : Outcome (Unit {0})) (start : Machine) : Type 0 where
  pub lines : run.lines ≡ (course_of outcome).lines
  pub figures : run.figures ≡ []
  pub steps : run.steps ≡ (course_of outcome).steps
  pub unknowns : run.unknowns ≡ (course_of outcome).unknowns
  pub equations : run.equations ≡ (course_of outcome).equations
  pub end : run.end ≡ run_end_of (course_of outcome).ending
  pub sources : run.sources ≡ start.sources
  pub asked : (course_of outcome).asked ≡ start.asked
  pub read : IsRead (course_of outcome).ending
  pub spent : IsSpent run.end run.steps start.expander.budget

-- the state and the text after a file was put in front
abbrev pub IsPut : ℕ → List ℕ → State → List Pending → State → List Pending → Type 0
IsPut number bytes acts text acts_now text_now =
    (acts_now ≡ with_file acts bytes) × (text_now ≡ items_pending (file_items number (tokens.tokens_in acts_now.symbols.names (tokens.file_items bytes))) ++ text)

-- the same of a prelude
abbrev pub IsPreluded : List ℕ → State → List Pending → State → List Pending → Type 0
IsPreluded [] acts text acts_now text_now = (acts_now ≡ acts) × (text_now ≡ text)
IsPreluded (byte ∷ bytes) acts text acts_now text_now = IsPut 0 (byte ∷ bytes) acts text acts_now text_now

-- one source
abbrev pub only : List ℕ → Contents → List Kept
only name contents = record { name = name; contents = contents } ∷ []

-- a run that ended before its first step
abbrev pub unbegun_run : List Kept → RunEnd → Run
unbegun_run sources end = record { lines = []; figures = []; sources = sources; steps = 0; unknowns = 0; equations = 0; end = end }

abbrev pub no_such_file : List ℕ → RunEnd
no_such_file name = ends.Source (error.NoSuchFile name) no_place
