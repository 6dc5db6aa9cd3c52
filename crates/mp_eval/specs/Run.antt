-- A whole run: what the lines, the steps and the end are, by the sources that were read.
use Rattle.std.specs.Prelude.{ℕ, Bool, true, false, List, [], ◌∷◌, ◌++◌, Ok, Err, length, nat_le, codes}
use Rattle.mp_files.specs.declared.outside.Kept.{Kept}
use Rattle.mp_report.specs.declared.place.Place.{Place}
use Rattle.mp_tokens.specs.Items as tokens
use Rattle.mp_values.specs.Items.{file_items}
use Rattle.mp_values.specs.Outcome.{◌>>=◌, give, halt, change, Cause}
use Rattle.mp_values.specs.Refusals.{not_built}
use Rattle.mp_acts.specs.State.{made_unknowns, accepted_equations}
use Rattle.mp_acts.specs.Start.{first_state}
use Rattle.mp_acts.specs.Tokens.{with_file}
use Rattle.mp_input.specs.Lines.{items_pending}
use Rattle.mp_expand.specs.Expansion.{Expansion}
use Rattle.mp_rules.specs.Machine.{Machine, Outcome, Rule}
use Rattle.mp_rules.specs.Meaning.{the}
use Rattle.mp_rules.specs.Starts.{start_on, whole}
use Rattle.mp_rules.specs.Steps.{place_of}
use Rattle.mp_eval.specs.Files.{bytes_of_file}
use Rattle.mp_eval.specs.Job.{job_of}
use Rattle.mp_eval.specs.declared.outcome.Figure.{Figure}
use Rattle.mp_eval.specs.declared.running.TheConstants.{LONGEST_TEXT}

-- how a run ends: at its end, or by a stop with its place
pub data Ending : Type 0 where
  Finished : Ending
  Stopped : Cause → Place → Ending

-- what a run comes to: its lines and figures, the items that were taken, the unknowns that were made, the equations that
-- were accepted, the names that it asked for, each once, in their order, and its ending
pub record Course : Type 0 where
  pub lines : List ℕ
  pub figures : List Figure
  pub steps : ℕ
  pub unknowns : ℕ
  pub equations : ℕ
  pub asked : List (List ℕ)
  pub ending : Ending

-- the items of a file are put in front of the text, and its names into the table
abbrev pub put_file : ℕ → List ℕ → Machine → Machine
put_file number bytes s =
    let acts = with_file s.acts bytes in
    let items = items_pending (file_items number (tokens.tokens_in acts.symbols.names (tokens.file_items bytes))) in
    record s { expander = record s.expander { text = items ++ s.expander.text }; acts = acts }

-- what is loaded before a source, as file 0; nothing of an empty prelude stands in the text
abbrev pub put_prelude : List ℕ → Machine → Machine
put_prelude [] s = s
put_prelude (byte ∷ bytes) s = put_file 0 (byte ∷ bytes) s

abbrev pub room_by : Bool → Rule (Unit {0})
room_by true = give tt
room_by false = halt (not_built (codes "long"))

-- a longer text is not built
abbrev pub room_for_text : List ℕ → Rule (Unit {0})
room_for_text bytes = room_by (nat_le (length bytes) LONGEST_TEXT)

-- the text of the main file, behind a prelude, read to its end
abbrev pub read_to_end : List ℕ → List ℕ → Rule (Unit {0})
read_to_end prelude bytes = do
  room ← room_for_text bytes
  begun ← change (λ s. put_prelude prelude (put_file 1 bytes s))
  whole the

-- the main file is asked for, and read to its end
abbrev pub main_run : List ℕ → List ℕ → Rule (Unit {0})
main_run prelude name = do
  bytes ← bytes_of_file name
  read_to_end prelude bytes

abbrev pub no_place : Place
no_place = record { file = 0; line = 0 }

-- a text of which nothing is there yet
abbrev pub unread : ℕ → Expansion
unread budget = record { text = []; last = no_place; steps = 0; budget = budget; nesting = 0; requests = []; conditions = [] }

-- before anything is asked for or read
abbrev pub first_machine : List Kept → List ℕ → ℕ → Machine
first_machine sources name budget = record (start_on sources (unread budget) (first_state (job_of name))) { asked = [] }

abbrev pub course_to : Machine → Ending → Course
course_to s ending = record {
  lines = s.acts.lines;
  figures = [];
  steps = s.expander.steps;
  unknowns = made_unknowns s.acts;
  equations = accepted_equations s.acts;
  asked = s.asked;
  ending = ending;
}

abbrev pub course_of : Outcome (Unit {0}) → Course
course_of (Ok x) = course_to x.1 Finished
course_of (Err e) = course_to e.1 (Stopped e.0 (place_of e.1))

-- the run of the main file of that name over these sources, behind a prelude
unfoldable pub run_of : List Kept → List ℕ → List ℕ → ℕ → Course
run_of sources prelude name budget = course_of (main_run prelude name (first_machine sources name budget))
