-- The lines that a run writes.
use Rattle.std.specs.Prelude.{ℕ, ◌+◌, List, ◌++◌, codes, length, nat_le, if◌then◌else◌, Ok, Err}
use Rattle.mp_report.specs.declared.error.Cap.TheVariants as cap
use Rattle.mp_report.specs.declared.error.SourceError.TheVariants as error
use Rattle.mp_values.specs.Outcome.{Rule, ◌>>=◌, give, halt}
use Rattle.mp_values.specs.declared.value.Value.{Value}
use Rattle.mp_values.specs.declared.word.Speech.{Speech}
use Rattle.mp_values.specs.declared.word.Speech.TheVariants as speech
use Rattle.mp_acts.specs.State.{State}
use Rattle.mp_acts.specs.Operators.{text}
use Rattle.mp_acts.specs.Texts.{value_text}
use Rattle.mp_acts.specs.declared.limits.TheConstants.{LINES_LIMIT}

-- a line, with its end; all lines together have a limit
unfoldable pub line : List ℕ → Rule State (Unit {0})
line written s =
    if nat_le (length s.lines + (length written + 1)) LINES_LIMIT
    then Ok (tt, record s { lines = s.lines ++ (written ++ codes "\n") })
    else Err (error.Limit cap.Lines LINES_LIMIT, s)

unfoldable pub show : Value → Rule State (Unit {0})
show v = do
  shown ← value_text v
  line (codes ">> " ++ shown)

unfoldable pub message : Value → Rule State (Unit {0})
message v = do
  bytes ← text (codes "message") v
  line bytes

unfoldable pub errmessage : Value → Rule State (Unit {0})
errmessage v = do
  bytes ← text (codes "errmessage") v
  halt (error.UserError bytes)

-- the help has no effect
unfoldable pub errhelp : Value → Rule State (Unit {0})
errhelp v = do
  bytes ← text (codes "errhelp") v
  give tt

-- a string is said: as a line, as the error that ends the run, or as help
unfoldable pub speak : Speech → Value → Rule State (Unit {0})
speak speech.Message v = message v
speak speech.Errmessage v = errmessage v
speak speech.Errhelp v = errhelp v
