-- The items of a definition: they are taken one after the other, as they stand, until it is whole.
-- After Hobby, A User's Manual for MetaPost, section 10, and Knuth, METAFONT: The Program, part 36.
use Rattle.std.specs.Prelude.{Bool, true, false, List, [], ◌∷◌, Option, Some, None, Ok, Err}
use Rattle.mp_report.specs.declared.error.SourceError.TheVariants as error
use Rattle.mp_values.specs.Outcome.{◌>>=◌, give, halt, Refused}
use Rattle.mp_values.specs.Outcome as act
use Rattle.mp_values.specs.declared.item.Item.{Item}
use Rattle.mp_values.specs.declared.turn.Pending.{Pending}
use Rattle.mp_values.specs.declared.turn.Pending.TheVariants as pending
use Rattle.mp_macro.specs.Headings.{Reading}
use Rattle.mp_macro.specs.Definitions.{read, is_whole}
use Rattle.mp_rules.specs.Machine.{Machine, Outcome, Rule}
use Rattle.mp_expand.specs.Steps.{take_first}
use Rattle.mp_rules.specs.Steps.{expanding, see}
use Rattle.mp_expand.specs.declared.front.Front.TheVariants as front

abbrev pub read_in : Machine → act.Outcome Reading (Unit {0}) → Outcome Reading
read_in s (Ok done) = Ok (done.1, s)
read_in s (Err refused) = Err (Refused refused.0, s)

-- one more item of a definition, by what symbols mean now
abbrev pub item_read : Item → Reading → Rule Reading
item_read x r s = read_in s (read s.acts.symbols.names x r)

-- a turn of a loop is passed over
abbrev pub pending_read : Pending → Reading → Rule Reading
pending_read (pending.Item x) r = item_read x r
pending_read (pending.Turn turn) r = give r

-- what was taken; the end of the text ends no definition
abbrev pub taken_read : Reading → Option Pending → Rule Reading
taken_read r None = halt (Refused error.FileEndedInText)
taken_read r (Some x) = pending_read x r

abbrev pub unless_whole : Bool → Reading → Rule Reading → Rule Reading
unless_whole true r more = give r
unless_whole false r more = more

-- the same of all that is taken, of a text of which this much is left
unfoldable pub read_on : List Pending → Reading → Rule Reading
read_on [] r = do
  taken ← expanding take_first
  taken_read r taken
read_on (x ∷ text) r = do
  taken ← expanding take_first
  now ← taken_read r taken
  unless_whole (is_whole now) now (read_on text now)

-- while an item is read as it stands, the front in hand is the end of the text
abbrev pub definition_read : Reading → Rule Reading
definition_read r s = read_on s.expander.text r (see front.EndOfText s)
