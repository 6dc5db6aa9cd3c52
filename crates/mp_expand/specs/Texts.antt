-- Text arguments: their items as they stand, up to the end of the group of delimiters or of the statement.
-- After Knuth, METAFONT: The Program, part 25.
use Rattle.std.specs.Prelude.{ℕ, zero, suc, [], ◌∷◌, ◌++◌, Option, Some, None, if◌then◌else◌}
use Rattle.mp_report.specs.declared.error.SourceError.TheVariants as error
use Rattle.mp_values.specs.Outcome.{◌>>=◌, give, halt, change, Refused}
use Rattle.mp_values.specs.Refusals.{bad_token}
use Rattle.mp_values.specs.declared.item.Item.{Item}
use Rattle.mp_values.specs.declared.item.Item.TheVariants as item
use Rattle.mp_values.specs.declared.meaning.Meaning.{Meaning}
use Rattle.mp_values.specs.declared.meaning.Meaning.TheVariants as meaning
use Rattle.mp_values.specs.declared.turn.Pending.{Pending}
use Rattle.mp_values.specs.declared.turn.Pending.TheVariants as pending
use Rattle.mp_values.specs.declared.word.Word.TheVariants as word
use Rattle.mp_expand.specs.Expansion.{Rule}
use Rattle.mp_expand.specs.Steps.{put_back}
use Rattle.mp_expand.specs.Fronts.{Table, meaning_of}
use Rattle.mp_expand.specs.Calls.{are_pair, with_argument, with_request, whole, go_on}
use Rattle.mp_expand.specs.declared.request.Call.{Call}
use Rattle.mp_expand.specs.declared.request.Need.TheVariants as need
use Rattle.mp_expand.specs.declared.request.Request.TheVariants as request
use Rattle.mp_expand.specs.declared.request.Until.{Until}
use Rattle.mp_expand.specs.declared.request.Until.TheVariants as until
use Rattle.mp_expand.specs.declared.step.Step.{Step}
use Rattle.mp_expand.specs.declared.step.Step.TheVariants as step
use Rattle.mp_expand.specs.declared.texts.Mark.{Mark}
use Rattle.mp_expand.specs.declared.texts.Mark.TheVariants as mark

-- what a symbol is in a text, by what it means: between delimiters these are counted, else groups are
abbrev pub mark_of : Until → Meaning → Mark
mark_of (until.Delimiter pair) (meaning.Left other) = if are_pair pair other then mark.Begins else mark.Stands
mark_of (until.Delimiter pair) (meaning.Right other) = if are_pair pair other then mark.Ends else mark.Stands
mark_of until.Statement (meaning.Word word.Begingroup) = mark.Begins
mark_of until.Statement (meaning.Word word.Endgroup) = mark.Ends
mark_of until.Statement (meaning.Word word.Semicolon) = mark.Separates
mark_of until.Statement (meaning.Word word.End) = mark.Separates
mark_of u m = mark.Stands

-- more is to be read, inside so many pairs
abbrev pub passed_over : Call → Until → ℕ → Rule Step
passed_over c u depth = do
  reads ← change (with_request (request.Call c (need.Text u depth)))
  give step.More

-- one more item
abbrev pub with_item : Call → Until → Item → ℕ → Rule Step
with_item c u x depth = passed_over (record c { text = c.text ++ x ∷ [] }) u depth

-- the body stands in front of an item again
abbrev pub whole_before : Call → Item → Rule Step
whole_before c x = do
  back ← change (put_back x)
  whole c

-- the text ends at a symbol: a right delimiter is used up, and the call goes on; what ends a statement is put back
abbrev pub text_ends : Call → Until → ℕ → Rule Step
text_ends c (until.Delimiter pair) symbol = go_on (with_argument c.text c)
text_ends c until.Statement symbol = whole_before (with_argument c.text c) (item.Symbol symbol)

abbrev pub symbol_in_text : Call → Until → ℕ → ℕ → Mark → Rule Step
symbol_in_text c u depth symbol mark.Begins = with_item c u (item.Symbol symbol) (suc depth)
symbol_in_text c u zero symbol mark.Ends = text_ends c u symbol
symbol_in_text c u (suc depth) symbol mark.Ends = with_item c u (item.Symbol symbol) depth
symbol_in_text c u zero symbol mark.Separates = text_ends c u symbol
symbol_in_text c u (suc depth) symbol mark.Separates = with_item c u (item.Symbol symbol) (suc depth)
symbol_in_text c u depth symbol mark.Stands = with_item c u (item.Symbol symbol) depth

-- an item as it stands. The ends of lines are dropped
abbrev pub item_in_text : Table → Call → Until → ℕ → Item → Rule Step
item_in_text table c u depth (item.LineEnd place) = passed_over c u depth
item_in_text table c u depth item.FileEnd = halt (Refused error.FileEndedInText)
item_in_text table c u depth item.EndOfText = halt (Refused error.FileEndedInText)
item_in_text table c u depth (item.Bad cause) = halt (bad_token cause)
item_in_text table c u depth (item.Symbol symbol) = symbol_in_text c u depth symbol (mark_of u (meaning_of table symbol))
item_in_text table c u depth x = with_item c u x depth

-- what was taken
abbrev pub taken_in_text : Table → Call → Until → ℕ → Option Pending → Rule Step
taken_in_text table c u depth (Some (pending.Item x)) = item_in_text table c u depth x
taken_in_text table c u depth (Some (pending.Turn turn)) = passed_over c u depth
taken_in_text table c u depth None = halt (Refused error.FileEndedInText)
