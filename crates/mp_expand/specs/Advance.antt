-- Expansion: what comes of the next item, and of an answer.
use Rattle.std.specs.Prelude.{ℕ, Bool, true, false, List, [], ◌∷◌, Option, Some, None, codes}
use Rattle.mp_report.specs.declared.error.SourceError.TheVariants as error
use Rattle.mp_values.specs.Outcome.{◌>>=◌, give, halt, change, Refused}
use Rattle.mp_values.specs.Refusals.{bad_token, not_built, unexpected}
use Rattle.mp_values.specs.declared.item.Item.{Item}
use Rattle.mp_values.specs.declared.item.Item.TheVariants as item
use Rattle.mp_values.specs.declared.macros.Level.{Level}
use Rattle.mp_values.specs.declared.macros.Level.TheVariants as level
use Rattle.mp_values.specs.declared.macros.Macro.{Macro}
use Rattle.mp_values.specs.declared.meaning.Delimiters.{Delimiters}
use Rattle.mp_values.specs.declared.meaning.Meaning.{Meaning}
use Rattle.mp_values.specs.declared.meaning.Meaning.TheVariants as meaning
use Rattle.mp_values.specs.declared.turn.Pending.{Pending}
use Rattle.mp_values.specs.declared.turn.Pending.TheVariants as pending
use Rattle.mp_values.specs.declared.value.Value.{Value}
use Rattle.mp_values.specs.declared.value.Value.TheVariants as value
use Rattle.mp_values.specs.declared.word.Word.{Word}
use Rattle.mp_values.specs.declared.word.Word.TheVariants as word
use Rattle.mp_expand.specs.Expansion.{Rule, NewestAs, reading, opening, asking, with_requests}
use Rattle.mp_expand.specs.Steps.{take_first, leave}
use Rattle.mp_expand.specs.Fronts.{Table, name_of, meaning_of, stood}
use Rattle.mp_expand.specs.Calls.{are_pair, argument_next, with_argument, whole, ask_last, argument, go_on, call}
use Rattle.mp_expand.specs.Texts.{taken_in_text}
use Rattle.mp_expand.specs.Conditions.{branch, else_branch, condition_met, skipped}
use Rattle.mp_expand.specs.declared.front.Front.{Front}
use Rattle.mp_expand.specs.declared.front.Front.TheVariants as front
use Rattle.mp_expand.specs.declared.request.Asker.{Asker}
use Rattle.mp_expand.specs.declared.request.Asker.TheVariants as asker
use Rattle.mp_expand.specs.declared.request.Behind.{Behind}
use Rattle.mp_expand.specs.declared.request.Behind.TheVariants as behind_it
use Rattle.mp_expand.specs.declared.request.Call.{Call}
use Rattle.mp_expand.specs.declared.request.Delimited.{Delimited}
use Rattle.mp_expand.specs.declared.request.Opener.{Opener}
use Rattle.mp_expand.specs.declared.request.Opener.TheVariants as opener
use Rattle.mp_expand.specs.declared.request.Reader.{Reader}
use Rattle.mp_expand.specs.declared.request.Reader.TheVariants as reader
use Rattle.mp_expand.specs.declared.step.Answer.{Answer}
use Rattle.mp_expand.specs.declared.step.Answer.TheVariants as answer
use Rattle.mp_expand.specs.declared.step.Operand.TheVariants as operand
use Rattle.mp_expand.specs.declared.step.Step.{Step}
use Rattle.mp_expand.specs.declared.step.Step.TheVariants as step

-- AN ITEM THAT NOTHING TAKES AS IT STANDS

-- a call that needs a left delimiter is refused any other front
abbrev pub opened : Call → Delimited → Step → Rule Step
opened c k (step.Front (front.Left symbol pair)) = argument c pair k
opened c k x = halt (Refused error.BadArguments)

-- the front that was reached, which is one of these
abbrev pub front_of : Step → Front
front_of (step.Front x) = x
front_of (step.Text bytes) = front.Text
front_of (step.Capsule v) = front.Capsule
front_of x = front.EndOfText

abbrev pub opened_by : Table → Step → Opener → Rule Step
opened_by table x (opener.Argument c k) = opened c k x
opened_by table x opener.Branch = else_branch table (front_of x)

-- a front is what was looked for, unless a call needs a left delimiter, or an `else` its `:`
abbrev pub reached_by : Table → Step → NewestAs Opener → Rule Step
reached_by table x (Some (o, rs)) = do
  off ← change (with_requests rs)
  opened_by table x o
reached_by table x None = give x

abbrev pub reached : Table → Step → Rule Step
reached table x s = reached_by table x (opening s.requests) s

-- the macro of `def` is called; any other joins operands, and is a front
abbrev pub macro_by : Table → ℕ → Macro → Level → Rule Step
macro_by table symbol m level.Plain = call m []
macro_by table symbol m other = reached table (step.Front (front.Operator symbol))

-- a word: `\` is passed over, those of conditions are obeyed
abbrev pub word_expanded : Table → ℕ → Word → Rule Step
word_expanded table symbol word.Backslash = give step.More
word_expanded table symbol (word.Condition w) = condition_met w
word_expanded table symbol w = reached table (step.Front (front.Word symbol w))

-- a symbol by what it means
abbrev pub symbol_expanded : Table → ℕ → Meaning → Rule Step
symbol_expanded table symbol (meaning.Word w) = word_expanded table symbol w
symbol_expanded table symbol (meaning.Unbuilt name) = halt (not_built name)
symbol_expanded table symbol meaning.NewTag = reached table (step.Front (front.Tag symbol))
symbol_expanded table symbol (meaning.Tag root) = reached table (step.Front (front.Tag symbol))
symbol_expanded table symbol (meaning.Internal k) = reached table (step.Front (front.Internal symbol k))
symbol_expanded table symbol (meaning.Left pair) = reached table (step.Front (front.Left symbol pair))
symbol_expanded table symbol (meaning.Right pair) = reached table (step.Front (front.Right symbol pair))
symbol_expanded table symbol (meaning.Macro m) = macro_by table symbol m m.level

-- ends of lines and of files are passed over. (No text has a parameter: each stands in a body that has its argument.)
abbrev pub item_expanded : Table → Item → Rule Step
item_expanded table (item.Symbol symbol) = symbol_expanded table symbol (meaning_of table symbol)
item_expanded table (item.Number n) = reached table (step.Front (front.Number n))
item_expanded table (item.Text bytes) = reached table (step.Text bytes)
item_expanded table (item.Bad cause) = halt (bad_token cause)
item_expanded table (item.Capsule v) = reached table (step.Capsule v)
item_expanded table (item.Param n) = give step.More
item_expanded table (item.LineEnd place) = give step.More
item_expanded table item.FileEnd = give step.More
item_expanded table item.EndOfText = give step.More

abbrev pub expanded : Table → Option Pending → Rule Step
expanded table (Some (pending.Item x)) = item_expanded table x
expanded table (Some (pending.Turn turn)) = give step.More
expanded table None = reached table (step.Front front.EndOfText)

-- THE NEXT ITEM

abbrev pub read_by : Table → Option Pending → Reader → Rule Step
read_by table x (reader.Text c until depth) = taken_in_text table c until depth x
read_by table x (reader.Skip k depth) = skipped table k depth x

abbrev pub taken_by : Table → Option Pending → NewestAs Reader → Rule Step
taken_by table x (Some (r, rs)) = do
  off ← change (with_requests rs)
  read_by table x r
taken_by table x None = expanded table x

abbrev pub taken : Table → Option Pending → Rule Step
taken table x s = taken_by table x (reading s.requests) s

-- one more item is taken: a front, an operand that is needed, or nothing yet
unfoldable pub advance : Table → Rule Step
advance table = do
  x ← take_first
  taken table x

-- AN ANSWER

abbrev pub unexpected_front : {A : Type 0} → Table → List ℕ → Front → Rule A
unexpected_front table wanted x = halt (unexpected wanted (stood table x))

-- a comma behind an argument between delimiters: another one, if one is missing there
abbrev pub comma_by : Call → Delimiters → Option Delimited → Rule Step
comma_by c pair (Some k) = argument c pair k
comma_by c pair None = halt (Refused error.BadArguments)

-- what does not go on there: an argument is missing, or the last one is not closed
abbrev pub unclosed : Table → Delimiters → Front → Option Delimited → Rule Step
unclosed table pair x (Some k) = halt (Refused error.BadArguments)
unclosed table pair x None = unexpected_front table (name_of table pair.right) x

abbrev pub right_by : Bool → Table → Call → Delimiters → Front → Rule Step
right_by true table c pair x = go_on c
right_by false table c pair x = unclosed table pair x (argument_next c)

-- behind an argument between delimiters: a comma and another one, or the right delimiter
abbrev pub delimited : Table → Call → Delimiters → Front → Rule Step
delimited table c pair (front.Word symbol word.Comma) = comma_by c pair (argument_next c)
delimited table c pair (front.Right symbol other) = right_by (are_pair pair other) table c pair (front.Right symbol other)
delimited table c pair x = unclosed table pair x (argument_next c)

-- behind the first of two arguments without delimiters
abbrev pub of_by : Table → Call → Front → Rule Step
of_by table c (front.Word symbol word.Of) = ask_last c operand.Primary
of_by table c x = unexpected_front table (codes "of") x

abbrev pub behind : Table → Call → Behind → Front → Rule Step
behind table c (behind_it.Delimiter pair) x = delimited table c pair x
behind table c behind_it.Of x = of_by table c x
behind table c behind_it.Anything x = whole c

-- a value as a text
abbrev pub capsule : Value → List Item
capsule v = item.Capsule v ∷ []

-- what stands in the text for an answer
abbrev pub items_of : Answer → List Item
items_of (answer.Value v) = capsule v
items_of (answer.Suffix items) = items
items_of (answer.Truth truth) = capsule (value.Boolean truth)

-- whether a condition is true by an answer
abbrev pub is_true : Answer → Bool
is_true (answer.Truth truth) = truth
is_true a = false

-- what asked goes on with the answer, and with the front that stands behind it
abbrev pub answered_to : Table → Answer → Front → Asker → Rule Step
answered_to table a x (asker.Argument c b) = behind table (with_argument (items_of a) c) b x
answered_to table a x asker.Branch = branch table (is_true a) x

-- an answer that nothing waits for does nothing
abbrev pub answered_by : Table → Answer → Front → NewestAs Asker → Rule Step
answered_by table a x (Some (q, rs)) = do
  off ← change (with_requests rs)
  risen ← change leave
  answered_to table a x q
answered_by table a x None = give step.More

-- the newest request gets what it waits for, with the front that stands behind it
unfoldable pub answered : Table → Answer → Front → Rule Step
answered table a x s = answered_by table a x (asking s.requests) s
