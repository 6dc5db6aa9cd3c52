-- The meaning of a text: one function, by cases on what is asked.
-- The grammar is that of Hobby, A User's Manual for MetaPost, as far as it is built, and of Knuth, The METAFONTbook,
-- chapters 8, 25 and 26; the refusals are this project's own.
use Rattle.std.specs.Prelude.{ℕ, ◌+◌, ℤ, Bool, true, false, List, [], ◌∷◌, ◌++◌, Option, Some, None, length, nat_lt, map, take, drop, Ok, codes}
use Rattle.mp_report.specs.declared.error.Cap.TheVariants as cap
use Rattle.mp_report.specs.declared.error.SourceError.TheVariants as error
use Rattle.mp_values.specs.Outcome.{◌>>=◌, give, halt, lift, change, Refused}
use Rattle.mp_values.specs.Refusals.{bad_token}
use Rattle.mp_values.specs.Words.{name_of_condition, unary_of}
use Rattle.mp_values.specs.declared.item.Item.{Item}
use Rattle.mp_values.specs.declared.item.Item.TheVariants as item
use Rattle.mp_values.specs.declared.macros.Level.{Level}
use Rattle.mp_values.specs.declared.macros.Level.TheVariants as level
use Rattle.mp_values.specs.declared.macros.Macro.{Macro}
use Rattle.mp_values.specs.declared.meaning.Delimiters.{Delimiters}
use Rattle.mp_values.specs.declared.meaning.Meaning.{Meaning}
use Rattle.mp_values.specs.declared.meaning.Meaning.TheVariants as meaning
use Rattle.mp_values.specs.declared.value.Kind.{Kind}
use Rattle.mp_values.specs.declared.value.Kind.TheVariants as kind
use Rattle.mp_values.specs.declared.value.Value.{Value}
use Rattle.mp_values.specs.declared.value.Value.TheVariants as value
use Rattle.mp_values.specs.declared.word.Command.{Command}
use Rattle.mp_values.specs.declared.word.Command.TheVariants as command
use Rattle.mp_values.specs.declared.word.Condition.{Condition}
use Rattle.mp_values.specs.declared.word.Definition.{Definition}
use Rattle.mp_values.specs.declared.word.Expression.{Expression as ExpressionOperator}
use Rattle.mp_values.specs.declared.word.Nullary.{Nullary}
use Rattle.mp_values.specs.declared.word.Secondary.{Secondary as SecondaryOperator}
use Rattle.mp_values.specs.declared.word.Secondary.TheVariants as operator
use Rattle.mp_values.specs.declared.word.Speech.{Speech}
use Rattle.mp_values.specs.declared.word.SymbolCommand.{SymbolCommand}
use Rattle.mp_values.specs.declared.word.Tertiary.{Tertiary as TertiaryOperator}
use Rattle.mp_values.specs.declared.word.Unary.{Unary as UnaryOperator}
use Rattle.mp_values.specs.declared.word.Word.TheVariants as word
use Rattle.mp_vartree.specs.declared.names.TheConstants.{PART_LIMIT}
use Rattle.mp_vartree.specs.declared.names.Part.{Part}
use Rattle.mp_vartree.specs.declared.names.Part.TheVariants as part
use Rattle.mp_vartree.specs.declared.names.Shape.{Shape}
use Rattle.mp_vartree.specs.declared.names.Shape.TheVariants as shape
use Rattle.mp_macro.specs.Definitions.{start, defined}
use Rattle.mp_acts.specs.State.{symbol_name, symbol_meaning}
use Rattle.mp_acts.specs.Numbers.{known_number, fraction}
use Rattle.mp_acts.specs.Operators as act
use Rattle.mp_acts.specs.Suffixes.{suffix_string, string_token, subscript}
use Rattle.mp_acts.specs.Variables.{root_of, macro_named, read, declare, define}
use Rattle.mp_acts.specs.Definitions.{group_symbols}
use Rattle.mp_acts.specs.Lines.{show, speak}
use Rattle.mp_acts.specs.Groups.{begin_group, end_group, with_each, let_symbol, delimiters, interim}
use Rattle.mp_acts.specs.declared.target.Target.TheVariants as target
use Rattle.mp_expand.specs.Fronts.{secondary_in, tertiary_in, joining_in, operator_in, begins_primary, begins_factor}
use Rattle.mp_expand.specs.Steps.{take_first, enter}
use Rattle.mp_expand.specs.Calls.{are_pair, call}
use Rattle.mp_expand.specs.Advance.{advance, capsule}
use Rattle.mp_expand.specs.declared.step.Answer.{Answer as Given}
use Rattle.mp_expand.specs.declared.step.Answer.TheVariants as answer
use Rattle.mp_expand.specs.declared.step.Operand.{Operand}
use Rattle.mp_expand.specs.declared.step.Operand.TheVariants as operand
use Rattle.mp_expand.specs.declared.step.Step.{Step}
use Rattle.mp_expand.specs.declared.step.Step.TheVariants as step
use Rattle.mp_expand.specs.declared.step.Want.{Want}
use Rattle.mp_expand.specs.declared.step.Want.TheVariants as want
use Rattle.mp_rules.specs.Machine.{Machine, Rule}
use Rattle.mp_rules.specs.Fronts.{taken_as}
use Rattle.mp_rules.specs.Steps.{expanding, leave, see, see_string, see_value, hold, string_in_hand, value_in_hand, put_hand_back, put_bracket_back, answering, acting, internal_number, unexpected, unexpected_raw}
use Rattle.mp_rules.specs.Chains.{settle}
use Rattle.mp_rules.specs.Definitions.{definition_read}
use Rattle.mp_expand.specs.declared.front.Front.{Front}
use Rattle.mp_expand.specs.declared.front.Front.TheVariants as front
use Rattle.mp_expand.specs.declared.front.Equals.{Equals}
use Rattle.mp_expand.specs.declared.front.Equals.TheVariants as equals
use Rattle.mp_rules.specs.declared.front.Taken.{Taken}
use Rattle.mp_rules.specs.declared.front.Taken.TheVariants as taken
use Rattle.mp_rules.specs.declared.front.Raw.{Raw}
use Rattle.mp_rules.specs.declared.front.Raw.TheVariants as raw
use Rattle.mp_rules.specs.declared.chain_side.ChainSide.{ChainSide as Side}
use Rattle.mp_rules.specs.declared.chain_side.ChainSide.TheVariants as side
use Rattle.mp_rules.specs.declared.named.Named.{Named}
use Rattle.mp_rules.specs.declared.named.Named.TheVariants as named

-- what is asked; a rule begins with the front in hand, or with the one behind it
pub data What : Type 0 where
  NextFront : What
  NextRaw : What
  Asked : Want → What
  NumberThen : ℤ → What
  Factor : Value → What
  VariableName : ℕ → What
  NameFrom : ℕ → ℕ → List Part → What
  Suffix : List Part → What
  SuffixBehind : ℕ → List Part → What
  Group : What
  PrimaryInside : What
  Primary : What
  LeadingInside : What
  Leading : What
  SecondaryRest : Value → What
  Secondary : What
  TertiaryRest : Value → What
  Tertiary : What
  ExpressionRest : Value → Equals → What
  ExpressionFrom : Value → Equals → What
  Expression : What
  ChainSide : What
  ChainRest : List Side → Side → What
  Chain : What
  ShowList : What
  SymbolList : SymbolCommand → What
  DeclaredName : List Shape → What
  TypeList : Kind → What
  CommandRest : Command → What
  Statement : What
  GroupStatements : What
  Statements : What

-- the shapes of answers
pub data AnswerShape : Type 0 where
  Nothing : AnswerShape
  OneRaw : AnswerShape
  OneValue : AnswerShape
  OneSide : AnswerShape
  OneName : AnswerShape
  Parts : AnswerShape
  Shapes : AnswerShape

abbrev pub Answer : AnswerShape → Type 0
Answer Nothing = Unit {0}
Answer OneRaw = Raw
Answer OneValue = Value
Answer OneSide = Side
Answer OneName = Named
Answer Parts = List Part
Answer Shapes = List Shape

-- the shape of what is answered; the front behind what was read is in hand then
abbrev pub shape_of : What → AnswerShape
shape_of NextFront = Nothing
shape_of NextRaw = OneRaw
shape_of (Asked w) = Nothing
shape_of (VariableName symbol) = OneName
shape_of (NameFrom symbol root parts) = OneName
shape_of (Suffix parts) = Parts
shape_of (SuffixBehind count parts) = Parts
shape_of LeadingInside = OneSide
shape_of Leading = OneSide
shape_of ChainSide = OneSide
shape_of ShowList = Nothing
shape_of (SymbolList c) = Nothing
shape_of (DeclaredName parts) = Shapes
shape_of (TypeList kind) = Nothing
shape_of (CommandRest c) = Nothing
shape_of Statements = Nothing
shape_of what = OneValue

abbrev pub AnswerTo : What → Type 0
AnswerTo what = Answer (shape_of what)

abbrev pub Rules : Type 0
Rules = (what : What) → Rule (AnswerTo what)

-- FRONTS AND RAW ITEMS

-- what comes of one more item: a front comes to hand, or more is to be taken. Where a call asks for an operand, it is
-- answered first
abbrev pub step_by : Rules → Step → Rule (Unit {0})
step_by rule step.More = rule NextFront
step_by rule (step.Front x) = change (see x)
step_by rule (step.Text bytes) = change (see_string bytes)
step_by rule (step.Capsule v) = change (see_value v)
step_by rule (step.Want w) = do
  served ← rule (Asked w)
  rule NextFront

abbrev pub advancing : Rule Step
advancing s = expanding (advance s.acts.symbols.names) s

abbrev pub taken_front : Rules → Rule (Unit {0})
taken_front rule = do
  x ← advancing
  step_by rule x

abbrev pub held_or_taken : Rules → Option Front → Rule (Unit {0})
held_or_taken rule (Some x) s = Ok (tt, record s { front = x; held = None })
held_or_taken rule None s = taken_front rule s

abbrev pub next_front : Rules → Rule (Unit {0})
next_front rule s = held_or_taken rule s.held s

-- a part of a name as an item of a text
abbrev pub item_of_part : Part → Item
item_of_part (part.Sym symbol) = item.Symbol symbol
item_of_part (part.Sub units) = item.Number units

-- what is read for a call: a value stands for itself, a suffix for its parts
abbrev pub value_answer : Rule Value → Rule Given
value_answer does = do
  v ← does
  give (answer.Value v)

-- the operand of a condition is a truth
abbrev pub truth_of : Condition → Value → Rule Given
truth_of w v = do
  truth ← acting (act.truth (name_of_condition w) v)
  give (answer.Truth truth)

abbrev pub truth_answer : Rules → Condition → Rule Given
truth_answer rule w = do
  v ← rule Expression
  truth_of w v

abbrev pub operand_of : Rules → Operand → Rule Given
operand_of rule operand.Primary = value_answer (rule Primary)
operand_of rule operand.Secondary = value_answer (rule Secondary)
operand_of rule operand.Tertiary = value_answer (rule Tertiary)
operand_of rule operand.Expression = value_answer (rule Expression)
operand_of rule operand.Suffix = do
  parts ← rule (Suffix [])
  give (answer.Suffix (map item_of_part parts))
operand_of rule (operand.Condition w) = truth_answer rule w

-- what is answered to it: what stands behind an argument without delimiters is put back before
abbrev pub answer_to : Rules → Want → Rule Given
answer_to rule (want.Followed o) = operand_of rule o
answer_to rule (want.Last o) = do
  a ← operand_of rule o
  back ← change put_hand_back
  give a

-- the call goes on with the text, or asks for more
abbrev pub wanted_by : Rules → Step → Rule (Unit {0})
wanted_by rule (step.Want w) = rule (Asked w)
wanted_by rule x = give tt

-- what a call asks for, from the next front on, and what it asks for then
abbrev pub asked : Rules → Want → Rule (Unit {0})
asked rule w = do
  first ← rule NextFront
  a ← answer_to rule w
  x ← answering a
  wanted_by rule x

-- the next item as it stands
abbrev pub raw_of : Rules → Taken → Rule Raw
raw_of rule (taken.Raw x) = give x
raw_of rule (taken.Bad cause) = halt (bad_token cause)
raw_of rule taken.Passed = rule NextRaw

abbrev pub next_raw : Rules → Rule Raw
next_raw rule = do
  used ← change (see front.EndOfText)
  x ← expanding take_first
  raw_of rule (taken_as x)

abbrev pub symbol_in : Raw → Rule ℕ
symbol_in (raw.Symbol symbol) = give symbol
symbol_in x = unexpected_raw (codes "symbol") x

abbrev pub raw_symbol : Rules → Rule ℕ
raw_symbol rule = do
  x ← rule NextRaw
  symbol_in x

-- PRIMARIES

-- the front that is got next, and the primary or the expression that it begins
abbrev pub next_primary : Rules → Rule Value
next_primary rule = do
  first ← rule NextFront
  rule Primary

abbrev pub next_expression : Rules → Rule Value
next_expression rule = do
  first ← rule NextFront
  rule Expression

-- a value that the primary in hand multiplies, where that is no number and has no sign
abbrev pub factor_by : Rules → Value → Bool → Rule Value
factor_by rule v true = do
  right ← rule Primary
  acting (act.secondary operator.Times v right)
factor_by rule v false = give v

abbrev pub factor : Rules → Value → Rule Value
factor rule v s = factor_by rule v (begins_factor s.front) s

-- NUMBER / NUMBER, or a number with a slash behind it, whose next front is held
abbrev pub over_by : Rules → ℤ → ℕ → Front → Rule Value
over_by rule n slash (front.Number d) = do
  next ← rule NextFront
  v ← acting (lift (fraction n d))
  rule (Factor v)
over_by rule n slash x = do
  held ← change (hold slash)
  give (known_number n)

abbrev pub number_over : Rules → ℤ → ℕ → Rule Value
number_over rule n slash s = over_by rule n slash s.front s

-- what is behind a number
abbrev pub then_by : Rules → ℤ → Front → Rule Value
then_by rule n (front.Word symbol (word.Secondary operator.Over)) = do
  next ← rule NextFront
  number_over rule n symbol
then_by rule n x = rule (Factor (known_number n))

abbrev pub number_then : Rules → ℤ → Rule Value
number_then rule n s = then_by rule n s.front s

abbrev pub number : Rules → ℤ → Rule Value
number rule n = do
  next ← rule NextFront
  rule (NumberThen n)

-- a name may have so many parts behind its tag
abbrev pub room_by : Bool → Rule (Unit {0})
room_by true = give tt
room_by false = halt (Refused (error.Limit cap.Suffix PART_LIMIT))

-- one more part, behind so many
abbrev pub room_for_part : ℕ → Rule (Unit {0})
room_for_part count = room_by (nat_lt count PART_LIMIT)

-- the parts so far and one more, and what is behind it
abbrev pub part_on : Rules → List Part → Part → Rule (List Part)
part_on rule parts p = do
  room ← room_for_part (length parts)
  next ← rule NextFront
  rule (Suffix (parts ++ p ∷ []))

abbrev pub bracket_by : Front → Rule (Unit {0})
bracket_by (front.Word symbol word.RightBracket) = give tt
bracket_by x = unexpected (codes "]")

abbrev pub bracket_end : Rule (Unit {0})
bracket_end s = bracket_by s.front s

-- the units of a subscript in brackets, behind the left one
abbrev pub bracketed : Rules → Rule ℤ
bracketed rule = do
  v ← next_expression rule
  closed ← bracket_end
  acting (subscript v)

-- a part of a name was read, and its front is used up
abbrev pub part_used : Part → Rule (Option Part)
part_used p = do
  used ← change (see front.EndOfText)
  give (Some p)

-- a part of a name: a symbol that is a tag or an internal, a number, or a subscript in brackets
abbrev pub part_by : Rules → Front → Rule (Option Part)
part_by rule (front.Tag symbol) = part_used (part.Sym symbol)
part_by rule (front.Internal symbol k) = part_used (part.Sym symbol)
part_by rule (front.Number n) = part_used (part.Sub n)
part_by rule (front.Word symbol word.LeftBracket) = do
  value ← bracketed rule
  part_used (part.Sub value)
part_by rule x = give None

abbrev pub part_here : Rules → Rule (Option Part)
part_here rule s = part_by rule s.front s

-- parts up to a front that is none
abbrev pub suffix_by : Rules → List Part → Option Part → Rule (List Part)
suffix_by rule parts None = give parts
suffix_by rule parts (Some p) = part_on rule parts p

abbrev pub suffix : Rules → List Part → Rule (List Part)
suffix rule parts = do
  p ← part_here rule
  suffix_by rule parts p

-- THE CALL OF A VARIABLE'S MACRO

-- an expression in brackets as a part of a name
abbrev pub subscript_part : Value → Rule (Option Part)
subscript_part v = do
  closed ← bracket_end
  units ← acting (subscript v)
  part_used (part.Sub units)

-- where a comma is behind it, the bracket is no part of the suffix
abbrev pub bracket_behind_by : ℕ → Value → Front → Rule (Option Part)
bracket_behind_by bracket v (front.Word symbol word.Comma) = do
  back ← change (put_bracket_back bracket v)
  give None
bracket_behind_by bracket v x = subscript_part v

abbrev pub bracket_behind : ℕ → Value → Rule (Option Part)
bracket_behind bracket v s = bracket_behind_by bracket v s.front s

-- a part of the suffix that stands behind the name of a macro; what stands behind that suffix is put back
abbrev pub part_behind_by : Rules → Front → Rule (Option Part)
part_behind_by rule (front.Tag symbol) = part_used (part.Sym symbol)
part_behind_by rule (front.Internal symbol k) = part_used (part.Sym symbol)
part_behind_by rule (front.Number n) = part_used (part.Sub n)
part_behind_by rule (front.Word symbol word.LeftBracket) = do
  v ← next_expression rule
  bracket_behind symbol v
part_behind_by rule x = do
  back ← change put_hand_back
  give None

abbrev pub part_behind : Rules → Rule (Option Part)
part_behind rule s = part_behind_by rule s.front s

-- the parts so far and one more, and what is behind it; the name before it counts too
abbrev pub behind_on : Rules → ℕ → List Part → Option Part → Rule (List Part)
behind_on rule count parts None = give parts
behind_on rule count parts (Some p) = do
  room ← room_for_part (count + length parts)
  next ← rule NextFront
  rule (SuffixBehind count (parts ++ p ∷ []))

-- the suffix that stands behind a name of so many parts
abbrev pub suffix_behind : Rules → ℕ → List Part → Rule (List Part)
suffix_behind rule count parts = do
  p ← part_behind rule
  behind_on rule count parts p

-- #@, @ and @#: what stands before the last part of the name of the macro, that part, and the suffix behind it
abbrev pub name_items : ℕ → List Part → List Item
name_items symbol parts = item.Symbol symbol ∷ map item_of_part parts

abbrev pub called_with : ℕ → List Part → List Part → List (List Item)
called_with symbol parts behind =
    take (length parts) (name_items symbol parts) ∷ drop (length parts) (name_items symbol parts) ∷ map item_of_part behind ∷ []

-- a macro is called, and what it asks for is answered
abbrev pub call_on : Rules → Macro → List (List Item) → Rule (Unit {0})
call_on rule m got = do
  x ← expanding (call m got)
  served ← wanted_by rule x
  rule NextFront

abbrev pub called_named : Rules → ℕ → List Part → List Part → Macro → Rule Named
called_named rule symbol parts behind m = do
  on ← call_on rule m (called_with symbol parts behind)
  give named.Called

-- a name that is that of a macro calls it at once; with @# at its end the rest of the suffix is read first
abbrev pub called_by : Rules → ℕ → List Part → Macro → Level → Rule Named
called_by rule symbol parts m level.Suffixed = do
  next ← rule NextFront
  behind ← rule (SuffixBehind (length parts) [])
  called_named rule symbol parts behind m
called_by rule symbol parts m other = called_named rule symbol parts [] m

-- one more part of a name, unless the name ends here
abbrev pub name_on : Rules → ℕ → ℕ → List Part → Option Part → Rule Named
name_on rule symbol root parts None = give (named.Variable root parts)
name_on rule symbol root parts (Some p) = do
  room ← room_for_part (length parts)
  rule (NameFrom symbol root (parts ++ p ∷ []))

abbrev pub name_from_by : Rules → ℕ → ℕ → List Part → Option Macro → Rule Named
name_from_by rule symbol root parts (Some m) = called_by rule symbol parts m m.level
name_from_by rule symbol root parts None = do
  next ← rule NextFront
  p ← part_here rule
  name_on rule symbol root parts p

-- a variable's name so far, behind its last part
abbrev pub name_from : Rules → ℕ → ℕ → List Part → Rule Named
name_from rule symbol root parts s = name_from_by rule symbol root parts (macro_named s.acts root parts) s

-- the root of a tag and the parts behind it, or a call of the macro that the shortest beginning of the name is that of
abbrev pub variable_name : Rules → ℕ → Rule Named
variable_name rule symbol = do
  root ← acting (root_of symbol)
  rule (NameFrom symbol root [])

-- a variable is read when the front behind its name was got; none where a macro was called in its place
abbrev pub variable_named : ℕ → Named → Rule (Option Value)
variable_named symbol (named.Variable root parts) = do
  v ← acting (read symbol root parts)
  give (Some v)
variable_named symbol named.Called = give None

abbrev pub variable_or_call : Rules → ℕ → Rule (Option Value)
variable_or_call rule symbol = do
  name ← rule (VariableName symbol)
  variable_named symbol name

-- behind a call the primary begins anew
abbrev pub or_begun_anew : Rules → Option Value → Rule Value
or_begun_anew rule (Some v) = give v
or_begun_anew rule None = rule PrimaryInside

abbrev pub variable : Rules → ℕ → Rule Value
variable rule symbol = do
  v ← variable_or_call rule symbol
  or_begun_anew rule v

abbrev pub unclosed : {A : Type 0} → Delimiters → Rule A
unclosed pair s = unexpected (symbol_name s.acts pair.right) s

abbrev pub closed_if : Bool → Delimiters → Rule (Unit {0})
closed_if true pair = give tt
closed_if false pair = unclosed pair

abbrev pub closed_by : Delimiters → Front → Rule (Unit {0})
closed_by pair (front.Right symbol other) = closed_if (are_pair pair other) pair
closed_by pair x = unclosed pair

-- the right one of two delimiters is in hand
abbrev pub closed : Delimiters → Rule (Unit {0})
closed pair s = closed_by pair s.front s

-- ( EXPRESSION )
abbrev pub parenthesis : Rules → Delimiters → Rule Value
parenthesis rule pair = do
  v ← next_expression rule
  end ← closed pair
  next ← rule NextFront
  give v

-- begingroup STATEMENTS EXPRESSION endgroup; the end of the group takes effect before the front behind it is got
abbrev pub group : Rules → Rule Value
group rule = do
  opened ← acting (change begin_group)
  first ← rule NextFront
  v ← rule GroupStatements
  closed ← acting (change end_group)
  next ← rule NextFront
  give v

-- a string is read when the front behind it was got
abbrev pub string_primary : Rules → Rule Value
string_primary rule = do
  bytes ← string_in_hand
  next ← rule NextFront
  acting (string_token bytes)

-- a value that stands for an expression
abbrev pub value_primary : Rules → Rule Value
value_primary rule = do
  v ← value_in_hand
  next ← rule NextFront
  give v

abbrev pub internal : Rules → ℕ → Rule Value
internal rule k = do
  next ← rule NextFront
  internal_number k

-- a word that stands for a value
abbrev pub constant : Rules → Nullary → Rule Value
constant rule w = do
  next ← rule NextFront
  acting (act.nullary w)

-- str SUFFIX
abbrev pub str_primary : Rules → Rule Value
str_primary rule = do
  first ← rule NextFront
  name ← rule (Suffix [])
  acting (suffix_string name)

-- OPERATOR PRIMARY
abbrev pub applied : Rules → UnaryOperator → Rule Value
applied rule op = do
  right ← next_primary rule
  acting (act.unary op right)

abbrev pub applied_by : Rules → Option UnaryOperator → Rule Value
applied_by rule (Some op) = applied rule op
applied_by rule None = unexpected (codes "primary")

abbrev pub primary_by : Rules → Front → Rule Value
primary_by rule (front.Number n) = number rule n
primary_by rule front.Text = string_primary rule
primary_by rule front.Capsule = value_primary rule
primary_by rule (front.Word symbol word.Begingroup) = rule Group
primary_by rule (front.Word symbol word.Str) = str_primary rule
primary_by rule (front.Word symbol (word.Nullary w)) = constant rule w
primary_by rule (front.Word symbol w) = applied_by rule (unary_of w)
primary_by rule (front.Tag symbol) = variable rule symbol
primary_by rule (front.Internal symbol k) = internal rule k
primary_by rule (front.Left symbol pair) = parenthesis rule pair
primary_by rule x = unexpected (codes "primary")

abbrev pub primary_inside : Rules → Rule Value
primary_inside rule s = primary_by rule s.front s

-- a primary; so many may be read inside one another
abbrev pub primary : Rules → Rule Value
primary rule = do
  entered ← expanding enter
  v ← rule PrimaryInside
  risen ← change leave
  give v

-- the first primary of a side of a chain: a variable or an internal with := behind it is a target
abbrev pub variable_side_by : ℕ → ℕ → List Part → Front → Rule Side
variable_side_by symbol root parts (front.Word s word.Assign) = give (side.Target (target.Variable root parts))
variable_side_by symbol root parts x = do
  v ← acting (read symbol root parts)
  give (side.Value v)

abbrev pub variable_side : ℕ → ℕ → List Part → Rule Side
variable_side symbol root parts s = variable_side_by symbol root parts s.front s

abbrev pub internal_side_by : ℕ → Front → Rule Side
internal_side_by k (front.Word s word.Assign) = give (side.Target (target.Internal k))
internal_side_by k x = do
  v ← internal_number k
  give (side.Value v)

abbrev pub internal_side : ℕ → Rule Side
internal_side k s = internal_side_by k s.front s

-- behind a call the side begins anew
abbrev pub leading_named : Rules → ℕ → Named → Rule Side
leading_named rule symbol (named.Variable root parts) = variable_side symbol root parts
leading_named rule symbol named.Called = rule LeadingInside

abbrev pub leading_by : Rules → Front → Rule Side
leading_by rule (front.Tag symbol) = do
  name ← rule (VariableName symbol)
  leading_named rule symbol name
leading_by rule (front.Internal symbol k) = do
  next ← rule NextFront
  internal_side k
leading_by rule x = do
  v ← rule PrimaryInside
  give (side.Value v)

abbrev pub leading_inside : Rules → Rule Side
leading_inside rule s = leading_by rule s.front s

abbrev pub leading : Rules → Rule Side
leading rule = do
  entered ← expanding enter
  p ← rule LeadingInside
  risen ← change leave
  give p

-- SECONDARIES, TERTIARIES, EXPRESSIONS

-- the macro of a user that the front in hand is between operands of a level
abbrev pub operator_here : Level → Machine → Option Macro
operator_here l s = operator_in s.acts.symbols.names l s.front

-- its body, with both operands as values, comes to stand in front of what is behind the right one
abbrev pub joined : Rules → Macro → Value → Value → Rule (Unit {0})
joined rule m left right = do
  back ← change put_hand_back
  call_on rule m (capsule left ∷ capsule right ∷ [])

-- the operators of a level, from the left, behind a value; behind one of a user the level is read again
abbrev pub secondary_by : Rules → Value → Option SecondaryOperator → Option Macro → Rule Value
secondary_by rule v (Some op) m = do
  right ← next_primary rule
  both ← acting (act.secondary op v right)
  rule (SecondaryRest both)
secondary_by rule v None (Some m) = do
  right ← next_primary rule
  on ← joined rule m v right
  first ← rule Primary
  rule (SecondaryRest first)
secondary_by rule v None None = give v

abbrev pub secondary_rest : Rules → Value → Rule Value
secondary_rest rule v s = secondary_by rule v (secondary_in s.front) (operator_here level.Primary s) s

-- primaries joined by operators
abbrev pub secondary : Rules → Rule Value
secondary rule = do
  v ← rule Primary
  rule (SecondaryRest v)

abbrev pub next_secondary : Rules → Rule Value
next_secondary rule = do
  first ← rule NextFront
  rule Secondary

abbrev pub tertiary_by : Rules → Value → Option TertiaryOperator → Option Macro → Rule Value
tertiary_by rule v (Some op) m = do
  right ← next_secondary rule
  both ← acting (act.tertiary op v right)
  rule (TertiaryRest both)
tertiary_by rule v None (Some m) = do
  right ← next_secondary rule
  on ← joined rule m v right
  first ← rule Secondary
  rule (TertiaryRest first)
tertiary_by rule v None None = give v

abbrev pub tertiary_rest : Rules → Value → Rule Value
tertiary_rest rule v s = tertiary_by rule v (tertiary_in s.front) (operator_here level.Secondary s) s

-- secondaries joined by operators
abbrev pub tertiary : Rules → Rule Value
tertiary rule = do
  v ← rule Secondary
  rule (TertiaryRest v)

abbrev pub next_tertiary : Rules → Rule Value
next_tertiary rule = do
  first ← rule NextFront
  rule Tertiary

abbrev pub expression_by : Rules → Equals → Value → Option ExpressionOperator → Option Macro → Rule Value
expression_by rule e v (Some op) m = do
  right ← next_tertiary rule
  both ← acting (act.expression op v right)
  rule (ExpressionRest both e)
expression_by rule e v None (Some m) = do
  right ← next_tertiary rule
  on ← joined rule m v right
  first ← rule Tertiary
  rule (ExpressionRest first e)
expression_by rule e v None None = give v

abbrev pub expression_rest : Rules → Value → Equals → Rule Value
expression_rest rule v e s = expression_by rule e v (joining_in e s.front) (operator_here level.Tertiary s) s

-- the rest of an expression that begins with a primary
abbrev pub expression_from : Rules → Value → Equals → Rule Value
expression_from rule v e = do
  second ← rule (SecondaryRest v)
  third ← rule (TertiaryRest second)
  rule (ExpressionRest third e)

-- an expression, in which = compares
abbrev pub expression : Rules → Rule Value
expression rule = do
  v ← rule Primary
  rule (ExpressionFrom v equals.Compares)

-- EQUATIONS AND ASSIGNMENTS

-- a side of a chain: a target, with its := in hand, or an expression, which = ends
abbrev pub side_from : Rules → Side → Rule Side
side_from rule (side.Target t) = give (side.Target t)
side_from rule (side.Value v) = do
  w ← rule (ExpressionFrom v equals.Ends)
  give (side.Value w)

abbrev pub chain_side : Rules → Rule Side
chain_side rule = do
  begun ← rule Leading
  side_from rule begun

-- one more side, behind the = or := in hand
abbrev pub chain_on : Rules → List Side → Rule Value
chain_on rule before = do
  next ← rule NextFront
  last ← rule ChainSide
  rule (ChainRest before last)

-- of a chain of one side the value is that side's; a longer one has none
abbrev pub lone_or_vacuous : List Side → Value → Value
lone_or_vacuous [] v = v
lone_or_vacuous (x ∷ xs) v = value.Vacuous

-- all sides are read before the first of them takes effect
abbrev pub chain_end : List Side → Value → Rule Value
chain_end before v = do
  done ← acting (settle before v)
  give (lone_or_vacuous before v)

-- a chain whose last side so far is this one; the sides before it are given from the last to the first
abbrev pub chain_by : Rules → List Side → Side → Front → Rule Value
chain_by rule before (side.Target t) x = chain_on rule (side.Target t ∷ before)
chain_by rule before (side.Value v) (front.Word symbol word.Equals) = chain_on rule (side.Value v ∷ before)
chain_by rule before (side.Value v) x = chain_end before v

abbrev pub chain_rest : Rules → List Side → Side → Rule Value
chain_rest rule before last s = chain_by rule before last s.front s

abbrev pub chain : Rules → Rule Value
chain rule = do
  first ← rule ChainSide
  rule (ChainRest [] first)

-- COMMANDS

-- after an expression that was shown: a comma and more, or the end
abbrev pub show_by : Rules → Front → Rule (Unit {0})
show_by rule (front.Word symbol word.Comma) = rule ShowList
show_by rule x = give tt

abbrev pub show_more : Rules → Rule (Unit {0})
show_more rule s = show_by rule s.front s

-- the line of an expression is added when the front behind it was got
abbrev pub show_list : Rules → Rule (Unit {0})
show_list rule = do
  v ← next_expression rule
  shown ← acting (show v)
  show_more rule

-- each symbol of a list takes effect before the front behind it is got
abbrev pub symbols_by : Rules → SymbolCommand → Front → Rule (Unit {0})
symbols_by rule c (front.Word symbol word.Comma) = rule (SymbolList c)
symbols_by rule c x = give tt

abbrev pub symbols_more : Rules → SymbolCommand → Rule (Unit {0})
symbols_more rule c s = symbols_by rule c s.front s

abbrev pub symbol_list : Rules → SymbolCommand → Rule (Unit {0})
symbol_list rule c = do
  symbol ← raw_symbol rule
  done ← acting (change (with_each c symbol))
  next ← rule NextFront
  symbols_more rule c

-- a declared name's parts so far and one more, and what is behind it
abbrev pub shape_on : Rules → List Shape → Shape → Rule (List Shape)
shape_on rule parts p = do
  room ← room_for_part (length parts)
  next ← rule NextFront
  rule (DeclaredName (parts ++ p ∷ []))

abbrev pub empty_by : Front → Rule (Unit {0})
empty_by (front.Word symbol word.RightBracket) = give tt
empty_by x = halt (Refused error.BadDeclaration)

abbrev pub empty_bracket : Rule (Unit {0})
empty_bracket s = empty_by s.front s

-- symbols that are tags or internals, and [] for any subscript
abbrev pub name_by : Rules → List Shape → Front → Rule (List Shape)
name_by rule parts (front.Tag symbol) = shape_on rule parts (shape.Sym symbol)
name_by rule parts (front.Internal symbol k) = shape_on rule parts (shape.Sym symbol)
name_by rule parts (front.Number n) = halt (Refused error.BadDeclaration)
name_by rule parts (front.Word symbol word.LeftBracket) = do
  next ← rule NextFront
  closed ← empty_bracket
  shape_on rule parts shape.Any
name_by rule parts x = give parts

abbrev pub declared_name : Rules → List Shape → Rule (List Shape)
declared_name rule parts s = name_by rule parts s.front s

abbrev pub type_by : Rules → Kind → Front → Rule (Unit {0})
type_by rule kind (front.Word symbol word.Comma) = rule (TypeList kind)
type_by rule kind x = give tt

abbrev pub type_more : Rules → Kind → Rule (Unit {0})
type_more rule kind s = type_by rule kind s.front s

-- each name of a declaration takes effect when the front behind it was got
abbrev pub type_list : Rules → Kind → Rule (Unit {0})
type_list rule kind = do
  symbol ← raw_symbol rule
  next ← rule NextFront
  name ← rule (DeclaredName [])
  declared ← acting (declare symbol name kind)
  type_more rule kind

-- the = or := of let, as a raw item
abbrev pub is_equals : Meaning → Bool
is_equals (meaning.Word word.Equals) = true
is_equals (meaning.Word word.Assign) = true
is_equals m = false

abbrev pub equals_by : Bool → Raw → Rule (Unit {0})
equals_by true x = give tt
equals_by false x = unexpected_raw (codes "=") x

abbrev pub equals_in : Raw → Rule (Unit {0})
equals_in (raw.Symbol symbol) s = equals_by (is_equals (symbol_meaning s.acts symbol)) (raw.Symbol symbol) s
equals_in raw.EndOfText s = unexpected_raw (codes "symbol") raw.EndOfText s
equals_in x s = unexpected_raw (codes "=") x s

abbrev pub raw_equals : Rules → Rule (Unit {0})
raw_equals rule = do
  sign ← rule NextRaw
  equals_in sign

-- let SYMBOL = SYMBOL, which takes effect before the next front is got
abbrev pub let_equal : Rules → Rule (Unit {0})
let_equal rule = do
  symbol ← raw_symbol rule
  equals ← raw_equals rule
  other ← raw_symbol rule
  acting (change (let_symbol symbol other))

-- delimiters SYMBOL SYMBOL, likewise
abbrev pub delimiter_pair : Rules → Rule (Unit {0})
delimiter_pair rule = do
  begin ← raw_symbol rule
  end ← raw_symbol rule
  acting (change (delimiters begin end))

abbrev pub then_next : Rules → Rule (Unit {0}) → Rule (Unit {0})
then_next rule act = do
  done ← act
  rule NextFront

-- interim INTERNAL := EXPRESSION
abbrev pub internal_in : Front → Rule ℕ
internal_in (front.Internal symbol k) = give k
internal_in x = unexpected (codes "symbol")

abbrev pub internal_here : Rule ℕ
internal_here s = internal_in s.front s

abbrev pub assign_in : Front → Rule (Unit {0})
assign_in (front.Word symbol word.Assign) = give tt
assign_in x = unexpected (codes ":=")

abbrev pub assign_here : Rule (Unit {0})
assign_here s = assign_in s.front s

abbrev pub internal_name : Rules → Rule ℕ
internal_name rule = do
  next ← rule NextFront
  internal_here

abbrev pub assign_sign : Rules → Rule (Unit {0})
assign_sign rule = do
  next ← rule NextFront
  assign_here

abbrev pub interim_value : Rules → Rule (Unit {0})
interim_value rule = do
  k ← internal_name rule
  assigned ← assign_sign rule
  v ← next_expression rule
  acting (interim k v)

-- message, errmessage and errhelp STRING
abbrev pub spoken : Rules → Speech → Rule (Unit {0})
spoken rule speech = do
  v ← next_expression rule
  acting (speak speech v)

-- the rest of a statement, with the word that it begins with in hand
abbrev pub command_rest : Rules → Command → Rule (Unit {0})
command_rest rule command.Show = rule ShowList
command_rest rule (command.Symbols c) = rule (SymbolList c)
command_rest rule command.Interim = interim_value rule
command_rest rule command.Let = then_next rule (let_equal rule)
command_rest rule command.Delimiters = then_next rule (delimiter_pair rule)
command_rest rule (command.Speech speech) = spoken rule speech
command_rest rule (command.Mode m) = rule NextFront
command_rest rule (command.Type kind) = rule (TypeList kind)

-- DEFINITIONS

-- a definition, which takes effect before the front behind it is got
abbrev pub definition : Definition → Rule (Unit {0})
definition w = do
  r ← definition_read (start w group_symbols)
  acting (define (defined r))

-- STATEMENTS

abbrev pub chain_if : Rules → Bool → Rule Value
chain_if rule true = rule Chain
chain_if rule false = unexpected (codes "statement")

-- a statement, up to the front that ends it: the value of an expression that stands alone, or none
abbrev pub statement_by : Rules → Front → Rule Value
statement_by rule (front.Word symbol word.Semicolon) = give value.Vacuous
statement_by rule (front.Word symbol word.Endgroup) = give value.Vacuous
statement_by rule (front.Word symbol word.End) = give value.Vacuous
statement_by rule front.EndOfText = give value.Vacuous
statement_by rule (front.Word symbol (word.Command c)) = do
  done ← rule (CommandRest c)
  give value.Vacuous
statement_by rule (front.Word symbol (word.Definition w)) = do
  done ← then_next rule (definition w)
  give value.Vacuous
statement_by rule x = chain_if rule (begins_primary x)

abbrev pub statement : Rules → Rule Value
statement rule s = statement_by rule s.front s

-- an expression that stands alone is a string, with or without a value, or vacuous
abbrev pub may_stand_alone : Value → Rule (Unit {0})
may_stand_alone value.Vacuous = give tt
may_stand_alone (value.Text bytes) = give tt
may_stand_alone (value.Unset kind.Text slot) = give tt
may_stand_alone (value.Unset kind slot) = unexpected (codes "=")
may_stand_alone (value.Numeric p) = unexpected (codes "=")
may_stand_alone (value.Boolean b) = unexpected (codes "=")

-- behind a statement of a group: its end, where the expression that stands alone is the group's value, or more
abbrev pub more_by : Rules → Front → Rule Value
more_by rule (front.Word symbol word.Semicolon) = do
  next ← rule NextFront
  rule GroupStatements
more_by rule (front.Word symbol word.End) = unexpected (codes "endgroup")
more_by rule front.EndOfText = unexpected (codes "endgroup")
more_by rule x = unexpected (codes ";")

abbrev pub group_more : Rules → Rule Value
group_more rule s = more_by rule s.front s

abbrev pub group_by : Rules → Value → Front → Rule Value
group_by rule v (front.Word symbol word.Endgroup) = give v
group_by rule v x = do
  alone ← may_stand_alone v
  group_more rule

abbrev pub group_end : Rules → Value → Rule Value
group_end rule v s = group_by rule v s.front s

abbrev pub group_statements : Rules → Rule Value
group_statements rule = do
  v ← rule Statement
  group_end rule v

-- behind a statement outside groups
abbrev pub end_by : Rules → Front → Rule (Unit {0})
end_by rule (front.Word symbol word.Semicolon) = do
  next ← rule NextFront
  rule Statements
end_by rule (front.Word symbol word.End) = give tt
end_by rule front.EndOfText = give tt
end_by rule (front.Word symbol word.Endgroup) = halt (Refused error.LoneEndgroup)
end_by rule x = unexpected (codes ";")

abbrev pub statement_end : Rules → Rule (Unit {0})
statement_end rule s = end_by rule s.front s

-- statements up to `end` or the end of the text
abbrev pub statements : Rules → Rule (Unit {0})
statements rule = do
  v ← rule Statement
  alone ← may_stand_alone v
  statement_end rule

-- ONE RULE

-- a rule, which speaks of others only through rule
unfoldable pub case : Rules → Rules
case rule NextFront = next_front rule
case rule NextRaw = next_raw rule
case rule (Asked w) = asked rule w
case rule (NumberThen n) = number_then rule n
case rule (Factor v) = factor rule v
case rule (VariableName symbol) = variable_name rule symbol
case rule (NameFrom symbol root parts) = name_from rule symbol root parts
case rule (Suffix parts) = suffix rule parts
case rule (SuffixBehind count parts) = suffix_behind rule count parts
case rule Group = group rule
case rule PrimaryInside = primary_inside rule
case rule Primary = primary rule
case rule LeadingInside = leading_inside rule
case rule Leading = leading rule
case rule (SecondaryRest v) = secondary_rest rule v
case rule Secondary = secondary rule
case rule (TertiaryRest v) = tertiary_rest rule v
case rule Tertiary = tertiary rule
case rule (ExpressionRest v e) = expression_rest rule v e
case rule (ExpressionFrom v e) = expression_from rule v e
case rule Expression = expression rule
case rule ChainSide = chain_side rule
case rule (ChainRest before last) = chain_rest rule before last
case rule Chain = chain rule
case rule ShowList = show_list rule
case rule (SymbolList c) = symbol_list rule c
case rule (DeclaredName parts) = declared_name rule parts
case rule (TypeList kind) = type_list rule kind
case rule (CommandRest c) = command_rest rule c
case rule Statement = statement rule
case rule GroupStatements = group_statements rule
case rule Statements = statements rule
