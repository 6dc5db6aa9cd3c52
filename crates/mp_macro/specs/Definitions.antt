-- Definitions: their items one after the other, and what is defined.
use Rattle.std.specs.Prelude.{◌≡◌, ◌≢◌, Bool, true, false, List, [], ◌∷◌, Result, Ok, Err}
use Rattle.mp_report.specs.declared.error.SourceError.{SourceError}
use Rattle.mp_report.specs.declared.error.SourceError.TheVariants as error
use Rattle.mp_values.specs.Outcome.{Outcome, ◌>>=◌, give, halt, error_of}
use Rattle.mp_values.specs.Refusals.{error_of_token}
use Rattle.mp_values.specs.declared.fault.Fault.{Fault}
use Rattle.mp_values.specs.declared.fault.Fault.TheVariants as fault
use Rattle.mp_values.specs.declared.item.Item.{Item}
use Rattle.mp_values.specs.declared.item.Item.TheVariants as item
use Rattle.mp_values.specs.declared.macros.Level.{Level}
use Rattle.mp_values.specs.declared.macros.Level.TheVariants as level
use Rattle.mp_values.specs.declared.macros.Macro.{Macro}
use Rattle.mp_values.specs.declared.word.Definition.{Definition}
use Rattle.mp_values.specs.declared.word.Definition.TheVariants as definition
use Rattle.mp_macro.specs.Signs.{Table, sign_of}
use Rattle.mp_macro.specs.Headings.{Reading, Step, name, part_by, bracket_by, parameters_by, delimited_kind_in, group_kind_by, group_name, group_rest_by, bare_name, of_by, of_name, equals_by, left_name, operator, right_name, operator_equals_by}
use Rattle.mp_macro.specs.Bodies.{body}
use Rattle.mp_macro.specs.declared.defined.Defined.{Defined}
use Rattle.mp_macro.specs.declared.reader.GroupSymbols.{GroupSymbols}
use Rattle.mp_macro.specs.declared.stage.Stage.{Stage}
use Rattle.mp_macro.specs.declared.stage.Stage.TheVariants.{Name, Part, Bracket, Parameters, GroupKind, GroupName, GroupRest, BareName, Of, OfName, Equals, LeftName, Operator, RightName, OperatorEquals, Body, Nothing}

-- behind `def` and `vardef` stands a name, behind the others an operator's left operand
abbrev pub first_stage : Definition → Stage
first_stage definition.Def = Name
first_stage definition.Vardef = Name
first_stage w = LeftName

-- a definition behind the word that it begins with
abbrev pub start : Definition → GroupSymbols → Reading
start w group = record { word = w; group = group; next = first_stage w; symbol = 0; parts = []; suffixed = false; kinds = []; names = []; body = [] }

abbrev pub is_body : Stage → Bool
is_body (Body depth) = true
is_body stage = false

-- an item where that may stand next
abbrev pub item_at : Table → Stage → Item → Step
item_at table Name x = name table x
item_at table Part x = part_by table x (sign_of table x)
item_at table Bracket x = bracket_by (sign_of table x)
item_at table Parameters x = parameters_by table x (sign_of table x)
item_at table (GroupKind pair) x = group_kind_by table pair x (delimited_kind_in (sign_of table x))
item_at table (GroupName k pair) x = group_name table k pair x
item_at table (GroupRest k pair) x = group_rest_by table k pair x (sign_of table x)
item_at table (BareName k) x = bare_name table k x
item_at table Of x = of_by table x (sign_of table x)
item_at table OfName x = of_name table x
item_at table Equals x = equals_by table x (sign_of table x)
item_at table LeftName x = left_name table x
item_at table Operator x = operator table x
item_at table RightName x = right_name table x
item_at table OperatorEquals x = operator_equals_by table x (sign_of table x)
item_at table (Body depth) x = body table depth x
item_at table Nothing x = give tt

-- one more item. The ends of lines are dropped; the end of a file or of the text, and a token that is none, are refused
-- wherever they stand
unfoldable pub read : Table → Item → Step
read table (item.LineEnd place) r = give tt r
read table item.FileEnd r = halt error.FileEndedInText r
read table item.EndOfText r = halt error.FileEndedInText r
read table (item.Bad cause) r = halt (error_of_token cause) r
read table x r = item_at table r.next x r

-- nothing more may stand
abbrev pub is_nothing : Stage → Bool
is_nothing Nothing = true
is_nothing stage = false

abbrev pub is_whole : Reading → Bool
is_whole r = is_nothing r.next

-- how the macro is called
abbrev pub level_by : Definition → Bool → Level
level_by definition.Def suffixed = level.Plain
level_by definition.Vardef false = level.Variable
level_by definition.Vardef true = level.Suffixed
level_by definition.Primarydef suffixed = level.Primary
level_by definition.Secondarydef suffixed = level.Secondary
level_by definition.Tertiarydef suffixed = level.Tertiary

abbrev pub macro : Reading → Macro
macro r = record { params = r.kinds; body = r.body; level = level_by r.word r.suffixed }

-- what is defined, and the macro that it gets
abbrev pub defined : Reading → Defined
defined r = record { symbol = r.symbol; parts = r.parts; value = macro r }

-- items one after the other
abbrev pub read_items : Table → List Item → Step
read_items table [] = give tt
read_items table (x ∷ xs) = do
  one ← read table x
  read_items table xs

-- items that end before the definition does are refused as the end of the text is
abbrev pub whole_by : Bool → Reading → Result Defined SourceError
whole_by true r = Ok (defined r)
whole_by false r = Err error.FileEndedInText

abbrev pub whole : Outcome Reading (Unit {0}) → Result Defined SourceError
whole (Ok read) = whole_by (is_whole read.1) read.1
whole (Err refused) = Err refused.0

-- the definition that begins with that word and goes on with these items
abbrev pub definition_of : Table → Definition → GroupSymbols → List Item → Result Defined SourceError
definition_of table w group items = whole (read_items table items (start w group))

-- what a function returned is this answer, unless memory ran out
abbrev pub Answers : {A : Type 0} → Result A Fault → Result A SourceError → Type 0
Answers (Ok x) answer = answer ≡ Ok x
Answers (Err made) answer = made ≢ fault.NoMemory → answer ≡ Err (error_of made)
