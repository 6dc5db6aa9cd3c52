-- The headings of definitions: what each item does that may stand next, and which refusal any other item meets.
-- After Hobby, A User's Manual for MetaPost, section 10, and Knuth, METAFONT: The Program, part 36; the refusals are
-- this project's own.
use Rattle.std.specs.Prelude.{ℕ, Bool, true, false, List, [], ◌∷◌, ◌++◌, ◌&&◌, nat_eq, nat_lt, length, Option, Some, None, codes}
use Rattle.mp_report.specs.declared.error.Cap.TheVariants as cap
use Rattle.mp_report.specs.declared.error.SourceError.TheVariants as error
use Rattle.mp_values.specs.Outcome.{Rule, ◌>>=◌, give, halt, change}
use Rattle.mp_values.specs.declared.item.Item.{Item}
use Rattle.mp_values.specs.declared.item.Item.TheVariants as item
use Rattle.mp_values.specs.declared.macros.ParamKind.{ParamKind}
use Rattle.mp_values.specs.declared.macros.ParamKind.TheVariants as kind
use Rattle.mp_values.specs.declared.meaning.Delimiters.{Delimiters}
use Rattle.mp_values.specs.declared.word.CalledName.TheVariants.{Behind}
use Rattle.mp_values.specs.declared.word.Definition.{Definition}
use Rattle.mp_values.specs.declared.word.Definition.TheVariants as definition
use Rattle.mp_values.specs.declared.word.Parameter.{Parameter}
use Rattle.mp_values.specs.declared.word.Parameter.TheVariants as parameter
use Rattle.mp_values.specs.declared.word.Word.TheVariants as word
use Rattle.mp_vartree.specs.declared.names.Shape.{Shape}
use Rattle.mp_vartree.specs.declared.names.Shape.TheVariants as shape
use Rattle.mp_macro.specs.Signs.{Table, name_of, stood}
use Rattle.mp_vartree.specs.declared.names.TheConstants.{PART_LIMIT}
use Rattle.mp_macro.specs.declared.limits.TheConstants.{PARAMETER_LIMIT}
use Rattle.mp_macro.specs.declared.reader.GroupSymbols.{GroupSymbols}
use Rattle.mp_macro.specs.declared.sign.Sign.{Sign}
use Rattle.mp_macro.specs.declared.sign.Sign.TheVariants as sign
use Rattle.mp_macro.specs.declared.stage.Stage.{Stage}
use Rattle.mp_macro.specs.declared.stage.Stage.TheVariants.{Part, Bracket, Parameters, GroupKind, GroupName, GroupRest, BareName, Of, OfName, Equals, Operator, RightName, OperatorEquals, Body}

-- what was read of a definition
pub record Reading : Type 0 where
  -- the word that it begins with
  pub word : Definition
  -- the symbols between which the body of a variable's macro stands
  pub group : GroupSymbols
  -- what may stand next
  pub next : Stage
  -- the symbol that is defined, or the tag of the variable that is
  pub symbol : ℕ
  -- the parts of the variable's name behind its tag, and whether @# stands at its end
  pub parts : List Shape
  pub suffixed : Bool
  -- what the parameters take, and their symbols
  pub kinds : List ParamKind
  pub names : List ℕ
  pub body : List Item

-- what an item does to what was read before it
abbrev pub Step : Type 0
Step = Rule Reading (Unit {0})

-- that may stand next
abbrev pub before : Stage → Step
before stage = change (λ r. record r { next = stage })

abbrev pub unexpected : {A : Type 0} → List ℕ → Table → Item → Rule Reading A
unexpected wanted table x = halt (error.Unexpected wanted (stood table x))

-- any symbol
abbrev pub symbol : Table → Item → Rule Reading ℕ
symbol table (item.Symbol s) = give s
symbol table x = unexpected (codes "symbol") table x

-- = AND :=

-- the body begins; that of a variable's macro is a group
abbrev pub opening : Definition → GroupSymbols → List Item
opening definition.Vardef group = item.Symbol group.begin ∷ []
opening w group = []

abbrev pub begin_body : Step
begin_body = change (λ r. record r { body = r.body ++ opening r.word r.group; next = Body 0 })

abbrev pub equals_by : Table → Item → Sign → Step
equals_by table x (sign.Word word.Equals) = begin_body
equals_by table x (sign.Word word.Assign) = begin_body
equals_by table x other = unexpected (codes "=") table x

-- PARAMETERS

-- a macro has so many parameters at most
abbrev pub room_by : Bool → Step
room_by true = give tt
room_by false = halt (error.Limit cap.Params PARAMETER_LIMIT)

abbrev pub room_for_parameter : Step
room_for_parameter r = room_by (nat_lt (length r.names) PARAMETER_LIMIT) r

-- one more parameter is named
abbrev pub with_name : ℕ → Stage → Step
with_name s stage = do
  room ← room_for_parameter
  change (λ r. record r { names = r.names ++ s ∷ []; next = stage })

abbrev pub with_kind : ParamKind → Step
with_kind k = change (λ r. record r { kinds = r.kinds ++ k ∷ [] })

abbrev pub with_parameter : ParamKind → ℕ → Stage → Step
with_parameter k s stage = do
  named ← with_name s stage
  with_kind k

-- what a parameter between delimiters can take
abbrev pub delimited_kind : Parameter → Option ParamKind
delimited_kind parameter.Expr = Some kind.Expr
delimited_kind parameter.Suffix = Some kind.Suffix
delimited_kind parameter.Text = Some kind.Text
delimited_kind p = None

abbrev pub delimited_kind_in : Sign → Option ParamKind
delimited_kind_in (sign.Word (word.Parameter p)) = delimited_kind p
delimited_kind_in other = None

-- what one without delimiters can take
abbrev pub bare_kind : Parameter → ParamKind
bare_kind parameter.Primary = kind.Primary
bare_kind parameter.Secondary = kind.Secondary
bare_kind parameter.Tertiary = kind.Tertiary
bare_kind parameter.Expr = kind.BareExpr
bare_kind parameter.Suffix = kind.BareSuffix
bare_kind parameter.Text = kind.BareText

-- ( KIND NAME, NAME, .. )
abbrev pub group_kind_by : Table → Delimiters → Item → Option ParamKind → Step
group_kind_by table pair x (Some k) = before (GroupName k pair)
group_kind_by table pair x None = unexpected (codes "symbol") table x

abbrev pub group_name : Table → ParamKind → Delimiters → Item → Step
group_name table k pair x = do
  s ← symbol table x
  with_parameter k s (GroupRest k pair)

abbrev pub are_pair : Delimiters → Delimiters → Bool
are_pair a b = nat_eq a.left b.left && nat_eq a.right b.right

abbrev pub closed_by : Table → Delimiters → Item → Bool → Step
closed_by table pair x true = before Parameters
closed_by table pair x false = unexpected (name_of table pair.right) table x

abbrev pub group_rest_by : Table → ParamKind → Delimiters → Item → Sign → Step
group_rest_by table k pair x (sign.Word word.Comma) = before (GroupName k pair)
group_rest_by table k pair x (sign.Right other) = closed_by table pair x (are_pair pair other)
group_rest_by table k pair x other = unexpected (name_of table pair.right) table x

-- KIND NAME without delimiters, as the last of them; behind an expression also `of NAME`
abbrev pub bare_name_by : ParamKind → ℕ → Step
bare_name_by kind.BareExpr s = with_name s Of
bare_name_by k s = with_parameter k s Equals

abbrev pub bare_name : Table → ParamKind → Item → Step
bare_name table k x = do
  s ← symbol table x
  bare_name_by k s

abbrev pub of_by : Table → Item → Sign → Step
of_by table x (sign.Word word.Of) = do
  both ← with_kind kind.ExprOf
  before OfName
of_by table x other = do
  begun ← equals_by table x other
  with_kind kind.BareExpr

abbrev pub of_name : Table → Item → Step
of_name table x = do
  s ← symbol table x
  with_name s Equals

-- groups of parameters, then one parameter without delimiters, then = or :=
abbrev pub parameters_by : Table → Item → Sign → Step
parameters_by table x (sign.Left pair) = before (GroupKind pair)
parameters_by table x (sign.Word (word.Parameter p)) = before (BareName (bare_kind p))
parameters_by table x other = equals_by table x other

-- NAMES

-- the name of a variable has so many parts at most behind its tag
abbrev pub room_for_part_by : Bool → Step
room_for_part_by true = give tt
room_for_part_by false = halt (error.Limit cap.Suffix PART_LIMIT)

abbrev pub room_for_part : Step
room_for_part r = room_for_part_by (nat_lt (length r.parts) PART_LIMIT) r

abbrev pub with_part : Shape → Step
with_part p = do
  room ← room_for_part
  change (λ r. record r { parts = r.parts ++ p ∷ []; next = Part })

-- @# is the end of a name
abbrev pub with_suffix : Step
with_suffix = change (λ r. record r { suffixed = true; next = Parameters })

-- tags, internals and [], then @# or not, then parameters
abbrev pub part_by : Table → Item → Sign → Step
part_by table x (sign.Part s) = with_part (shape.Sym s)
part_by table x sign.Number = halt error.BadDeclaration
part_by table x (sign.Word word.LeftBracket) = before Bracket
part_by table x (sign.Word (word.CalledName Behind)) = with_suffix
part_by table x other = parameters_by table x other

abbrev pub bracket_by : Sign → Step
bracket_by (sign.Word word.RightBracket) = with_part shape.Any
bracket_by other = halt error.BadDeclaration

-- a variable's name may go on
abbrev pub behind_name : Definition → Stage
behind_name definition.Vardef = Part
behind_name w = Parameters

abbrev pub name : Table → Item → Step
name table x = do
  s ← symbol table x
  change (λ r. record r { symbol = s; next = behind_name r.word })

-- NAME OPERATOR NAME =, of an operator
abbrev pub left_name : Table → Item → Step
left_name table x = do
  s ← symbol table x
  with_name s Operator

abbrev pub operator : Table → Item → Step
operator table x = do
  s ← symbol table x
  change (λ r. record r { symbol = s; next = RightName })

abbrev pub right_name : Table → Item → Step
right_name table x = do
  s ← symbol table x
  with_name s OperatorEquals

abbrev pub operator_equals_by : Table → Item → Sign → Step
operator_equals_by table x (sign.Word word.Equals) = begin_body
operator_equals_by table x other = unexpected (codes "=") table x
