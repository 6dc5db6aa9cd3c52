-- The symbol that is defined stays below a bound.
use Rattle.std.proofs.Common.{◌<◌, ℕ, zero, suc, Ok, Err, true, false, Some, None, Option, Bool, length, nat_lt}
use Rattle.mp_values.specs.Outcome.{Outcome, Rule, then}
use Rattle.mp_values.specs.declared.item.Item.{Item}
use Rattle.mp_values.specs.declared.item.Item.TheVariants as item
use Rattle.mp_values.specs.declared.macros.ParamKind.{ParamKind}
use Rattle.mp_values.specs.declared.macros.ParamKind.TheVariants.{BareExpr}
use Rattle.mp_values.specs.declared.meaning.Delimiters.{Delimiters}
use Rattle.mp_values.specs.declared.word.CalledName.TheVariants.{Behind}
use Rattle.mp_values.specs.declared.word.Word.TheVariants as word
use Rattle.mp_vartree.specs.declared.names.Shape.{Shape}
use Rattle.mp_vartree.specs.declared.names.Shape.TheVariants as shape
use Rattle.mp_macro.specs.Signs.{Table, sign_of, sign_of_symbol}
use Rattle.mp_macro.specs.Headings.{Reading, equals_by, room_by, room_for_parameter, with_name, with_kind, with_parameter, delimited_kind_in, group_kind_by, group_name, are_pair, closed_by, group_rest_by, bare_name_by, bare_name, of_by, of_name, parameters_by, room_for_part_by, room_for_part, with_part, part_by, bracket_by, name, left_name, operator, right_name, operator_equals_by}
use Rattle.mp_macro.specs.Bodies.{Count, Begins, Ends, Neither, count_of, enddef, word_by, symbol_by, parameter_by, body}
use Rattle.mp_macro.specs.Definitions.{item_at, read}
use Rattle.mp_macro.specs.Numbered.{IsBelow, KeepsBelow, SymbolsStayNumbered}
use Rattle.mp_vartree.specs.declared.names.TheConstants.{PART_LIMIT}
use Rattle.mp_macro.specs.declared.limits.TheConstants.{PARAMETER_LIMIT}
use Rattle.mp_macro.specs.declared.sign.Sign.{Sign}
use Rattle.mp_macro.specs.declared.sign.Sign.TheVariants as sign
use Rattle.mp_macro.specs.declared.stage.Stage.{Stage}
use Rattle.mp_macro.specs.declared.stage.Stage.TheVariants.{Name, Part, Bracket, Parameters, GroupKind, GroupName, GroupRest, BareName, Of, OfName, Equals, LeftName, Operator, RightName, OperatorEquals, Body, Nothing}

-- a rule that keeps the bound
abbrev Keeps : {A : Type 0} → ℕ → Rule Reading A → Type 0
Keeps n rule = (r : Reading) → r.symbol < n → KeepsBelow n (rule r)

-- what comes of a rule, and then of another
then_keeps : {A B : Type 0} (n : ℕ) (o : Outcome Reading A) (second : A → Rule Reading B) → KeepsBelow n o → ((x : A) → Keeps n (second x)) → KeepsBelow n (then o second)
then_keeps n (Ok done) second b keeps = keeps done.0 done.1 b
then_keeps n (Err refused) second b keeps = b

-- PARAMETERS

equals_keeps : (n : ℕ) (table : Table) (x : Item) (s : Sign) → Keeps n (equals_by table x s)
equals_keeps n table x (sign.Word word.Equals) r e = e
equals_keeps n table x (sign.Word word.Assign) r e = e
equals_keeps n table x other r e = e

room_keeps : (n : ℕ) (b : Bool) → Keeps n (room_by b)
room_keeps n true r e = e
room_keeps n false r e = e

name_kept : (n s : ℕ) (stage : Stage) → Keeps n (with_name s stage)
name_kept n s stage r e = then_keeps n (room_for_parameter r) _ (room_keeps n (nat_lt (length r.names) PARAMETER_LIMIT) r e) (λ room r e. e)

parameter_kept : (n : ℕ) (k : ParamKind) (s : ℕ) (stage : Stage) → Keeps n (with_parameter k s stage)
parameter_kept n k s stage r e = then_keeps n (with_name s stage r) _ (name_kept n s stage r e) (λ named r e. e)

group_kind_keeps : (n : ℕ) (table : Table) (pair : Delimiters) (x : Item) (k : Option ParamKind) → Keeps n (group_kind_by table pair x k)
group_kind_keeps n table pair x (Some k) r e = e
group_kind_keeps n table pair x None r e = e

group_name_keeps : (n : ℕ) (table : Table) (k : ParamKind) (pair : Delimiters) (x : Item) → Keeps n (group_name table k pair x)
group_name_keeps n table k pair (item.Symbol s) r e = parameter_kept n k s (GroupRest k pair) r e
group_name_keeps n table k pair other r e = e

closed_keeps : (n : ℕ) (table : Table) (pair : Delimiters) (x : Item) (b : Bool) → Keeps n (closed_by table pair x b)
closed_keeps n table pair x true r e = e
closed_keeps n table pair x false r e = e

group_rest_keeps : (n : ℕ) (table : Table) (k : ParamKind) (pair : Delimiters) (x : Item) (s : Sign) → Keeps n (group_rest_by table k pair x s)
group_rest_keeps n table k pair x (sign.Word word.Comma) r e = e
group_rest_keeps n table k pair x (sign.Right other) r e = closed_keeps n table pair x (are_pair pair other) r e
group_rest_keeps n table k pair x other r e = e

bare_name_kept : (n : ℕ) (k : ParamKind) (s : ℕ) → Keeps n (bare_name_by k s)
bare_name_kept n BareExpr s r e = name_kept n s Of r e
bare_name_kept n k s r e = parameter_kept n k s Equals r e

bare_name_keeps : (n : ℕ) (table : Table) (k : ParamKind) (x : Item) → Keeps n (bare_name table k x)
bare_name_keeps n table k (item.Symbol s) r e = bare_name_kept n k s r e
bare_name_keeps n table k other r e = e

of_keeps : (n : ℕ) (table : Table) (x : Item) (s : Sign) → Keeps n (of_by table x s)
of_keeps n table x (sign.Word word.Of) r e = e
of_keeps n table x other r e = then_keeps n (equals_by table x other r) (λ begun. with_kind BareExpr) (equals_keeps n table x other r e) (λ begun r e. e)

of_name_keeps : (n : ℕ) (table : Table) (x : Item) → Keeps n (of_name table x)
of_name_keeps n table (item.Symbol s) r e = name_kept n s Equals r e
of_name_keeps n table other r e = e

parameters_keep : (n : ℕ) (table : Table) (x : Item) (s : Sign) → Keeps n (parameters_by table x s)
parameters_keep n table x (sign.Left pair) r e = e
parameters_keep n table x (sign.Word (word.Parameter p)) r e = e
parameters_keep n table x other r e = equals_keeps n table x other r e

-- NAMES

room_for_part_keeps : (n : ℕ) (b : Bool) → Keeps n (room_for_part_by b)
room_for_part_keeps n true r e = e
room_for_part_keeps n false r e = e

part_kept : (n : ℕ) (p : Shape) → Keeps n (with_part p)
part_kept n p r e = then_keeps n (room_for_part r) _ (room_for_part_keeps n (nat_lt (length r.parts) PART_LIMIT) r e) (λ room r e. e)

part_keeps : (n : ℕ) (table : Table) (x : Item) (s : Sign) → Keeps n (part_by table x s)
part_keeps n table x (sign.Part s) r e = part_kept n (shape.Sym s) r e
part_keeps n table x sign.Number r e = e
part_keeps n table x (sign.Word word.LeftBracket) r e = e
part_keeps n table x (sign.Word (word.CalledName Behind)) r e = e
part_keeps n table x other r e = parameters_keep n table x other r e

bracket_keeps : (n : ℕ) (s : Sign) → Keeps n (bracket_by s)
bracket_keeps n (sign.Word word.RightBracket) r e = part_kept n shape.Any r e
bracket_keeps n other r e = e

-- the symbol that is defined is the item's
name_keeps : (n : ℕ) (table : Table) (x : Item) → IsBelow n x → Keeps n (name table x)
name_keeps n table (item.Symbol s) below r e = below
name_keeps n table other below r e = e

left_name_keeps : (n : ℕ) (table : Table) (x : Item) → Keeps n (left_name table x)
left_name_keeps n table (item.Symbol s) r e = name_kept n s Operator r e
left_name_keeps n table other r e = e

-- as is an operator's
operator_keeps : (n : ℕ) (table : Table) (x : Item) → IsBelow n x → Keeps n (operator table x)
operator_keeps n table (item.Symbol s) below r e = below
operator_keeps n table other below r e = e

right_name_keeps : (n : ℕ) (table : Table) (x : Item) → Keeps n (right_name table x)
right_name_keeps n table (item.Symbol s) r e = name_kept n s OperatorEquals r e
right_name_keeps n table other r e = e

operator_equals_keeps : (n : ℕ) (table : Table) (x : Item) (s : Sign) → Keeps n (operator_equals_by table x s)
operator_equals_keeps n table x (sign.Word word.Equals) r e = e
operator_equals_keeps n table x other r e = e

-- BODIES

enddef_keeps : (n symbol depth : ℕ) → Keeps n (enddef symbol depth)
enddef_keeps n symbol zero r e = e
enddef_keeps n symbol (suc depth) r e = e

word_keeps : (n symbol depth : ℕ) (c : Count) → Keeps n (word_by symbol depth c)
word_keeps n symbol depth Begins r e = e
word_keeps n symbol depth Ends r e = enddef_keeps n symbol depth r e
word_keeps n symbol depth Neither r e = e

symbol_keeps : (n symbol depth : ℕ) (s : Sign) (parameter : Option ℕ) → Keeps n (symbol_by symbol depth s parameter)
symbol_keeps n symbol depth s (Some number) r e = e
symbol_keeps n symbol depth s None r e = word_keeps n symbol depth (count_of s) r e

body_keeps : (n : ℕ) (table : Table) (depth : ℕ) (x : Item) → Keeps n (body table depth x)
body_keeps n table depth (item.Symbol s) r e = symbol_keeps n s depth (sign_of_symbol table s) (parameter_by r s (sign_of_symbol table s)) r e
body_keeps n table depth other r e = e

-- ITEMS

item_keeps : (n : ℕ) (table : Table) (stage : Stage) (x : Item) → IsBelow n x → Keeps n (item_at table stage x)
item_keeps n table Name x below r e = name_keeps n table x below r e
item_keeps n table Part x below r e = part_keeps n table x (sign_of table x) r e
item_keeps n table Bracket x below r e = bracket_keeps n (sign_of table x) r e
item_keeps n table Parameters x below r e = parameters_keep n table x (sign_of table x) r e
item_keeps n table (GroupKind pair) x below r e = group_kind_keeps n table pair x (delimited_kind_in (sign_of table x)) r e
item_keeps n table (GroupName k pair) x below r e = group_name_keeps n table k pair x r e
item_keeps n table (GroupRest k pair) x below r e = group_rest_keeps n table k pair x (sign_of table x) r e
item_keeps n table (BareName k) x below r e = bare_name_keeps n table k x r e
item_keeps n table Of x below r e = of_keeps n table x (sign_of table x) r e
item_keeps n table OfName x below r e = of_name_keeps n table x r e
item_keeps n table Equals x below r e = equals_keeps n table x (sign_of table x) r e
item_keeps n table LeftName x below r e = left_name_keeps n table x r e
item_keeps n table Operator x below r e = operator_keeps n table x below r e
item_keeps n table RightName x below r e = right_name_keeps n table x r e
item_keeps n table OperatorEquals x below r e = operator_equals_keeps n table x (sign_of table x) r e
item_keeps n table (Body depth) x below r e = body_keeps n table depth x r e
item_keeps n table Nothing x below r e = e

pub symbols_stay_numbered : SymbolsStayNumbered
unfolding read
symbols_stay_numbered n table (item.LineEnd place) r e below = e
symbols_stay_numbered n table item.FileEnd r e below = e
symbols_stay_numbered n table item.EndOfText r e below = e
symbols_stay_numbered n table (item.Bad cause) r e below = e
symbols_stay_numbered n table x r e below = item_keeps n table r.next x below r e
