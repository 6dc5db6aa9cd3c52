-- The items of a body are those that were read, parameters, and the two symbols of a group.
use Rattle.std.proofs.Common.{◌≡◌, ◌≤◌, ℕ, zero, suc, Ok, Err, true, false, Some, None, Option, Bool, [], ◌∷◌, ◌++◌, length, nat_lt, refl, sym, subst}
use Rattle.std.specs.List.{All}
use Rattle.std.proofs.lemmas.List.Elements.{All-nil, All-push, All-append}
use Rattle.mp_values.specs.Outcome.{Outcome, Rule, then}
use Rattle.mp_values.specs.declared.item.Item.{Item}
use Rattle.mp_values.specs.declared.item.Item.TheVariants as item
use Rattle.mp_values.specs.declared.macros.ParamKind.{ParamKind}
use Rattle.mp_values.specs.declared.macros.ParamKind.TheVariants.{BareExpr}
use Rattle.mp_values.specs.declared.meaning.Delimiters.{Delimiters}
use Rattle.mp_values.specs.declared.word.CalledName.TheVariants.{Behind}
use Rattle.mp_values.specs.declared.word.Definition.{Definition}
use Rattle.mp_values.specs.declared.word.Definition.TheVariants as definition
use Rattle.mp_values.specs.declared.word.Word.TheVariants as word
use Rattle.mp_vartree.specs.declared.names.Shape.{Shape}
use Rattle.mp_vartree.specs.declared.names.Shape.TheVariants as shape
use Rattle.mp_macro.specs.Signs.{Table, sign_of, sign_of_symbol}
use Rattle.mp_macro.specs.Headings.{Reading, opening, begin_body, equals_by, room_by, room_for_parameter, with_name, with_kind, with_parameter, delimited_kind_in, group_kind_by, group_name, are_pair, closed_by, group_rest_by, bare_name_by, bare_name, of_by, of_name, parameters_by, room_for_part_by, room_for_part, with_part, part_by, bracket_by, name, left_name, operator, right_name, operator_equals_by}
use Rattle.mp_macro.specs.Bodies.{Count, Begins, Ends, Neither, count_of, closing, enddef, word_by, symbol_by, parameter_by, body}
use Rattle.mp_macro.specs.Definitions.{item_at, read}
use Rattle.mp_macro.specs.Contents.{HoldsAtMost, KeepsAtMost, BodiesHoldWhatIsRead}
use Rattle.mp_vartree.specs.declared.names.TheConstants.{PART_LIMIT}
use Rattle.mp_macro.specs.declared.limits.TheConstants.{PARAMETER_LIMIT}
use Rattle.mp_macro.specs.declared.reader.GroupSymbols.{GroupSymbols}
use Rattle.mp_macro.specs.declared.sign.Sign.{Sign}
use Rattle.mp_macro.specs.declared.sign.Sign.TheVariants as sign
use Rattle.mp_macro.specs.declared.stage.Stage.{Stage}
use Rattle.mp_macro.specs.declared.stage.Stage.TheVariants.{Name, Part, Bracket, Parameters, GroupKind, GroupName, GroupRest, BareName, Of, OfName, Equals, LeftName, Operator, RightName, OperatorEquals, Body, Nothing}

-- by a measure, parameters and the symbols of the group are at most a bound
module _ (f : Item → ℕ) (n : ℕ) (group : GroupSymbols) (parameters : (number : ℕ) → f (item.Param number) ≤ n) (first : f (item.Symbol group.begin) ≤ n) (last : f (item.Symbol group.end) ≤ n) where
  abbrev P : Item → Type 0
  P x = f x ≤ n

  opening_is : (w : Definition) (g : GroupSymbols) → g ≡ group → All P (opening w g)
  opening_is definition.Vardef g same = All-push P [] (item.Symbol g.begin) (All-nil P) (subst (λ (g : GroupSymbols). f (item.Symbol g.begin) ≤ n) (sym same) first)
  opening_is w g same = All-nil P

  closing_is : (w : Definition) (g : GroupSymbols) → g ≡ group → All P (closing w g)
  closing_is definition.Vardef g same = All-push P [] (item.Symbol g.end) (All-nil P) (subst (λ (g : GroupSymbols). f (item.Symbol g.end) ≤ n) (sym same) last)
  closing_is w g same = All-nil P

  -- a rule that keeps the bound
  abbrev Keeps : {A : Type 0} → Rule Reading A → Type 0
  Keeps rule = (r : Reading) → HoldsAtMost f n group r → KeepsAtMost f n group (rule r)

  -- what comes of a rule, and then of another
  then_keeps : {A B : Type 0} (o : Outcome Reading A) (second : A → Rule Reading B) → KeepsAtMost f n group o → ((x : A) → Keeps (second x)) → KeepsAtMost f n group (then o second)
  then_keeps (Ok done) second b keeps = keeps done.0 done.1 b
  then_keeps (Err refused) second b keeps = b

  -- PARAMETERS

  begin_kept : Keeps begin_body
  begin_kept r e = (All-append P r.body (opening r.word r.group) e.0 (opening_is r.word r.group e.1), e.1)

  equals_keeps : (table : Table) (x : Item) (s : Sign) → Keeps (equals_by table x s)
  equals_keeps table x (sign.Word word.Equals) r e = begin_kept r e
  equals_keeps table x (sign.Word word.Assign) r e = begin_kept r e
  equals_keeps table x other r e = e

  room_keeps : (b : Bool) → Keeps (room_by b)
  room_keeps true r e = e
  room_keeps false r e = e

  name_kept : (s : ℕ) (stage : Stage) → Keeps (with_name s stage)
  name_kept s stage r e = then_keeps (room_for_parameter r) _ (room_keeps (nat_lt (length r.names) PARAMETER_LIMIT) r e) (λ room r e. e)

  parameter_kept : (k : ParamKind) (s : ℕ) (stage : Stage) → Keeps (with_parameter k s stage)
  parameter_kept k s stage r e = then_keeps (with_name s stage r) _ (name_kept s stage r e) (λ named r e. e)

  group_kind_keeps : (table : Table) (pair : Delimiters) (x : Item) (k : Option ParamKind) → Keeps (group_kind_by table pair x k)
  group_kind_keeps table pair x (Some k) r e = e
  group_kind_keeps table pair x None r e = e

  group_name_keeps : (table : Table) (k : ParamKind) (pair : Delimiters) (x : Item) → Keeps (group_name table k pair x)
  group_name_keeps table k pair (item.Symbol s) r e = parameter_kept k s (GroupRest k pair) r e
  group_name_keeps table k pair other r e = e

  closed_keeps : (table : Table) (pair : Delimiters) (x : Item) (b : Bool) → Keeps (closed_by table pair x b)
  closed_keeps table pair x true r e = e
  closed_keeps table pair x false r e = e

  group_rest_keeps : (table : Table) (k : ParamKind) (pair : Delimiters) (x : Item) (s : Sign) → Keeps (group_rest_by table k pair x s)
  group_rest_keeps table k pair x (sign.Word word.Comma) r e = e
  group_rest_keeps table k pair x (sign.Right other) r e = closed_keeps table pair x (are_pair pair other) r e
  group_rest_keeps table k pair x other r e = e

  bare_name_kept : (k : ParamKind) (s : ℕ) → Keeps (bare_name_by k s)
  bare_name_kept BareExpr s r e = name_kept s Of r e
  bare_name_kept k s r e = parameter_kept k s Equals r e

  bare_name_keeps : (table : Table) (k : ParamKind) (x : Item) → Keeps (bare_name table k x)
  bare_name_keeps table k (item.Symbol s) r e = bare_name_kept k s r e
  bare_name_keeps table k other r e = e

  of_keeps : (table : Table) (x : Item) (s : Sign) → Keeps (of_by table x s)
  of_keeps table x (sign.Word word.Of) r e = e
  of_keeps table x other r e = then_keeps (equals_by table x other r) (λ begun. with_kind BareExpr) (equals_keeps table x other r e) (λ begun r e. e)

  of_name_keeps : (table : Table) (x : Item) → Keeps (of_name table x)
  of_name_keeps table (item.Symbol s) r e = name_kept s Equals r e
  of_name_keeps table other r e = e

  parameters_keep : (table : Table) (x : Item) (s : Sign) → Keeps (parameters_by table x s)
  parameters_keep table x (sign.Left pair) r e = e
  parameters_keep table x (sign.Word (word.Parameter p)) r e = e
  parameters_keep table x other r e = equals_keeps table x other r e

  -- NAMES

  room_for_part_keeps : (b : Bool) → Keeps (room_for_part_by b)
  room_for_part_keeps true r e = e
  room_for_part_keeps false r e = e

  part_kept : (p : Shape) → Keeps (with_part p)
  part_kept p r e = then_keeps (room_for_part r) _ (room_for_part_keeps (nat_lt (length r.parts) PART_LIMIT) r e) (λ room r e. e)

  part_keeps : (table : Table) (x : Item) (s : Sign) → Keeps (part_by table x s)
  part_keeps table x (sign.Part s) r e = part_kept (shape.Sym s) r e
  part_keeps table x sign.Number r e = e
  part_keeps table x (sign.Word word.LeftBracket) r e = e
  part_keeps table x (sign.Word (word.CalledName Behind)) r e = e
  part_keeps table x other r e = parameters_keep table x other r e

  bracket_keeps : (s : Sign) → Keeps (bracket_by s)
  bracket_keeps (sign.Word word.RightBracket) r e = part_kept shape.Any r e
  bracket_keeps other r e = e

  name_keeps : (table : Table) (x : Item) → Keeps (name table x)
  name_keeps table (item.Symbol s) r e = e
  name_keeps table other r e = e

  left_name_keeps : (table : Table) (x : Item) → Keeps (left_name table x)
  left_name_keeps table (item.Symbol s) r e = name_kept s Operator r e
  left_name_keeps table other r e = e

  operator_keeps : (table : Table) (x : Item) → Keeps (operator table x)
  operator_keeps table (item.Symbol s) r e = e
  operator_keeps table other r e = e

  right_name_keeps : (table : Table) (x : Item) → Keeps (right_name table x)
  right_name_keeps table (item.Symbol s) r e = name_kept s OperatorEquals r e
  right_name_keeps table other r e = e

  operator_equals_keeps : (table : Table) (x : Item) (s : Sign) → Keeps (operator_equals_by table x s)
  operator_equals_keeps table x (sign.Word word.Equals) r e = begin_kept r e
  operator_equals_keeps table x other r e = e

  -- BODIES

  with_kept : (x : Item) (r : Reading) → P x → HoldsAtMost f n group r → All P (r.body ++ x ∷ [])
  with_kept x r h e = All-push P r.body x e.0 h

  enddef_keeps : (symbol depth : ℕ) → P (item.Symbol symbol) → Keeps (enddef symbol depth)
  enddef_keeps symbol zero h r e = (All-append P r.body (closing r.word r.group) e.0 (closing_is r.word r.group e.1), e.1)
  enddef_keeps symbol (suc depth) h r e = (with_kept (item.Symbol symbol) r h e, e.1)

  word_keeps : (symbol depth : ℕ) (c : Count) → P (item.Symbol symbol) → Keeps (word_by symbol depth c)
  word_keeps symbol depth Begins h r e = (with_kept (item.Symbol symbol) r h e, e.1)
  word_keeps symbol depth Ends h r e = enddef_keeps symbol depth h r e
  word_keeps symbol depth Neither h r e = (with_kept (item.Symbol symbol) r h e, e.1)

  symbol_keeps : (symbol depth : ℕ) (s : Sign) (parameter : Option ℕ) → P (item.Symbol symbol) → Keeps (symbol_by symbol depth s parameter)
  symbol_keeps symbol depth s (Some number) h r e = (with_kept (item.Param number) r (parameters number) e, e.1)
  symbol_keeps symbol depth s None h r e = word_keeps symbol depth (count_of s) h r e

  body_keeps : (table : Table) (depth : ℕ) (x : Item) → P x → Keeps (body table depth x)
  body_keeps table depth (item.Symbol s) h r e = symbol_keeps s depth (sign_of_symbol table s) (parameter_by r s (sign_of_symbol table s)) h r e
  body_keeps table depth other h r e = (with_kept other r h e, e.1)

  -- ITEMS

  item_keeps : (table : Table) (stage : Stage) (x : Item) → P x → Keeps (item_at table stage x)
  item_keeps table Name x h r e = name_keeps table x r e
  item_keeps table Part x h r e = part_keeps table x (sign_of table x) r e
  item_keeps table Bracket x h r e = bracket_keeps (sign_of table x) r e
  item_keeps table Parameters x h r e = parameters_keep table x (sign_of table x) r e
  item_keeps table (GroupKind pair) x h r e = group_kind_keeps table pair x (delimited_kind_in (sign_of table x)) r e
  item_keeps table (GroupName k pair) x h r e = group_name_keeps table k pair x r e
  item_keeps table (GroupRest k pair) x h r e = group_rest_keeps table k pair x (sign_of table x) r e
  item_keeps table (BareName k) x h r e = bare_name_keeps table k x r e
  item_keeps table Of x h r e = of_keeps table x (sign_of table x) r e
  item_keeps table OfName x h r e = of_name_keeps table x r e
  item_keeps table Equals x h r e = equals_keeps table x (sign_of table x) r e
  item_keeps table LeftName x h r e = left_name_keeps table x r e
  item_keeps table Operator x h r e = operator_keeps table x r e
  item_keeps table RightName x h r e = right_name_keeps table x r e
  item_keeps table OperatorEquals x h r e = operator_equals_keeps table x (sign_of table x) r e
  item_keeps table (Body depth) x h r e = body_keeps table depth x h r e
  item_keeps table Nothing x h r e = e

pub bodies_hold_what_is_read : BodiesHoldWhatIsRead
unfolding read
bodies_hold_what_is_read f n table (item.LineEnd place) r parameters first last body h = (body, refl)
bodies_hold_what_is_read f n table item.FileEnd r parameters first last body h = (body, refl)
bodies_hold_what_is_read f n table item.EndOfText r parameters first last body h = (body, refl)
bodies_hold_what_is_read f n table (item.Bad cause) r parameters first last body h = (body, refl)
bodies_hold_what_is_read f n table x r parameters first last body h = item_keeps f n r.group parameters first last table r.next x h r (body, refl)
