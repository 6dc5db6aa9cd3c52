-- Calls of macros: how one gets its arguments, and what stands in the text when it has them all.
-- After Hobby, A User's Manual for MetaPost, section 10, and Knuth, METAFONT: The Program, part 25; the refusals are this
-- project's own.
use Rattle.std.specs.Prelude.{◌+◌, Bool, List, [], ◌∷◌, ◌++◌, Option, Some, None, nat_eq, ◌&&◌, slice_get}
use Rattle.mp_values.specs.Outcome.{◌>>=◌, give, change}
use Rattle.mp_values.specs.Substitution.{substitute}
use Rattle.mp_values.specs.declared.item.Item.{Item}
use Rattle.mp_values.specs.declared.macros.Macro.{Macro}
use Rattle.mp_values.specs.declared.macros.ParamKind.{ParamKind}
use Rattle.mp_values.specs.declared.macros.ParamKind.TheVariants as kind
use Rattle.mp_values.specs.declared.meaning.Delimiters.{Delimiters}
use Rattle.mp_input.specs.Lines.{items_pending}
use Rattle.mp_expand.specs.Expansion.{Expansion, Rule}
use Rattle.mp_expand.specs.Steps.{enter}
use Rattle.mp_expand.specs.declared.request.Behind.{Behind}
use Rattle.mp_expand.specs.declared.request.Behind.TheVariants as behind
use Rattle.mp_expand.specs.declared.request.Call.{Call}
use Rattle.mp_expand.specs.declared.request.Delimited.{Delimited}
use Rattle.mp_expand.specs.declared.request.Delimited.TheVariants as delimited
use Rattle.mp_expand.specs.declared.request.Need.TheVariants as need
use Rattle.mp_expand.specs.declared.request.Request.{Request}
use Rattle.mp_expand.specs.declared.request.Request.TheVariants as request
use Rattle.mp_expand.specs.declared.request.Until.{Until}
use Rattle.mp_expand.specs.declared.request.Until.TheVariants as until
use Rattle.mp_expand.specs.declared.step.Operand.{Operand}
use Rattle.mp_expand.specs.declared.step.Operand.TheVariants as operand
use Rattle.mp_expand.specs.declared.step.Step.{Step}
use Rattle.mp_expand.specs.declared.step.Step.TheVariants as step
use Rattle.mp_expand.specs.declared.step.Want.{Want}
use Rattle.mp_expand.specs.declared.step.Want.TheVariants as want

-- the two delimiters are a pair
abbrev pub are_pair : Delimiters → Delimiters → Bool
are_pair a b = nat_eq a.left b.left && nat_eq a.right b.right

-- what a parameter between delimiters takes
abbrev pub delimited_in : Option ParamKind → Option Delimited
delimited_in (Some kind.Expr) = Some delimited.Expr
delimited_in (Some kind.Suffix) = Some delimited.Suffix
delimited_in (Some kind.Text) = Some delimited.Text
delimited_in x = None

-- the parameter whose argument is next
abbrev pub parameter_next : Call → Option ParamKind
parameter_next c = slice_get c.called.params c.next

-- what it takes between delimiters, where it stands between them
abbrev pub argument_next : Call → Option Delimited
argument_next c = delimited_in (parameter_next c)

-- one more argument was got
abbrev pub with_argument : List Item → Call → Call
with_argument items c = record c { got = c.got ++ items ∷ []; next = c.next + 1; text = [] }

-- it waits before what waited
abbrev pub with_request : Request → Expansion → Expansion
with_request r s = record s { requests = r ∷ s.requests }

-- WHAT A CALL DOES NEXT

-- the body stands at the front of the text, with the arguments in place of the parameters
abbrev pub with_body : Call → Expansion → Expansion
with_body c s = record s { text = items_pending (substitute c.called.body c.got) ++ s.text }

abbrev pub whole : Call → Rule Step
whole c = do
  stands ← change (with_body c)
  give step.More

-- it needs a left delimiter in front of the argument
abbrev pub opens : Call → Delimited → Rule Step
opens c k = do
  needs ← change (with_request (request.Call c (need.Opening k)))
  give step.More

-- it waits for the answer to what is asked for
abbrev pub ask_for : Request → Want → Rule Step
ask_for r w = do
  entered ← enter
  waits ← change (with_request r)
  give (step.Want w)

-- a call asks for an argument
abbrev pub ask : Call → Behind → Want → Rule Step
ask c b w = ask_for (request.Call c (need.Answer b)) w

-- the last argument, without delimiters: what stands behind it is put back
abbrev pub ask_last : Call → Operand → Rule Step
ask_last c o = ask c behind.Anything (want.Last o)

-- it reads a text as it stands
abbrev pub read_text : Call → Until → Rule Step
read_text c u = do
  reads ← change (with_request (request.Call c (need.Text u 0)))
  give step.More

-- the argument behind a left delimiter or a comma
abbrev pub argument : Call → Delimiters → Delimited → Rule Step
argument c pair delimited.Expr = ask c (behind.Delimiter pair) (want.Followed operand.Expression)
argument c pair delimited.Suffix = ask c (behind.Delimiter pair) (want.Followed operand.Suffix)
argument c pair delimited.Text = read_text c (until.Delimiter pair)

-- the argument of the next parameter, if there is one more
abbrev pub go_on_by : Call → Option ParamKind → Rule Step
go_on_by c None = whole c
go_on_by c (Some kind.Expr) = opens c delimited.Expr
go_on_by c (Some kind.Suffix) = opens c delimited.Suffix
go_on_by c (Some kind.Text) = opens c delimited.Text
go_on_by c (Some kind.Primary) = ask_last c operand.Primary
go_on_by c (Some kind.Secondary) = ask_last c operand.Secondary
go_on_by c (Some kind.Tertiary) = ask_last c operand.Tertiary
go_on_by c (Some kind.BareExpr) = ask_last c operand.Expression
go_on_by c (Some kind.ExprOf) = ask c behind.Of (want.Followed operand.Expression)
go_on_by c (Some kind.BareSuffix) = ask_last c operand.Suffix
go_on_by c (Some kind.BareText) = read_text c until.Statement

abbrev pub go_on : Call → Rule Step
go_on c = go_on_by c (parameter_next c)

-- a macro is called, with the first of the arguments that its body needs
abbrev pub call : Macro → List (List Item) → Rule Step
call m got = go_on (record { called = m; got = got; next = 0; text = [] })
