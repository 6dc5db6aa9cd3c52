-- Conditions: what comes of `if`, `elseif`, `else` and `fi`, and what is passed over.
-- After Hobby, A User's Manual for MetaPost, section 10; the refusals are this project's own.
use Rattle.std.specs.Prelude.{ℕ, zero, suc, Bool, true, false, List, ◌∷◌, Option, Some, None, codes}
use Rattle.mp_report.specs.declared.error.SourceError.TheVariants as error
use Rattle.mp_values.specs.Outcome.{◌>>=◌, give, halt, change, Refused}
use Rattle.mp_values.specs.Refusals.{bad_token, unexpected}
use Rattle.mp_values.specs.declared.item.Item.{Item}
use Rattle.mp_values.specs.declared.item.Item.TheVariants as item
use Rattle.mp_values.specs.declared.meaning.Meaning.{Meaning}
use Rattle.mp_values.specs.declared.meaning.Meaning.TheVariants as meaning
use Rattle.mp_values.specs.declared.turn.Pending.{Pending}
use Rattle.mp_values.specs.declared.turn.Pending.TheVariants as pending
use Rattle.mp_values.specs.declared.word.Condition.{Condition}
use Rattle.mp_values.specs.declared.word.Condition.TheVariants as condition
use Rattle.mp_values.specs.declared.word.Word.TheVariants as word
use Rattle.mp_expand.specs.Expansion.{Expansion, Rule}
use Rattle.mp_expand.specs.Fronts.{Table, meaning_of, stood}
use Rattle.mp_expand.specs.Calls.{with_request, ask_for}
use Rattle.mp_expand.specs.declared.front.Front.{Front}
use Rattle.mp_expand.specs.declared.front.Front.TheVariants as front
use Rattle.mp_expand.specs.declared.request.Branch.{Branch}
use Rattle.mp_expand.specs.declared.request.Branch.TheVariants as branch_of
use Rattle.mp_expand.specs.declared.request.Request.TheVariants as request
use Rattle.mp_expand.specs.declared.request.Skip.{Skip}
use Rattle.mp_expand.specs.declared.request.Skip.TheVariants as skip
use Rattle.mp_expand.specs.declared.step.Operand.TheVariants as operand
use Rattle.mp_expand.specs.declared.step.Step.{Step}
use Rattle.mp_expand.specs.declared.step.Step.TheVariants as step
use Rattle.mp_expand.specs.declared.step.Want.TheVariants as want

-- BRANCHES

-- `if` or `elseif` asks whether what stands behind it is true
abbrev pub ask_truth : Condition → Rule Step
ask_truth w = ask_for (request.Truth w) (want.Followed (operand.Condition w))

-- more is passed over, inside so many conditions
abbrev pub pass : Skip → ℕ → Rule Step
pass k depth = do
  passes ← change (with_request (request.Skip k depth))
  give step.More

-- one more condition is open
abbrev pub with_branch : Branch → Expansion → Expansion
with_branch b s = record s { conditions = b ∷ s.conditions }

-- a branch is read: the text goes on
abbrev pub open_branch : Branch → Rule Step
open_branch b = do
  opens ← change (with_branch b)
  give step.More

-- the `:` behind the heading of a branch
abbrev pub colon : Table → Front → Rule (Unit {0})
colon table (front.Word symbol word.Colon) = give tt
colon table x = halt (unexpected (codes ":") (stood table x))

-- behind `if` or `elseif` a false condition is passed over up to its next branch
abbrev pub branch_by : Bool → Rule Step
branch_by true = open_branch branch_of.BeforeElse
branch_by false = pass skip.ToBranch 0

abbrev pub branch : Table → Bool → Front → Rule Step
branch table truth x = do
  stands ← colon table x
  branch_by truth

abbrev pub else_branch : Table → Front → Rule Step
else_branch table x = do
  stands ← colon table x
  open_branch branch_of.BehindElse

-- THE WORDS IN THE TEXT THAT IS READ

-- these conditions and no others are open
abbrev pub with_conditions : List Branch → Expansion → Expansion
with_conditions bs s = record s { conditions = bs }

-- `fi` ends the newest condition; `elseif` and `else` end a branch, and the rest of the condition is passed over
abbrev pub met_in : Condition → List Branch → Rule Step
met_in condition.If bs = ask_truth condition.If
met_in condition.Fi (b ∷ bs) = do
  closed ← change (with_conditions bs)
  give step.More
met_in w (branch_of.BeforeElse ∷ bs) = do
  closed ← change (with_conditions bs)
  pass skip.ToEnd 0
met_in w bs = halt (Refused error.LoneConditionWord)

abbrev pub condition_met : Condition → Rule Step
condition_met w s = met_in w s.conditions s

-- WHAT IS PASSED OVER

-- the word of a condition that a symbol means
abbrev pub condition_in : Meaning → Option Condition
condition_in (meaning.Word (word.Condition w)) = Some w
condition_in m = None

-- conditions inside are counted; outside them `fi` ends what is passed over, and so does the next branch, where it is
-- looked for
abbrev pub condition_skipped : Skip → ℕ → Condition → Rule Step
condition_skipped k depth condition.If = pass k (suc depth)
condition_skipped k (suc depth) condition.Fi = pass k depth
condition_skipped k zero condition.Fi = give step.More
condition_skipped skip.ToBranch zero condition.Elseif = ask_truth condition.Elseif
condition_skipped skip.ToBranch zero condition.Else = do
  waits ← change (with_request request.Colon)
  give step.More
condition_skipped k depth w = pass k depth

abbrev pub symbol_skipped : Skip → ℕ → Option Condition → Rule Step
symbol_skipped k depth (Some w) = condition_skipped k depth w
symbol_skipped k depth None = pass k depth

abbrev pub item_skipped : Table → Skip → ℕ → Item → Rule Step
item_skipped table k depth (item.Symbol symbol) = symbol_skipped k depth (condition_in (meaning_of table symbol))
item_skipped table k depth item.FileEnd = halt (Refused error.FileEndedInText)
item_skipped table k depth item.EndOfText = halt (Refused error.FileEndedInText)
item_skipped table k depth (item.Bad cause) = halt (bad_token cause)
item_skipped table k depth x = pass k depth

-- what was taken
abbrev pub skipped : Table → Skip → ℕ → Option Pending → Rule Step
skipped table k depth (Some (pending.Item x)) = item_skipped table k depth x
skipped table k depth (Some (pending.Turn turn)) = pass k depth
skipped table k depth None = halt (Refused error.FileEndedInText)
