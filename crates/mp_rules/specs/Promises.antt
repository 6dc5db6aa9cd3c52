-- What the functions of the evaluator promise of the meaning.
use Rattle.std.specs.Prelude.{◌≡◌, ◌≤◌, ◌+◌, ℕ, List, Option, Some, None, Result, IfOk}
use Rattle.mp_values.specs.Outcome.{Yields}
use Rattle.mp_values.specs.declared.item.Item.{Item}
use Rattle.mp_values.specs.declared.macros.Macro.{Macro}
use Rattle.mp_values.specs.declared.stop.Stop.{Stop}
use Rattle.mp_values.specs.declared.turn.Pending.{Pending}
use Rattle.mp_values.specs.declared.value.Value.{Value}
use Rattle.mp_acts.specs.Counts.{Counts, nothing, most, greatest, IsWithin}
use Rattle.mp_macro.specs.Headings.{Reading}
use Rattle.mp_acts.specs.Reach.{reach, reach_of_item, reach_of_part, one_symbol, one_internal}
use Rattle.mp_rules.specs.Reach.{reach_of_raw, reach_of_first, reach_of_step}
use Rattle.mp_rules.specs.Machine.{Machine, Rule, coming, left, things}
use Rattle.mp_rules.specs.Rules.{advancing, What, AnswerTo, AnswerShape, Answer, shape_of, Nothing, OneRaw, OneValue, OneSide, OneName, Parts, Shapes, NextFront, NextRaw, Asked, VariableName, NameFrom, Group, ChainRest, ShowList, SymbolList, TypeList, CommandRest}
use Rattle.mp_vartree.specs.declared.names.Part.{Part}
use Rattle.mp_rules.specs.Chains.{reach_of_side}
use Rattle.mp_rules.specs.Meaning.{the}
use Rattle.mp_expand.specs.Steps.{take_first}
use Rattle.mp_expand.specs.Calls.{call}
use Rattle.mp_expand.specs.Advance.{items_of}
use Rattle.mp_expand.specs.Laws.{cost, cost_of_first}
use Rattle.mp_expand.specs.declared.step.Answer.{Answer as Answered}
use Rattle.mp_expand.specs.declared.step.Step.{Step}
use Rattle.mp_expand.specs.declared.step.Step.TheVariants as step
use Rattle.mp_rules.specs.Steps.{expanding, answering}
use Rattle.mp_rules.specs.declared.chain_side.ChainSide.{ChainSide}
use Rattle.mp_rules.specs.declared.chain_side.ChainSide.TheVariants as side
use Rattle.mp_rules.specs.declared.named.Named.{Named}
use Rattle.mp_rules.specs.declared.named.Named.TheVariants as named

-- a target has its := in hand, and used a front at least
abbrev pub used_by_side : ChainSide → ℕ
used_by_side (side.Target t) = 1
used_by_side (side.Value v) = 0

-- a part of a name used one
abbrev pub used_by_part : Option Part → ℕ
used_by_part None = 0
used_by_part (Some p) = 1

abbrev pub reach_of_maybe_part : Option Part → Counts
reach_of_maybe_part None = nothing
reach_of_maybe_part (Some p) = reach_of_part p

-- how many fronts an answer used for certain
abbrev pub used_by : (shape : AnswerShape) → Answer shape → ℕ
used_by OneSide x = used_by_side x
used_by Nothing x = 0
used_by OneRaw x = 0
used_by OneValue x = 0
used_by OneName x = 0
used_by Parts x = 0
used_by Shapes x = 0

-- how many fronts a rule may use: it begins with the front in hand, or with the one behind it
abbrev pub from : What → Machine → ℕ
from NextFront s = coming s
from NextRaw s = coming s
from (Asked w) s = coming s
from (VariableName symbol) s = coming s
from (NameFrom symbol root parts) s = coming s
from Group s = coming s
from ShowList s = coming s
from (SymbolList c) s = coming s
from (TypeList kind) s = coming s
from (CommandRest c) s = coming s
from (ChainRest before last) s = left s + used_by_side last
from what s = left s

abbrev pub reach_of_named : Named → Counts
reach_of_named (named.Variable root parts) = greatest reach_of_part parts
reach_of_named named.Called = nothing

-- what an answer speaks of by number. The names that are declared are not looked up
abbrev pub reach_of : (shape : AnswerShape) → Answer shape → Counts
reach_of Nothing x = nothing
reach_of OneRaw x = reach_of_raw x
reach_of OneValue x = reach x
reach_of OneSide x = reach_of_side x
reach_of OneName x = reach_of_named x
reach_of Parts x = greatest reach_of_part x
reach_of Shapes x = nothing

-- what a function returned, and the machine it left, are what a rule gives
pub record Reads {A : Type 0} (does : Rule A) (bound : ℕ) (costs : A → ℕ) (reaches : A → Counts) (result : Result A Stop) (old new : Machine) : Type 0 where
  pub meaning : Yields result new (does old)
  -- no front is got without a step
  pub went : IfOk result (λ answer. left new + costs answer ≤ bound)
  pub kept : new.expander.budget ≡ old.expander.budget
  -- no file is asked for yet but the main one, before the first rule
  pub files : new.sources ≡ old.sources
  -- what is numbered is never taken away, and an answer speaks of nothing that there is not
  pub grown : IsWithin (things old) (things new)
  pub within : IfOk result (λ answer. IsWithin (reaches answer) (things new))

-- the same of what is asked
abbrev pub Means : (what : What) → Result (AnswerTo what) Stop → Machine → Machine → Type 0
Means what result old new = Reads (the what) (from what old) (used_by (shape_of what)) (reach_of (shape_of what)) result old new

-- the same of a rule that nothing asks for, or of an act
abbrev pub Acts : {A : Type 0} → Rule A → Result A Stop → Machine → Machine → Type 0
Acts does result old new = Reads does (left old) (λ answer. 0) (λ answer. nothing) result old new

abbrev pub ActsValue : Rule Value → Result Value Stop → Machine → Machine → Type 0
ActsValue does result old new = Reads does (left old) (λ answer. 0) reach result old new

abbrev pub ActsSide : Rule ChainSide → Result ChainSide Stop → Machine → Machine → Type 0
ActsSide does result old new = Reads does (left old) (λ answer. 0) reach_of_side result old new

-- the same of a side, of which so many fronts were used before
abbrev pub GoesOn : Rule ChainSide → ℕ → Result ChainSide Stop → Machine → Machine → Type 0
GoesOn does before result old new = Reads does (left old + before) used_by_side reach_of_side result old new

-- the same of a rule that begins behind the front in hand
abbrev pub Uses : {A : Type 0} → Rule A → Result A Stop → Machine → Machine → Type 0
Uses does result old new = Reads does (coming old) (λ answer. 0) (λ answer. nothing) result old new

abbrev pub UsesValue : Rule Value → Result Value Stop → Machine → Machine → Type 0
UsesValue does result old new = Reads does (coming old) (λ answer. 0) reach result old new

-- the same, where the answer is a symbol or an internal
abbrev pub UsesSymbol : Rule ℕ → Result ℕ Stop → Machine → Machine → Type 0
UsesSymbol does result old new = Reads does (coming old) (λ answer. 0) one_symbol result old new

abbrev pub ActsInternal : Rule ℕ → Result ℕ Stop → Machine → Machine → Type 0
ActsInternal does result old new = Reads does (left old) (λ answer. 0) one_internal result old new

-- a definition that is read: its symbol, and what its body speaks of
abbrev pub reach_of_reading : Reading → Counts
reach_of_reading r = most (one_symbol r.symbol) (greatest reach_of_item r.body)

abbrev pub ActsReading : Rule Reading → Result Reading Stop → Machine → Machine → Type 0
ActsReading does result old new = Reads does (left old) (λ r. 0) reach_of_reading result old new

abbrev pub UsesReading : Rule Reading → Result Reading Stop → Machine → Machine → Type 0
UsesReading does result old new = Reads does (coming old) (λ r. 0) reach_of_reading result old new

-- the same of a part of a name
abbrev pub ActsPart : Rule (Option Part) → Result (Option Part) Stop → Machine → Machine → Type 0
ActsPart does result old new = Reads does (left old) used_by_part reach_of_maybe_part result old new

-- the same of the name of a variable, or of what was called in its place
abbrev pub UsesName : Rule Named → Result Named Stop → Machine → Machine → Type 0
UsesName does result old new = Reads does (coming old) (λ answer. 0) reach_of_named result old new

-- the same of a variable's value, if no macro was called in its place
abbrev pub reach_of_maybe_value : Option Value → Counts
reach_of_maybe_value None = nothing
reach_of_maybe_value (Some v) = reach v

abbrev pub UsesVariable : Rule (Option Value) → Result (Option Value) Stop → Machine → Machine → Type 0
UsesVariable does result old new = Reads does (coming old) (λ answer. 0) reach_of_maybe_value result old new

-- the same of what is answered to a call
abbrev pub ActsAnswer : Rule Answered → Result Answered Stop → Machine → Machine → Type 0
ActsAnswer does result old new = Reads does (left old) (λ answer. 0) (λ answer. greatest reach_of_item (items_of answer)) result old new

-- what comes of an item costs a step, and nothing where nothing was left
abbrev pub Advances : Result Step Stop → Machine → Machine → Type 0
Advances result old new = Reads advancing (left old) cost reach_of_step result old new

-- a macro is called, or asks for its first argument
abbrev pub Calls : Macro → List (List Item) → Result Step Stop → Machine → Machine → Type 0
Calls m got result old new = Reads (expanding (call m got)) (left old) (λ x. 0) reach_of_step result old new

-- a call that asks for more used the front behind its last argument
abbrev pub used_by_step : Step → ℕ
used_by_step (step.Want w) = 1
used_by_step x = 0

abbrev pub Answers : Answered → Result Step Stop → Machine → Machine → Type 0
Answers answer result old new = Reads (answering answer) (left old) used_by_step reach_of_step result old new

-- what was taken costs a step, and nothing where nothing was left
abbrev pub Took : Result (Option Pending) Stop → Machine → Machine → Type 0
Took result old new = Reads (expanding take_first) (left old) cost_of_first reach_of_first result old new
