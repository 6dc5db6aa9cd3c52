-- Laws of expansion: it invents no item, and each item that it takes is counted.
use Rattle.std.specs.Prelude.{◌≡◌, ◌≢◌, ◌≤◌, ◌<◌, ⊤, ℕ, ◌+◌, ◌-◌, List, Option, Some, None, Ok, Err}
use Rattle.std.specs.List.{All}
use Rattle.mp_tokens.specs.declared.token.Token.{Token}
use Rattle.mp_values.specs.Items.{file_items}
use Rattle.mp_values.specs.Outcome.{Cause, OutcomeBy, Refused, OutOfSteps, Unread}
use Rattle.mp_values.specs.Substitution.{substitute}
use Rattle.mp_values.specs.declared.item.Item.{Item}
use Rattle.mp_values.specs.declared.macros.Macro.{Macro}
use Rattle.mp_values.specs.declared.turn.Pending.{Pending}
use Rattle.mp_expand.specs.Expansion.{Expansion, IsLeft}
use Rattle.mp_expand.specs.Steps.{take_first, enter, put_back, start}
use Rattle.mp_expand.specs.Fronts.{Table}
use Rattle.mp_expand.specs.Calls.{call}
use Rattle.mp_expand.specs.Advance.{advance, answered, items_of}
use Rattle.mp_expand.specs.Holds.{Holds, HoldsTable, HoldsFirst, HoldsStep, HoldsAfter}
use Rattle.mp_expand.specs.declared.front.Front.{Front}
use Rattle.mp_expand.specs.declared.front.Front.TheVariants as front
use Rattle.mp_expand.specs.declared.step.Answer.{Answer}
use Rattle.mp_expand.specs.declared.step.Step.{Step}
use Rattle.mp_expand.specs.declared.step.Step.TheVariants as step

-- NO ITEM IS INVENTED

-- what holds of each item that there is holds of each that is left and given
pub record InventsNothingOf (P : Item → Type 0) (N : ℕ → Type 0) : Type 0 where
  pub taken : (s : Expansion) → Holds P N s → HoldsAfter P N (HoldsFirst P N) (take_first s)
  pub advanced : (table : Table) (s : Expansion) → HoldsTable P N table → Holds P N s → HoldsAfter P N (HoldsStep P N) (advance table s)
  pub answered : (table : Table) (a : Answer) (x : Front) (s : Expansion) → All P (items_of a) → Holds P N s
      → HoldsAfter P N (HoldsStep P N) (answered table a x s)
  pub called : (m : Macro) (got : List (List Item)) (s : Expansion) → All P m.body → All (All P) got → Holds P N s
      → HoldsAfter P N (HoldsStep P N) (call m got s)
  pub entered : (s : Expansion) → Holds P N s → HoldsAfter P N (λ entered. ⊤) (enter s)
  pub put_back : (x : Item) (s : Expansion) → P x → Holds P N s → Holds P N (put_back x s)
  pub started : (file : ℕ) (tokens : List Token) (s : Expansion) → All P (file_items file tokens) → Holds P N s → Holds P N (start file tokens s)
  -- where memory ran out
  pub lost : (s t : Expansion) → IsLeft s t → Holds P N s → Holds P N t
  pub substituted : (body : List Item) (arguments : List (List Item)) → All P body → All (All P) arguments → All P (substitute body arguments)

-- so whatever number items have, it stays within what bounds it, and so do the numbers of internals
abbrev pub InventsNothing : Type 0
InventsNothing = (f : Item → ℕ) (n m : ℕ) → InventsNothingOf (λ x. f x ≤ n) (λ k. k < m)

-- STEPS ARE COUNTED

-- one for all but the end of the text
abbrev pub cost : Step → ℕ
cost (step.Front front.EndOfText) = 0
cost x = 1

-- one for all but nothing
abbrev pub cost_of_first : Option Pending → ℕ
cost_of_first (Some x) = 1
cost_of_first None = 0

-- the items that may still be taken
abbrev pub unused : Expansion → ℕ
unused s = s.budget - s.steps

abbrev pub IsRefused : Cause → Type 0
IsRefused (Refused error) = ⊤
IsRefused other = ⊥

-- where it is out of steps the budget is used up; no file is asked for
abbrev pub IsSpent : Cause → Expansion → Type 0
IsSpent (Refused error) t = ⊤
IsSpent OutOfSteps t = t.budget ≤ t.steps
IsSpent (Unread name) t = ⊥

-- what an answer costs was paid
abbrev pub Pays : {A : Type 0} → (A → ℕ) → Expansion → OutcomeBy Cause Expansion A → Type 0
Pays price s (Ok x) = (x.1.budget ≡ s.budget) × (unused x.1 + price x.0 ≤ unused s)
Pays price s (Err e) = (e.1.budget ≡ s.budget) × (unused e.1 ≤ unused s) × IsSpent e.0 e.1

-- no step was taken, and only the source is refused; the answer is as Q says
abbrev pub IsFree : {A : Type 0} → (A → Type 0) → Expansion → OutcomeBy Cause Expansion A → Type 0
IsFree Q s (Ok x) = (x.1.budget ≡ s.budget) × (x.1.steps ≡ s.steps) × Q x.0
IsFree Q s (Err e) = (e.1.budget ≡ s.budget) × (e.1.steps ≡ s.steps) × IsRefused e.0

-- what may come of a call: no front
abbrev pub GoesOn : Step → Type 0
GoesOn step.More = ⊤
GoesOn (step.Want w) = ⊤
GoesOn other = ⊥

-- what may come of an answer: no front either, and behind the end of the text nothing is asked for
abbrev pub MayFollow : Front → Step → Type 0
MayFollow x step.More = ⊤
MayFollow x (step.Want w) = x ≢ front.EndOfText
MayFollow x other = ⊥

pub record StepsAreCounted : Type 0 where
  pub taken : (s : Expansion) → Pays cost_of_first s (take_first s)
  pub advanced : (table : Table) (s : Expansion) → Pays cost s (advance table s)
  pub answered : (table : Table) (a : Answer) (x : Front) (s : Expansion) → IsFree (MayFollow x) s (answered table a x s)
  pub called : (m : Macro) (got : List (List Item)) (s : Expansion) → IsFree GoesOn s (call m got s)
  pub entered : (s : Expansion) → IsFree (λ entered. ⊤) s (enter s)
