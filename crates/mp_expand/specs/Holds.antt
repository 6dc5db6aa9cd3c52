-- That each item which an expansion speaks of is such as P says, and each symbol, as an item; and each internal, by its
-- number, such as N says.
use Rattle.std.specs.Prelude.{⊤, ℕ, Option, Some, None, Ok, Err}
use Rattle.std.specs.List.{All}
use Rattle.mp_values.specs.Outcome.{Cause, OutcomeBy}
use Rattle.mp_values.specs.declared.item.Item.{Item}
use Rattle.mp_values.specs.declared.item.Item.TheVariants as item
use Rattle.mp_values.specs.declared.meaning.Delimiters.{Delimiters}
use Rattle.mp_values.specs.declared.meaning.Meaning.{Meaning}
use Rattle.mp_values.specs.declared.meaning.Meaning.TheVariants as meaning
use Rattle.mp_values.specs.declared.turn.LeftOver.{LeftOver}
use Rattle.mp_values.specs.declared.turn.LeftOver.TheVariants as left_over
use Rattle.mp_values.specs.declared.turn.Pending.{Pending}
use Rattle.mp_values.specs.declared.turn.Pending.TheVariants as pending
use Rattle.mp_expand.specs.Expansion.{Expansion}
use Rattle.mp_expand.specs.Fronts.{Table}
use Rattle.mp_expand.specs.declared.front.Front.{Front}
use Rattle.mp_expand.specs.declared.front.Front.TheVariants as front
use Rattle.mp_expand.specs.declared.request.Behind.{Behind}
use Rattle.mp_expand.specs.declared.request.Behind.TheVariants as behind
use Rattle.mp_expand.specs.declared.request.Call.{Call}
use Rattle.mp_expand.specs.declared.request.Need.{Need}
use Rattle.mp_expand.specs.declared.request.Need.TheVariants as need
use Rattle.mp_expand.specs.declared.request.Request.{Request}
use Rattle.mp_expand.specs.declared.request.Request.TheVariants as request
use Rattle.mp_expand.specs.declared.request.Until.{Until}
use Rattle.mp_expand.specs.declared.request.Until.TheVariants as until
use Rattle.mp_expand.specs.declared.step.Step.{Step}
use Rattle.mp_expand.specs.declared.step.Step.TheVariants as step

module _ (P : Item → Type 0) (N : ℕ → Type 0) where
  -- THE TEXT

  -- what a loop still goes over: its values are held as capsules
  abbrev pub HoldsLeftOver : LeftOver → Type 0
  HoldsLeftOver (left_over.Values values) = All (λ v. P (item.Capsule v)) values
  HoldsLeftOver (left_over.Suffixes suffixes) = All (All P) suffixes
  HoldsLeftOver other = ⊤

  abbrev pub HoldsPending : Pending → Type 0
  HoldsPending (pending.Item x) = P x
  HoldsPending (pending.Turn turn) = All P turn.body × HoldsLeftOver turn.left_over

  -- what was taken off the text, if anything was
  abbrev pub HoldsFirst : Option Pending → Type 0
  HoldsFirst (Some x) = HoldsPending x
  HoldsFirst None = ⊤

  -- THE CALLS

  abbrev pub HoldsPair : Delimiters → Type 0
  HoldsPair pair = P (item.Symbol pair.left) × P (item.Symbol pair.right)

  abbrev pub HoldsBehind : Behind → Type 0
  HoldsBehind (behind.Delimiter pair) = HoldsPair pair
  HoldsBehind other = ⊤

  abbrev pub HoldsUntil : Until → Type 0
  HoldsUntil (until.Delimiter pair) = HoldsPair pair
  HoldsUntil until.Statement = ⊤

  abbrev pub HoldsNeed : Need → Type 0
  HoldsNeed (need.Opening k) = ⊤
  HoldsNeed (need.Answer b) = HoldsBehind b
  HoldsNeed (need.Text u depth) = HoldsUntil u

  pub record HoldsCall (c : Call) : Type 0 where
    pub body : All P c.called.body
    pub got : All (All P) c.got
    pub text : All P c.text

  -- what conditions wait for holds no items
  abbrev pub HoldsRequest : Request → Type 0
  HoldsRequest (request.Call c n) = HoldsCall c × HoldsNeed n
  HoldsRequest other = ⊤

  pub record Holds (s : Expansion) : Type 0 where
    pub text : All HoldsPending s.text
    pub requests : All HoldsRequest s.requests

  -- THE NAMES

  abbrev pub HoldsMeaning : Meaning → Type 0
  HoldsMeaning (meaning.Internal k) = N k
  HoldsMeaning (meaning.Left pair) = HoldsPair pair
  HoldsMeaning (meaning.Right pair) = HoldsPair pair
  HoldsMeaning (meaning.Macro m) = All P m.body
  HoldsMeaning other = ⊤

  abbrev pub HoldsTable : Table → Type 0
  HoldsTable table = All (λ entry. HoldsMeaning entry.1) table

  -- STEPS

  abbrev pub HoldsFront : Front → Type 0
  HoldsFront (front.Word symbol w) = P (item.Symbol symbol)
  HoldsFront (front.Tag symbol) = P (item.Symbol symbol)
  HoldsFront (front.Internal symbol k) = P (item.Symbol symbol) × N k
  HoldsFront (front.Operator symbol) = P (item.Symbol symbol)
  HoldsFront (front.Left symbol pair) = P (item.Symbol symbol) × HoldsPair pair
  HoldsFront (front.Right symbol pair) = P (item.Symbol symbol) × HoldsPair pair
  HoldsFront other = ⊤

  abbrev pub HoldsStep : Step → Type 0
  HoldsStep (step.Front x) = HoldsFront x
  HoldsStep (step.Capsule v) = P (item.Capsule v)
  HoldsStep other = ⊤

  -- what is left holds it, and so does the answer, as Q says
  abbrev pub HoldsAfter : {A : Type 0} → (A → Type 0) → OutcomeBy Cause Expansion A → Type 0
  HoldsAfter Q (Ok x) = Q x.0 × Holds x.1
  HoldsAfter Q (Err e) = Holds e.1
