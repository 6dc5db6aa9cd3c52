-- What the text that is left, and the fronts in hand, speak of by number.
use Rattle.std.specs.Prelude.{⊤, List, Option, Some, None}
use Rattle.mp_values.specs.Ends.{IsNoEnd}
use Rattle.mp_values.specs.declared.item.Item as items
use Rattle.mp_values.specs.declared.turn.LeftOver.{LeftOver}
use Rattle.mp_values.specs.declared.turn.LeftOver.TheVariants.{Forever, Values, Suffixes, Steps}
use Rattle.mp_values.specs.declared.turn.Pending.{Pending}
use Rattle.mp_values.specs.declared.turn.Pending.TheVariants.{Item, Turn}
use Rattle.mp_acts.specs.Counts.{Counts, nothing, most, greatest, IsWithin}
use Rattle.mp_acts.specs.Reach.{reach, reach_of_item, reach_of_macro, reach_of_pair, one_symbol, one_internal}
use Rattle.mp_values.specs.declared.macros.Macro.{Macro}
use Rattle.mp_values.specs.declared.value.Value.{Value}
use Rattle.mp_expand.specs.Expansion.{Expansion}
use Rattle.mp_expand.specs.declared.front.Front.{Front}
use Rattle.mp_expand.specs.declared.front.Front.TheVariants as front
use Rattle.mp_expand.specs.declared.request.Behind.{Behind}
use Rattle.mp_expand.specs.declared.request.Behind.TheVariants as behind
use Rattle.mp_expand.specs.declared.request.Call.{Call}
use Rattle.mp_expand.specs.declared.request.Need.{Need}
use Rattle.mp_expand.specs.declared.request.Need.TheVariants as need
use Rattle.mp_expand.specs.declared.request.Request.{Request}
use Rattle.mp_expand.specs.declared.request.Request.TheVariants as request
use Rattle.mp_expand.specs.declared.request.Until.{Until}
use Rattle.mp_expand.specs.declared.request.Until.TheVariants as until
use Rattle.mp_expand.specs.declared.step.Step.{Step}
use Rattle.mp_expand.specs.declared.step.Step.TheVariants as step
use Rattle.mp_rules.specs.declared.front.Raw.{Raw}
use Rattle.mp_rules.specs.declared.front.Raw.TheVariants as raw
use Rattle.mp_rules.specs.declared.front.Taken.{Taken}
use Rattle.mp_rules.specs.declared.front.Taken.TheVariants as taken

-- what a loop still goes over
abbrev pub reach_of_left_over : LeftOver → Counts
reach_of_left_over Forever = nothing
reach_of_left_over (Values values) = greatest reach values
reach_of_left_over (Suffixes suffixes) = greatest (greatest reach_of_item) suffixes
reach_of_left_over (Steps next by until) = nothing

abbrev pub reach_of_pending : Pending → Counts
reach_of_pending (Item x) = reach_of_item x
reach_of_pending (Turn turn) = most (reach_of_left_over turn.left_over) (greatest reach_of_item turn.body)

abbrev pub reach_of_text : List Pending → Counts
reach_of_text text = greatest reach_of_pending text

-- what was first in a text, if there was anything
abbrev pub reach_of_first : Option Pending → Counts
reach_of_first None = nothing
reach_of_first (Some x) = reach_of_pending x

abbrev pub reach_of_raw : Raw → Counts
reach_of_raw (raw.Symbol symbol) = one_symbol symbol
reach_of_raw raw.Number = nothing
reach_of_raw raw.Text = nothing
reach_of_raw raw.Value = nothing
reach_of_raw raw.EndOfText = nothing

abbrev pub reach_of_taken : Taken → Counts
reach_of_taken (taken.Raw x) = reach_of_raw x
reach_of_taken (taken.Bad cause) = nothing
reach_of_taken taken.Passed = nothing

abbrev pub reach_of_front : Front → Counts
reach_of_front (front.Number n) = nothing
reach_of_front front.Text = nothing
reach_of_front front.Capsule = nothing
reach_of_front (front.Word symbol w) = one_symbol symbol
reach_of_front (front.Tag symbol) = one_symbol symbol
reach_of_front (front.Internal symbol k) = most (one_symbol symbol) (one_internal k)
reach_of_front (front.Operator symbol) = one_symbol symbol
reach_of_front (front.Left symbol pair) = most (one_symbol symbol) (reach_of_pair pair)
reach_of_front (front.Right symbol pair) = most (one_symbol symbol) (reach_of_pair pair)
reach_of_front front.EndOfText = nothing

abbrev pub reach_of_held : Option Front → Counts
reach_of_held None = nothing
reach_of_held (Some x) = reach_of_front x

-- the delimiters of a call
abbrev pub reach_of_behind : Behind → Counts
reach_of_behind (behind.Delimiter pair) = reach_of_pair pair
reach_of_behind behind.Of = nothing
reach_of_behind behind.Anything = nothing

abbrev pub reach_of_until : Until → Counts
reach_of_until (until.Delimiter pair) = reach_of_pair pair
reach_of_until until.Statement = nothing

abbrev pub reach_of_need : Need → Counts
reach_of_need (need.Opening kind) = nothing
reach_of_need (need.Answer b) = reach_of_behind b
reach_of_need (need.Text u depth) = reach_of_until u

-- a call: its body, its arguments, and what was read of a text
abbrev pub reach_of_call : Call → Counts
reach_of_call c = most (most (reach_of_macro c.called) (greatest (greatest reach_of_item) c.got)) (greatest reach_of_item c.text)

-- a condition speaks of nothing
abbrev pub reach_of_request : Request → Counts
reach_of_request (request.Call c need) = most (reach_of_call c) (reach_of_need need)
reach_of_request (request.Truth w) = nothing
reach_of_request request.Colon = nothing
reach_of_request (request.Skip skip depth) = nothing

-- the text that is left, and what waits for more of it
abbrev pub reach_of_expansion : Expansion → Counts
reach_of_expansion e = most (reach_of_text e.text) (greatest reach_of_request e.requests)

-- a macro, if there is one
abbrev pub reach_of_maybe_macro : Option Macro → Counts
reach_of_maybe_macro None = nothing
reach_of_maybe_macro (Some m) = reach_of_macro m

-- an item, if there is one
abbrev pub reach_of_maybe_item : Option items.Item → Counts
reach_of_maybe_item None = nothing
reach_of_maybe_item (Some x) = reach_of_item x

abbrev pub IsNoEndOrNone : Option items.Item → Type 0
IsNoEndOrNone None = ⊤
IsNoEndOrNone (Some x) = IsNoEnd x

-- what comes of one more item
abbrev pub reach_of_step : Step → Counts
reach_of_step step.More = nothing
reach_of_step (step.Front x) = reach_of_front x
reach_of_step (step.Text bytes) = nothing
reach_of_step (step.Capsule v) = reach v
reach_of_step (step.Want w) = nothing

-- what is to be read speaks of what there is
pub record IsReadable (expander : Expansion) (front : Front) (held : Option Front) (value : Value) (there : Counts) : Type 0 where
  pub within_text : IsWithin (reach_of_expansion expander) there
  pub within_front : IsWithin (reach_of_front front) there
  pub within_held : IsWithin (reach_of_held held) there
  pub within_value : IsWithin (reach value) there
