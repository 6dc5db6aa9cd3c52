-- The single steps of a run.
use Rattle.std.specs.Prelude.{ℕ, List, [], Ok, Err, Option, Some, None}
use Rattle.mp_report.specs.declared.place.Place.{Place}
use Rattle.mp_values.specs.Outcome.{OutcomeBy, Cause, Refused}
use Rattle.mp_values.specs.Outcome as act
use Rattle.mp_values.specs.declared.item.Item.{Item}
use Rattle.mp_values.specs.declared.item.Item.TheVariants as item
use Rattle.mp_values.specs.declared.value.Value.{Value}
use Rattle.mp_values.specs.declared.value.Value.TheVariants.{Vacuous}
use Rattle.mp_values.specs.declared.word.Secondary.TheVariants.{Over}
use Rattle.mp_values.specs.declared.word.Word.TheVariants.{Secondary}
use Rattle.mp_acts.specs.State.{State, internal_value}
use Rattle.mp_acts.specs.Numbers.{known_number}
use Rattle.mp_expand.specs.Expansion.{Expansion}
use Rattle.mp_expand.specs.Expansion as expand
use Rattle.mp_expand.specs.Steps.{place_of as place_in_text}
use Rattle.mp_expand.specs.Steps as expander
use Rattle.mp_expand.specs.Advance.{answered}
use Rattle.mp_expand.specs.declared.front.Front.{Front}
use Rattle.mp_expand.specs.declared.front.Front.TheVariants as front
use Rattle.mp_expand.specs.declared.step.Answer.{Answer}
use Rattle.mp_expand.specs.declared.step.Step.{Step}
use Rattle.mp_rules.specs.Machine.{Machine, Outcome, Rule}
use Rattle.mp_rules.specs.Fronts.{refused_front, refused_raw}
use Rattle.mp_rules.specs.declared.front.Raw.{Raw}

-- EXPANSION AND ACTS, WITHIN A RUN

abbrev pub in_text : {A : Type 0} → Machine → OutcomeBy Cause Expansion A → Outcome A
in_text s (Ok x) = Ok (x.0, record s { expander = x.1 })
in_text s (Err e) = Err (e.0, record s { expander = e.1 })

-- what the expander does, within a run
abbrev pub expanding : {A : Type 0} → expand.Rule A → Rule A
expanding does s = in_text s (does s.expander)

abbrev pub in_machine : {A : Type 0} → Machine → act.Outcome State A → Outcome A
in_machine s (Ok x) = Ok (x.0, record s { acts = x.1 })
in_machine s (Err e) = Err (Refused e.0, record s { acts = e.1 })

-- an act, within a run; what it refuses stops the run
abbrev pub acting : {A : Type 0} → act.Rule State A → Rule A
acting act s = in_machine s (act s.acts)

-- the place of an error
abbrev pub place_of : Machine → Place
place_of s = place_in_text s.expander

-- a primary was read
abbrev pub leave : Machine → Machine
leave s = record s { expander = expander.leave s.expander }

-- THE FRONT IN HAND

-- a front is in hand
abbrev pub see : Front → Machine → Machine
see x s = record s { front = x }

-- a string is in hand
abbrev pub see_string : List ℕ → Machine → Machine
see_string bytes s = record s { front = front.Text; string = bytes }

-- a value is in hand
abbrev pub see_value : Value → Machine → Machine
see_value v s = record s { front = front.Capsule; value = v }

-- a slash that stands in no fraction is in hand, and the front behind it is the next front
abbrev pub hold : ℕ → Machine → Machine
hold slash s = record s { front = front.Word slash (Secondary Over); held = Some s.front }

-- the bytes of the string in hand, which are used up
abbrev pub string_in_hand : Rule (List ℕ)
string_in_hand s = Ok (s.string, record s { string = [] })

-- the value in hand, which is used up
abbrev pub value_in_hand : Rule Value
value_in_hand s = Ok (s.value, record s { value = Vacuous })

-- a front as an item of the text: a string and a value by what is in hand. The end of the text is none
abbrev pub item_in_hand : List ℕ → Value → Front → Option Item
item_in_hand bytes v (front.Number n) = Some (item.Number n)
item_in_hand bytes v front.Text = Some (item.Text bytes)
item_in_hand bytes v front.Capsule = Some (item.Capsule v)
item_in_hand bytes v (front.Word symbol w) = Some (item.Symbol symbol)
item_in_hand bytes v (front.Tag symbol) = Some (item.Symbol symbol)
item_in_hand bytes v (front.Internal symbol k) = Some (item.Symbol symbol)
item_in_hand bytes v (front.Operator symbol) = Some (item.Symbol symbol)
item_in_hand bytes v (front.Left symbol pair) = Some (item.Symbol symbol)
item_in_hand bytes v (front.Right symbol pair) = Some (item.Symbol symbol)
item_in_hand bytes v front.EndOfText = None

abbrev pub item_held : List ℕ → Value → Option Front → Option Item
item_held bytes v (Some x) = item_in_hand bytes v x
item_held bytes v None = None

abbrev pub put_back : Option Item → Machine → Machine
put_back (Some x) s = record s { expander = expander.put_back x s.expander }
put_back None s = s

abbrev pub put_held_back : Machine → Machine
put_held_back s = put_back (item_held s.string s.value s.held) (record s { held = None })

abbrev pub put_front_back : Machine → Machine
put_front_back s = put_back (item_in_hand s.string s.value s.front) (see front.EndOfText s)

-- what is in hand comes to stand in front of the text again: a front, or a slash and the front that is held behind it
abbrev pub put_hand_back : Machine → Machine
put_hand_back s = put_front_back (put_held_back s)

-- behind a left bracket that is no part of a suffix: it, the value that was read behind it, and what is in hand
abbrev pub put_bracket_back : ℕ → Value → Machine → Machine
put_bracket_back bracket v s = put_back (Some (item.Symbol bracket)) (put_back (Some (item.Capsule v)) (put_hand_back s))

-- the answer to a call that waits for it, with the front in hand, which is used up
abbrev pub answering : Answer → Rule Step
answering a s = in_text (see front.EndOfText s) (answered s.acts.symbols.names a s.front s.expander)

-- the value of an internal
abbrev pub internal_number : ℕ → Rule Value
internal_number k s = Ok (known_number (internal_value s.acts k), s)

-- the front in hand is refused where something else was wanted
abbrev pub unexpected : {A : Type 0} → List ℕ → Rule A
unexpected wanted s = Err (refused_front wanted s, s)

-- a raw item is refused where something else was wanted
abbrev pub unexpected_raw : {A : Type 0} → List ℕ → Raw → Rule A
unexpected_raw wanted x s = Err (refused_raw wanted x s, s)
