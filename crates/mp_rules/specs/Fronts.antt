-- Items as they stand, and what is said of items and fronts that stood where something else was wanted.
use Rattle.std.specs.Prelude.{ℕ, List, Option, Some, None, codes}
use Rattle.mp_values.specs.Outcome.{Cause}
use Rattle.mp_values.specs.Refusals.{unexpected}
use Rattle.mp_values.specs.declared.item.Item.{Item}
use Rattle.mp_values.specs.declared.item.Item.TheVariants as item
use Rattle.mp_values.specs.declared.turn.Pending.{Pending}
use Rattle.mp_values.specs.declared.turn.Pending.TheVariants as pending
use Rattle.mp_acts.specs.State.{State, symbol_name}
use Rattle.mp_expand.specs.Fronts.{stood}
use Rattle.mp_rules.specs.Machine.{Machine}
use Rattle.mp_rules.specs.declared.front.Raw.{Raw}
use Rattle.mp_rules.specs.declared.front.Raw.TheVariants as raw
use Rattle.mp_rules.specs.declared.front.Taken.{Taken}
use Rattle.mp_rules.specs.declared.front.Taken.TheVariants as taken

-- what was taken off the text, where items are read as they stand: ends of lines and of files are passed over.
-- (No text has a parameter, and nothing puts a turn into one yet.)
abbrev pub taken_item : Item → Taken
taken_item (item.Symbol symbol) = taken.Raw (raw.Symbol symbol)
taken_item (item.Number n) = taken.Raw raw.Number
taken_item (item.Text bytes) = taken.Raw raw.Text
taken_item (item.Bad cause) = taken.Bad cause
taken_item (item.Capsule v) = taken.Raw raw.Value
taken_item (item.Param number) = taken.Passed
taken_item (item.LineEnd place) = taken.Passed
taken_item item.FileEnd = taken.Passed
taken_item item.EndOfText = taken.Passed

abbrev pub taken_as : Option Pending → Taken
taken_as (Some (pending.Item x)) = taken_item x
taken_as (Some (pending.Turn turn)) = taken.Passed
taken_as None = taken.Raw raw.EndOfText

-- the refusal of the front in hand where something else was wanted
abbrev pub refused_front : List ℕ → Machine → Cause
refused_front wanted s = unexpected wanted (stood s.acts.symbols.names s.front)

-- the same of a raw item
abbrev pub raw_stood : State → Raw → List ℕ
raw_stood acts (raw.Symbol symbol) = symbol_name acts symbol
raw_stood acts raw.Number = codes "number"
raw_stood acts raw.Text = codes "string"
raw_stood acts raw.Value = codes "value"
raw_stood acts raw.EndOfText = codes "end of text"

abbrev pub refused_raw : List ℕ → Raw → Machine → Cause
refused_raw wanted x s = unexpected wanted (raw_stood s.acts x)
