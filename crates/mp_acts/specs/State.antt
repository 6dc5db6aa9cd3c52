-- What statements act on.
use Rattle.std.specs.Prelude.{ℕ, ℤ, pos, List, [], Option, unwrap_or, length, slice_get}
use Rattle.mp_symbols.specs.Names.{name_in, meaning_in}
use Rattle.mp_symbols.specs.Tables.{Table}
use Rattle.mp_solver.specs.States.{States, Unknowns}
use Rattle.mp_solver.specs.Replay.{Event, unknowns_made, equations_accepted}
use Rattle.mp_values.specs.declared.meaning.Meaning.{Meaning}
use Rattle.mp_values.specs.declared.meaning.Meaning.TheVariants.{NewTag}
use Rattle.mp_values.specs.declared.value.Value.{Value}
use Rattle.mp_vartree.specs.Variables.{Variables}
use Rattle.mp_acts.specs.Counts.{Counts}

pub record State : Type 0 where
  -- names with their meanings, internals, and what the open groups give back
  pub symbols : Table Meaning
  -- the variables and what was declared of them
  pub variables : Variables
  -- the slots of variables that were read without a value and are no numbers: what each was filled with, if it was
  pub slots : List (Option Value)
  -- the unknowns that were made, and what the equations so far say of them
  pub unknowns : Unknowns
  -- what made the unknowns what they are, in order: each unknown that was made, with its name, and each equation
  -- that was accepted. That a name is taken away is none
  pub events : List Event
  -- the lines so far
  pub lines : List ℕ
  -- the name of the run's job
  pub job : List ℕ

-- the number of unknowns that values can speak of
abbrev pub unknown_count : State → ℕ
unknown_count s = length s.unknowns.states

-- the number of names that have symbols
abbrev pub symbol_count : State → ℕ
symbol_count s = length s.symbols.names

abbrev pub internal_count : State → ℕ
internal_count s = length s.symbols.internals

abbrev pub counts_of : States → List (Option Value) → Table Meaning → Counts
counts_of unknowns slots symbols = record {
  unknowns = length unknowns;
  slots = length slots;
  symbols = length symbols.names;
  internals = length symbols.internals;
}

-- how many unknowns, slots, symbols and internals there are
abbrev pub counts : State → Counts
counts s = counts_of s.unknowns.states s.slots s.symbols

-- the number of unknowns that were made
abbrev pub made_unknowns : State → ℕ
made_unknowns s = unknowns_made s.events

-- the number of equations that were accepted
abbrev pub accepted_equations : State → ℕ
accepted_equations s = equations_accepted s.events

-- the name of a symbol
abbrev pub symbol_name : State → ℕ → List ℕ
symbol_name s symbol = unwrap_or (name_in s.symbols.names symbol) []

-- the meaning of a symbol
abbrev pub symbol_meaning : State → ℕ → Meaning
symbol_meaning s symbol = unwrap_or (meaning_in s.symbols.names symbol) NewTag

-- the value of an internal, in units of 2^-16
abbrev pub internal_value : State → ℕ → ℤ
internal_value s k = unwrap_or (slice_get s.symbols.internals k) (pos 0)
