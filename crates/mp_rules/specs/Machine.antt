-- What a rule reads and changes.
use Rattle.std.specs.Prelude.{ℕ, List, Option, Some, None, ◌-◌, ◌+◌}
use Rattle.mp_files.specs.declared.outside.Kept.{Kept}
use Rattle.mp_values.specs.Outcome.{OutcomeBy, RuleBy, Cause}
use Rattle.mp_values.specs.declared.value.Value.{Value}
use Rattle.mp_acts.specs.Counts.{Counts}
use Rattle.mp_acts.specs.State.{State, counts}
use Rattle.mp_expand.specs.Expansion.{Expansion}
use Rattle.mp_expand.specs.declared.front.Front.{Front}
use Rattle.mp_expand.specs.declared.front.Front.TheVariants as front

pub record Machine : Type 0 where
  -- the sources that the run was given, and the names that it asked for, each once, in their order
  pub sources : List Kept
  pub asked : List (List ℕ)
  -- the text that is left, with the calls of macros that are not yet whole
  pub expander : Expansion
  -- the front in hand: the first of the phrase that is to be read, or the one behind what was read
  pub front : Front
  -- a front that was got already: the one behind a slash in hand
  pub held : Option Front
  -- the bytes of the front in hand, where that is a string
  pub string : List ℕ
  -- the value that it stands for, where it is one that was evaluated
  pub value : Value
  -- what statements act on
  pub acts : State

-- what comes of a rule
abbrev pub Outcome : Type 0 → Type 0
Outcome A = OutcomeBy Cause Machine A

abbrev pub Rule : Type 0 → Type 0
Rule A = RuleBy Cause Machine A

-- a front took a step, but for the end of the text
abbrev pub weight : Front → ℕ
weight front.EndOfText = 0
weight x = 1

abbrev pub held_weight : Option Front → ℕ
held_weight None = 0
held_weight (Some x) = weight x

-- how many fronts may still be got
abbrev pub coming : Machine → ℕ
coming s = (s.expander.budget - s.expander.steps) + held_weight s.held

-- how many may still be used: with the one in hand
abbrev pub left : Machine → ℕ
left s = coming s + weight s.front

-- how many unknowns, slots, symbols and internals there are
abbrev pub things : Machine → Counts
things s = counts s.acts
