-- The sides of a chain of equations and assignments.
use Rattle.std.specs.Prelude.{List, [], ◌∷◌}
use Rattle.mp_values.specs.Outcome.{Rule, ◌>>=◌, give}
use Rattle.mp_values.specs.declared.value.Value.{Value}
use Rattle.mp_acts.specs.Counts.{Counts, greatest}
use Rattle.mp_acts.specs.State.{State}
use Rattle.mp_acts.specs.Reach.{reach, reach_of_target}
use Rattle.mp_acts.specs.Equations.{equation}
use Rattle.mp_acts.specs.Variables.{assign}
use Rattle.mp_rules.specs.declared.chain_side.ChainSide.{ChainSide}
use Rattle.mp_rules.specs.declared.chain_side.ChainSide.TheVariants as side

-- a side gets a value: a value is equated with it, a target is assigned it
abbrev pub gets : ChainSide → Value → Rule State (Unit {0})
gets (side.Value left) v = equation left v
gets (side.Target target) v = assign target v

-- each side gets the value, the last one first; they are given from the last to the first
unfoldable pub settle : List ChainSide → Value → Rule State (Unit {0})
settle [] v = give tt
settle (last ∷ sides) v = do
  done ← gets last v
  settle sides v

abbrev pub reach_of_side : ChainSide → Counts
reach_of_side (side.Value v) = reach v
reach_of_side (side.Target target) = reach_of_target target

abbrev pub reach_of_sides : List ChainSide → Counts
reach_of_sides sides = greatest reach_of_side sides
