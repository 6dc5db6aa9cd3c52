-- Where a run over a text starts, and the whole of it.
use Rattle.std.specs.Prelude.{List, [], None, map}
use Rattle.mp_files.specs.declared.outside.Kept.{Kept}
use Rattle.mp_values.specs.Outcome.{◌>>=◌}
use Rattle.mp_values.specs.declared.value.Value.TheVariants.{Vacuous}
use Rattle.mp_acts.specs.State.{State}
use Rattle.mp_rules.specs.Machine.{Machine, Rule}
use Rattle.mp_rules.specs.Rules.{Rules, NextFront, Statements}
use Rattle.mp_expand.specs.Expansion.{Expansion}
use Rattle.mp_expand.specs.declared.front.Front.TheVariants as front

-- before the first front of a text, when these sources were asked for
abbrev pub start_on : List Kept → Expansion → State → Machine
start_on sources expander acts = record {
  sources = sources;
  asked = map (λ k. k.name) sources;
  expander = expander;
  front = front.EndOfText;
  held = None;
  string = [];
  value = Vacuous;
  acts = acts;
}

-- statements, from the first front on
abbrev pub whole : Rules → Rule (Unit {0})
whole rule = do
  first ← rule NextFront
  rule Statements
