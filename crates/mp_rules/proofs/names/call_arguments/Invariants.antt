use Rattle.std.proofs.Common.{◌≡◌, ◌++◌, ◌∷◌, drop, map}
use Rattle.mp_values.specs.Ends.{IsNoEnd}
use Rattle.mp_rules.specs.Rules.{item_of_part, name_items}
use Rattle.mp_rules.proofs.names.call_arguments.Given as goal

abbrev pub invariant-parts : goal.invariant-parts
invariant-parts l = record {
  made : l.before ++ l.last ∷ map item_of_part (drop l.part-index l.parts) ≡ name_items l.symbol l.parts;
  ends : IsNoEnd l.last;
}
