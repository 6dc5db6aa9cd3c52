use Rattle.std.proofs.Common.{◌≡◌, ◌++◌, drop, map}
use Rattle.mp_rules.specs.Rules.{item_of_part}
use Rattle.mp_rules.proofs.names.append_parts.Given as goal

abbrev pub invariant-parts : goal.invariant-parts
invariant-parts l = record {
  made : l.to ++ map item_of_part (drop l.part-index l.parts) ≡ l.fn.to ++ map item_of_part l.parts;
}
