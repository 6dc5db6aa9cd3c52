use Rattle.std.proofs.Common.{◌≡◌, ◌++◌, drop}
use Rattle.mp_values.specs.Ends.{NoEnds}
use Rattle.mp_macro.proofs.substitution.append.Given as goal

abbrev pub invariant-items : goal.invariant-items
invariant-items l = record {
  made : l.to ++ drop l.item-index l.items ≡ l.fn.to ++ l.items;
  ends : NoEnds (drop l.item-index l.items);
}
