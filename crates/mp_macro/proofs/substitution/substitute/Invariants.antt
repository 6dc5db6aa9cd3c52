use Rattle.std.proofs.Common.{◌≡◌, ◌++◌, drop}
use Rattle.mp_values.specs.Ends.{NoEnds}
use Rattle.mp_values.specs.Substitution as substitution
use Rattle.mp_macro.proofs.substitution.substitute.Given as goal

abbrev pub invariant-body : goal.invariant-body
invariant-body l = record {
  made : l.items ++ substitution.substitute (drop l.item-index l.fn.body) l.arguments ≡ substitution.substitute l.fn.body l.arguments;
  ends : NoEnds (drop l.item-index l.fn.body);
}
