use Rattle.std.proofs.Common.{◌≡◌, ◌++◌}
use Rattle.mp_vartree.proofs.serials.listed.Given as goal

abbrev pub invariant-copy : goal.invariant-copy
invariant-copy l = l.serials ++ l.number-iterator ≡ l.numbers.keys
