use Rattle.std.proofs.Common.{◌≡◌}
use Rattle.mp_solver.proofs.rows.make_room.Given as goal

abbrev pub invariant-terms : goal.invariant-terms
invariant-terms l = l.holders.items ≡ l.fn.holders.items
