use Rattle.std.proofs.Common.{◌≡◌, true, take}
use Rattle.mp_solver.specs.Storage.Rows.{IsListedFor, StaysListed}
use Rattle.mp_solver.proofs.rows.add_each.Given as goal

abbrev pub invariant-terms : goal.invariant-terms
invariant-terms l = record {
  stays : StaysListed l.fn.holders.items l.holders.items;
  added : l.all ≡ true → IsListedFor l.holders.items l.row (take l.term-index l.new);
}
