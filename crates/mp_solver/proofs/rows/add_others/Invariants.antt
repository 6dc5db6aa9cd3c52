use Rattle.std.proofs.Common.{◌≡◌, ℕ, true, take, drop}
use Rattle.mp_solver.specs.Storage.Rows.{IsListedFor, StaysListed}
use Rattle.mp_solver.proofs.rows.add_others.Given as goal

abbrev pub invariant-terms : goal.invariant-terms
invariant-terms l = record {
  stays : StaysListed l.fn.holders.items l.holders.items;
  rest : (n : ℕ) × (l.rest ≡ drop n l.fn.old);
  added : l.all ≡ true → IsListedFor l.fn.holders.items l.row l.fn.old → IsListedFor l.holders.items l.row (take l.term-index l.new);
}
