use Rattle.std.proofs.Common.{◌≡◌, ℕ, ◌<◌, length, get_or}
use Rattle.mp_solver.proofs.rows.all_rows.Given as goal

abbrev pub invariant-rows : goal.invariant-rows
invariant-rows l = record {
  count : length l.rows.items ≡ l.row;
  each : (k : ℕ) → k < l.row → get_or l.rows.items k 0 ≡ k;
}
