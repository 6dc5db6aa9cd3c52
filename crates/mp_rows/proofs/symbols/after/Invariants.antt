use Rattle.std.proofs.Common.{◌<◌, length}
use Rattle.mp_rows.proofs.symbols.after.Given as goal

-- the internal is there
abbrev pub invariant-calls : goal.invariant-calls
invariant-calls l = l.k < length l.table.internals
