use Rattle.std.proofs.Common.{All, length}
use Rattle.mp_macro.specs.Numbered.{IsBelow}
use Rattle.mp_rows.proofs.macros.items_of.Given as goal

-- the symbols so far are the table's
abbrev pub invariant-symbols : goal.invariant-symbols
invariant-symbols l = All (IsBelow (length l.table.names)) l.items
