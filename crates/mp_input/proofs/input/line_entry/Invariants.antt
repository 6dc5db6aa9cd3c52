use Rattle.std.proofs.Common.{◌≡◌, ◌≤◌, drop, length, None}
use Rattle.mp_input.specs.Entries.{left_of}
use Rattle.mp_input.specs.Lines.{first_line}
use Rattle.mp_input.proofs.input.line_entry.Given as goal

abbrev pub invariant-down : goal.invariant-down
invariant-down l = record {
  within : l.top ≤ length l.entries;
  above : first_line (left_of (drop l.top l.entries)) ≡ None;
}

abbrev pub decreases-down : goal.decreases-down
decreases-down l = l.top
