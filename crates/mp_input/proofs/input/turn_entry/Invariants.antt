use Rattle.std.proofs.Common.{◌≡◌, ◌≤◌, drop, length, None}
use Rattle.mp_input.specs.Entries.{left_of}
use Rattle.mp_input.specs.Loops.{leave_loop}
use Rattle.mp_input.proofs.input.turn_entry.Given as goal

abbrev pub invariant-down : goal.invariant-down
invariant-down l = record {
  within : l.top ≤ length l.entries;
  above : leave_loop (left_of (drop l.top l.entries)) ≡ None;
}

abbrev pub decreases-down : goal.decreases-down
decreases-down l = l.top
