use Rattle.std.proofs.Common.{◌≡◌, subst, arith, ◌-◌, [], Some}
use Rattle.mp_input.specs.Entries.{entry_items}
use Rattle.mp_input.specs.Loops.{leave_loop}
use Rattle.mp_input.proofs.SearchLemmas.{turn_here}
use Rattle.mp_input.proofs.input.turn_entry.Goals as goal

pub returns-in-Some : goal.returns-in-Some
returns-in-Some c =
    turn_here c.args.entries.now c.down.top (c.down.top - 1) c.in-Some.conditions c.index-entries-top.result (omega arith) (omega arith) c.down.invariant.above
    (subst (λ e. leave_loop (entry_items e) ≡ Some (c.in-Some.conditions, [])) c.index-entries-top.is c.in-Some.ensures)
