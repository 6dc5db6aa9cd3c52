use Rattle.std.proofs.Common.{◌≡◌, length}
use Rattle.mp_acts.specs.State.{counts}
use Rattle.mp_acts.specs.Counts.{IsWithin}
use Rattle.mp_acts.specs.Groups.{end_group, IsUndoneInPart}
use Rattle.mp_acts.proofs.state.State.do_end_group.Given as goal

abbrev pub invariant-changes : goal.invariant-changes
invariant-changes l = record {
  leads : end_group l.self ≡ end_group l.fn.self;
  counts : IsWithin (counts l.fn.self) (counts l.self);
  part : IsUndoneInPart l.fn.self l.self;
}

abbrev pub decreases-changes : goal.decreases-changes
decreases-changes l = length l.self.symbols.saved
