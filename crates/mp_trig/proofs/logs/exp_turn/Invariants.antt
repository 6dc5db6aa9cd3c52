use Rattle.std.proofs.Common.{◌≡◌, ◌/◌, ◌%◌, ◌^◌, ◌<◌, pos, ◌+ℤ◌, ◌≤ℤ◌, ◌<ℤ◌}
use Rattle.mp_trig.specs.Logs.{lessened_times}
use Rattle.mp_trig.proofs.logs.exp_turn.Given as goal

abbrev pub invariant-loop-rest : goal.invariant-loop-rest
invariant-loop-rest l = record {
  rest : l.rest % l.entry ≡ l.left % l.entry;
  value : lessened_times (l.rest / l.entry) l.n l.lessening ≡ lessened_times (l.left / l.entry) l.n l.value;
  small : l.rest < 2 ^ 31;
  low : pos l.rest ≤ℤ (l.lessening +ℤ pos (2 ^ 31));
  high : l.lessening <ℤ pos (2 ^ 31);
}

abbrev pub decreases-loop-rest : goal.decreases-loop-rest
decreases-loop-rest l = l.rest
