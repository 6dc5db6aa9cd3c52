use Rattle.std.proofs.Common.{◌≡◌, ◌^◌, ◌<◌, pos, ◌+ℤ◌, ◌≤ℤ◌, ◌<ℤ◌}
use Rattle.mp_trig.specs.Logs.{exp_after}
use Rattle.mp_trig.proofs.logs.exp_value.Given as goal

abbrev pub invariant-loop-n : goal.invariant-loop-n
invariant-loop-n l = record {
  same : record { left = l.left; value = l.value } ≡ exp_after l.n (record { left = l.fn.left; value = l.fn.start });
  small : l.left < 2 ^ 31;
  low : pos l.left ≤ℤ (l.value +ℤ pos (2 ^ 31));
  high : l.value <ℤ pos (2 ^ 31);
}
