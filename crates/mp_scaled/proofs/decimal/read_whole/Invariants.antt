use Rattle.std.proofs.Common.{◌≡◌, ◌^◌, min, take}
use Rattle.mp_scaled.specs.Decimal.{whole_of}
use Rattle.mp_scaled.proofs.decimal.read_whole.Given as goal

abbrev pub invariant-loop-c : goal.invariant-loop-c
invariant-loop-c l = l.whole ≡ min (whole_of (take l.c-index l.digits)) (2 ^ 15)
