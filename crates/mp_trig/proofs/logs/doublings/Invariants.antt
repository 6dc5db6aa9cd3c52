use Rattle.std.proofs.Common.{◌≡◌, ◌+◌, ◌-◌, ◌*◌, ◌^◌, ◌<◌}
use Rattle.mp_trig.specs.Logs.{doublings}
use Rattle.mp_trig.proofs.logs.doublings.Given as goal

abbrev pub invariant-loop-raised : goal.invariant-loop-raised
invariant-loop-raised l = record {
  power : l.raised ≡ l.x * 2 ^ l.turns;
  counted : l.turns + doublings l.raised ≡ doublings l.x;
  positive : 0 < l.raised;
  small : l.raised < 2 ^ 31;
}

abbrev pub decreases-loop-raised : goal.decreases-loop-raised
decreases-loop-raised l = 2 ^ 30 - l.raised
