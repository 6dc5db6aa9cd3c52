use Rattle.std.proofs.Common.{◌+◌, ◌*◌, ◌^◌, ◌<◌, ◌≤◌}
use Rattle.mp_trig.proofs.roots.whole_root.Given as goal

abbrev pub invariant-newton : goal.invariant-newton
invariant-newton l = record {
  positive : 0 < l.root;
  not_below : l.n < (l.root + 1) * (l.root + 1);
  small : l.root ≤ 2 ^ 32;
}

abbrev pub decreases-newton : goal.decreases-newton
decreases-newton l = l.root
