use Rattle.std.proofs.Common.{arith, ◌+◌, ◌*◌, ◌/◌, ◌<◌}
use Rattle.mp_trig.proofs.RootLemmas.{newton_above, root_positive}
use Rattle.mp_trig.proofs.roots.whole_root.Goals as goal

pub newton-preserved : goal.newton-preserved
newton-preserved c =
    let n = c.args.n in
    let root = c.newton.root in
    let next = (root + n / root) / 2 in
    let above : n < (next + 1) * (next + 1) = newton_above n root (n / root) next (omega arith) (omega arith) in
    record {
      positive = root_positive n next (omega arith) above;
      not_below = above;
      small = omega arith;
    }
