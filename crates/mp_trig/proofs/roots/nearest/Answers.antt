use Rattle.std.proofs.Common.{arith, ◌+◌}
use Rattle.mp_trig.specs.Roots.{IsNearestRoot}
use Rattle.mp_trig.proofs.RootLemmas.{IsWholeRoot, nearest_above, nearest_below, nearest_root_only}
use Rattle.mp_trig.proofs.roots.nearest.Goals as goal

nearer-above : (c : goal.Then-n-root) → IsNearestRoot c.args.n (c.whole_root-root.result + 1)
nearer-above c =
    let e = c.whole_root-root.ensures in
    let w : IsWholeRoot c.args.n c.whole_root-root.result = record { not_above = e.not_above; not_below = e.not_below } in
    nearest_above _ _ w (omega arith)

nearer-below : (c : goal.Else-n-root) → IsNearestRoot c.args.n c.whole_root-root.result
nearer-below c =
    let e = c.whole_root-root.ensures in
    let w : IsWholeRoot c.args.n c.whole_root-root.result = record { not_above = e.not_above; not_below = e.not_below } in
    nearest_below _ _ w (omega arith)

pub returns-then-n-root : goal.returns-then-n-root
returns-then-n-root c = record { exact = nearest_root_only _ _ (nearer-above c); nearest = nearer-above c }

pub returns-else-n-root : goal.returns-else-n-root
returns-else-n-root c = record { exact = nearest_root_only _ _ (nearer-below c); nearest = nearer-below c }
