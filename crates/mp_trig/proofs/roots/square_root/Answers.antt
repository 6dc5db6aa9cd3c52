use Rattle.std.proofs.Common.{arith, ◌<◌, ◌≤◌, ◌^◌, w32}
use Rattle.std.proofs.lemmas.Int.{to_z-of_z, to_z_pos}
use Rattle.mp_trig.proofs.RootLemmas.{nearest_root_bound}
use Rattle.mp_trig.proofs.roots.square_root.Goals as goal

pub returns-clause-nearest : goal.returns-clause-nearest
returns-clause-nearest c =
    let root = c.nearest.result in
    let magnitude = rw (to_z-of_z w32 c.args.x c.ranges.x) at c.unsigned_abs.ensures.value in
    let near = rw (c.from.ensures, c.from-2.ensures, magnitude) at c.nearest.ensures.nearest in
    let small : root ≤ 16777216 = nearest_root_bound _ root 16777216 near (omega (arith, magnitude)) in
    let fits : root < 2 ^ 31 = omega arith in
    rw (to_z_pos w32 root fits) near
