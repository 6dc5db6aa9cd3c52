use Rattle.std.proofs.Common.{◌≡◌, ◌+◌, ◌^◌, ◌≤◌, pos, ◌+ℤ◌, ◌-ℤ◌, int_div, w64, arith}
use Rattle.std.proofs.lemmas.Int.{ints, to_z-of_z}
use mir.Val.{to_z, of_z}
use Rattle.mp_trig.specs.Sines.{bound_after}
use Rattle.mp_trig.proofs.SineLemmas.{reach_small, within_turned, within_kept, quotient_le, turn_taken}
use Rattle.mp_trig.proofs.sines.sine_turn.Goals as goal

part-of-y : (c : goal.After-over_power-then-left-entry) → c.over_power.result ≡ int_div c.args.y (pos (2 ^ (c.args.n + 1)))
part-of-y c = rw (to_z-of_z w64 c.args.y c.ranges.y) at c.over_power.ensures.exact

part-of-x : (c : goal.After-over_power-then-left-entry) → c.over_power-then-left-entry.result ≡ int_div c.args.x (pos (2 ^ (c.args.n + 1)))
part-of-x c = rw (to_z-of_z w64 c.args.x c.ranges.x) at c.over_power-then-left-entry.ensures.exact

x-is : (c : goal.After-over_power-then-left-entry) → to_z w64 (of_z w64 (to_z w64 (of_z w64 c.args.x) +ℤ to_z w64 (of_z w64 c.over_power.result))) ≡ c.args.x +ℤ int_div c.args.y (pos (2 ^ (c.args.n + 1)))
x-is c =
    let small : bound_after c.args.n ≤ 715827882 = reach_small c.args.n (omega arith) in
    let near = c.requires.near in
    omega (arith, ints, part-of-y c, quotient_le c.args.y (2 ^ (c.args.n + 1)), near.near_x, near.near_y)

y-is : (c : goal.After-over_power-then-left-entry) → to_z w64 (of_z w64 (to_z w64 (of_z w64 c.args.y) -ℤ to_z w64 (of_z w64 c.over_power-then-left-entry.result))) ≡ c.args.y -ℤ int_div c.args.x (pos (2 ^ (c.args.n + 1)))
y-is c =
    let small : bound_after c.args.n ≤ 715827882 = reach_small c.args.n (omega arith) in
    let near = c.requires.near in
    omega (arith, ints, part-of-x c, quotient_le c.args.x (2 ^ (c.args.n + 1)), near.near_x, near.near_y)

pub returns-then-left-entry-clause-exact : goal.returns-then-left-entry-clause-exact
returns-then-left-entry-clause-exact c =
    turn_taken c.args.n c.args.left _ c.args.x c.args.y _ _ (omega arith) (x-is c) (y-is c) (omega arith)

pub returns-then-left-entry-clause-still_near : goal.returns-then-left-entry-clause-still_near
returns-then-left-entry-clause-still_near c =
    within_turned c.args.n c.args.x c.args.y _ _ c.requires.place (x-is c) (y-is c) c.requires.near

pub returns-else-left-entry-clause-still_near : goal.returns-else-left-entry-clause-still_near
returns-else-left-entry-clause-still_near c =
    rw (to_z-of_z w64 c.args.x c.ranges.x, to_z-of_z w64 c.args.y c.ranges.y) (within_kept c.args.n c.args.x c.args.y c.requires.near)
