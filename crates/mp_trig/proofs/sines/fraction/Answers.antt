use Rattle.std.proofs.Common.{◌≡◌, pos, ◌*ℤ◌, w32, w64, arith, rules}
use Rattle.std.proofs.lemmas.Int.{ints, to_z-of_z}
use mir.Val.{SFits}
use Rattle.mp_scaled.specs.Round.{round}
use Rattle.mp_trig.proofs.FractionLemmas.{fraction_is, fraction_small}
use Rattle.mp_trig.proofs.sines.fraction.Goals as goal

pub unreachable-requires : goal.unreachable-requires
unreachable-requires c =
    let exact = rw (to_z-of_z w64 c.args.part c.ranges.part, to_z-of_z w64 c.args.radius c.ranges.radius) at c.make_fraction.ensures.exact in
    let value = fraction_is c.args.part c.args.radius (omega (arith, ints)) c.requires.within in
    let error = c.in-Err.is in
    cc

fraction-is : (c : goal.In-Ok) → c.in-Ok.fraction ≡ round (c.args.part *ℤ pos 268435456) c.args.radius
fraction-is c =
    let exact = rw (to_z-of_z w64 c.args.part c.ranges.part, to_z-of_z w64 c.args.radius c.ranges.radius) at c.make_fraction.ensures.exact in
    let value = fraction_is c.args.part c.args.radius (omega (arith, ints)) c.requires.within in
    let ok = c.in-Ok.is in
    cc

pub returns-clause-exact : goal.returns-clause-exact
returns-clause-exact c =
    let fits : SFits w32 c.in-Ok.fraction = search rules in
    rw (to_z-of_z w32 c.in-Ok.fraction fits) (fraction-is c)

pub returns-clause-within : goal.returns-clause-within
returns-clause-within c =
    let fits : SFits w32 c.in-Ok.fraction = search rules in
    rw (to_z-of_z w32 c.in-Ok.fraction fits, fraction-is c)
    (fraction_small c.args.part c.args.radius (omega (arith, ints)) c.requires.within)
