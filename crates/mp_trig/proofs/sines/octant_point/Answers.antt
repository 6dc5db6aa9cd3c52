use Rattle.std.proofs.Common.{w64, rules, sym}
use Rattle.std.proofs.lemmas.Int.{to_z-of_z}
use mir.Val.{SFits}
use Rattle.mp_trig.proofs.SineLemmas.{sine_after-none, sine_step, within_start}
use Rattle.mp_trig.proofs.sines.octant_point.Goals as goal

pub loop-n-init : goal.loop-n-init
loop-n-init c = record { same = sym (sine_after-none _); near = within_start }

pub loop-n-preserved : goal.loop-n-preserved
loop-n-preserved c =
    let x = c.sine_turn.result.0 in
    let y = c.sine_turn.result.1 in
    let fits_x : SFits w64 x = search rules in
    let fits_y : SFits w64 y = search rules in
    rw (to_z-of_z w64 x fits_x, to_z-of_z w64 y fits_y)
    (record { same = sine_step c.loop-n.n _ _ _ c.sine_turn.ensures.exact c.loop-n.invariant.same; near = c.sine_turn.ensures.still_near })
