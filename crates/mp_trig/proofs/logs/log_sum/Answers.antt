use Rattle.std.proofs.Common.{w64, ap, sym, ◌∙◌, arith}
use Rattle.std.proofs.lemmas.Int.{ints, to_z-of_z}
use mir.Val.{to_z}
use Rattle.mp_trig.specs.Logs.{Logarithm}
use Rattle.mp_trig.proofs.LogLemmas.{log-done, log_step, part_from}
use Rattle.mp_trig.proofs.logs.log_sum.Goals as goal

pub loop-left-preserved : goal.loop-left-preserved
loop-left-preserved c =
    let here = c.loop-left in
    record {
      same = log_step here.left here.power c.fitting-power.result c.part-left.result c.log_entry.result _ _ (omega arith)
          c.fitting-power.ensures.exact c.part-left.ensures.exact c.log_entry.ensures.exact (omega (arith, ints)) ∙ here.invariant.same;
      reached = omega arith;
      not_passed = omega arith;
      first = omega arith;
      last = omega arith;
      low = omega (arith, ints);
      high = omega (arith, ints, part_from here.left c.fitting-power.result (omega arith));
    }

pub returns-clause-exact : goal.returns-clause-exact
returns-clause-exact c =
    let same = rw (to_z-of_z w64 c.args.start c.ranges.start) at c.loop-left.invariant.same in
    let done = log-done (record { left = c.loop-left.left; sum = to_z w64 c.loop-left.sum-bits; power = c.loop-left.power }) (omega arith) in
    ap (λ (s : Logarithm). s.sum) (sym done ∙ same)
