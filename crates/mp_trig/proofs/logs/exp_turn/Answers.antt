use Rattle.std.proofs.Common.{◌+◌, inl, inr, w64, sym, ◌∙◌, arith, rules}
use Rattle.std.proofs.lemmas.Int.{ints, to_z-of_z}
use mir.Val.{SFits, to_z}
use Rattle.mp_trig.specs.Logs.{log_entry}
use Rattle.mp_trig.proofs.ExpLemmas.{times-more, times-none, rest-more}
use Rattle.mp_trig.proofs.logs.exp_turn.Goals as goal

pub loop-rest-preserved : goal.loop-rest-preserved
loop-rest-preserved c =
    let entry = c.log_entry-entry.result in
    let here = c.loop-rest in
    let value = c.lessened-lessening.result in
    let fits : SFits w64 value = search rules in
    record {
      rest = sym (rest-more here.rest entry c.log_entry-entry.ensures.positive c.loop-rest-test.true) ∙ here.invariant.rest;
      value = rw (to_z-of_z w64 value fits, c.lessened-lessening.ensures.exact)
          (sym (times-more here.rest entry c.args.n (to_z w64 here.lessening-bits) c.log_entry-entry.ensures.positive c.loop-rest-test.true) ∙ here.invariant.value);
      small = omega arith;
      low = elim c.lessened-lessening.ensures.low [ inl h ↦ omega (arith, ints, h) | inr h ↦ omega (arith, ints, h) ];
      high = omega (arith, ints);
    }

pub returns-clause-value : goal.returns-clause-value
returns-clause-value c =
    let exact = c.log_entry-entry.ensures.exact in
    let same = rw (to_z-of_z w64 c.args.value c.ranges.value, exact) at c.loop-rest.invariant.value in
    sym (times-none c.loop-rest.rest (log_entry (c.args.n + 1)) c.args.n (to_z w64 c.loop-rest.lessening-bits) (omega arith)) ∙ same
