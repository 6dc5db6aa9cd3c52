use Rattle.std.proofs.Common.{arith, rules}
use Rattle.mp_scaled.proofs.DigitLemmas.{last_put, more_put, all_put, equal_behind}
use Rattle.mp_scaled.proofs.print.put_digits.Goals as goal

pub returns-then-s-delta-clause-text : goal.returns-then-s-delta-clause-text
returns-then-s-delta-clause-text c =
    last_put c.digits.to _ c.digits.place _ c.digits.s c.digits.delta c.rounded-s.result
    c.digits.invariant.text (search rules) (omega arith) c.rounded-s.ensures.value c.if-s-delta.true

pub returns-then-s-delta-clause-rest : goal.returns-then-s-delta-clause-rest
returns-then-s-delta-clause-rest c = equal_behind c.digits.place _ c.digits.to _ c.digits.invariant.rest

pub digits-preserved : goal.digits-preserved
digits-preserved c = record {
  text = more_put c.digits.to _ c.digits.place _ _ c.digits.s c.digits.delta c.rounded-s.result
      c.digits.invariant.text (search rules) (omega arith) c.rounded-s.ensures.value c.if-s-delta.false;
  rest = equal_behind c.digits.place _ c.digits.to _ c.digits.invariant.rest;
  left = search rules;
  small = search rules;
}

pub returns-clause-text : goal.returns-clause-text
returns-clause-text c = all_put c.digits.to _ _ c.digits.place _ c.digits.s c.digits.delta c.digits.invariant.text (search rules) (omega arith)
