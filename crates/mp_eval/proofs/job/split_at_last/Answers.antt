use Rattle.std.proofs.Common.{arith, ◌-◌}
use Rattle.mp_eval.proofs.JobLemmas.{found_here, split_nowhere, split_here}
use Rattle.mp_eval.proofs.job.split_at_last.Goals as goal

pub returns-then-name-end : goal.returns-then-name-end
returns-then-name-end c =
    split_here c.args.code c.args.name.now _ (c.bytes.end - 1) c.bytes.invariant.found
    (found_here c.args.code c.args.name.now c.bytes.end c.bytes-test.true c.if-name-end.true)

pub returns : goal.returns
returns c = split_nowhere c.args.code c.args.name.now _ c.bytes.invariant.found (grind arith)
