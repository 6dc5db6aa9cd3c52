use Rattle.std.proofs.Common.{rules}
use Rattle.std.proofs.lemmas.List.{take_more_set}
use Rattle.mp_scaled.proofs.print.put_sign.Goals as goal

pub returns-then-negative-clause-text : goal.returns-then-negative-clause-text
returns-then-negative-clause-text c = rw c.if-negative.true (take_more_set c.args.to.now 0 45 (search rules))
