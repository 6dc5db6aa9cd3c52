use Rattle.std.proofs.Common.{◌∙◌}
use Rattle.mp_values.specs.Outcome.{error_of}
use Rattle.mp_ops.specs.Arithmetic.{ONE, combined, sum}
use Rattle.mp_ops.proofs.OutcomeLemmas.{joined_gives, number_refused}
use Rattle.mp_ops.proofs.store.Store.sum.Goals as goal

pub returns-clause-exact : goal.returns-clause-exact
returns-clause-exact c = λ other.
    joined_gives _ (c.in_ok-p.p, c.in_ok-p.q) c.args.self.now sum c.in_ok-p.ensures.exact
    ∙ number_refused (combined ONE c.in_ok-p.p c.in_ok-p.q) (error_of c.in-Err.fault) c.args.self.now (c.in-Err.ensures.exact other)
