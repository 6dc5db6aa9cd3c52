use Rattle.std.proofs.Common.{◌∙◌, SFits, w32, rules}
use Rattle.std.proofs.lemmas.Int.{to_z-of_z}
use Rattle.mp_forms.specs.Forms.{form_over_scaled}
use Rattle.mp_values.specs.Outcome.{error_of}
use Rattle.mp_ops.specs.Arithmetic.{quotient}
use Rattle.mp_ops.specs.Operands.{or_refused}
use Rattle.mp_ops.proofs.OutcomeLemmas.{joined_gives, number_refused}
use Rattle.mp_ops.proofs.store.Store.quotient.Goals as goal

pub returns-clause-exact : goal.returns-clause-exact
returns-clause-exact c = λ other.
    let fits : SFits w32 c.in_ok-p.divisor = search rules in
    let exact = simp to_z-of_z at (c.in-Err.ensures.exact other) in
    joined_gives _ (c.in_ok-p.p, c.in_ok-p.divisor) c.args.self.now quotient c.in_ok-p.ensures.exact
    ∙ number_refused (or_refused (form_over_scaled c.in_ok-p.divisor c.in_ok-p.p)) (error_of c.in-Err.fault) c.args.self.now exact
