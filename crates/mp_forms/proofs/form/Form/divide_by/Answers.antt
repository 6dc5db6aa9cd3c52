use Rattle.std.proofs.Common.{◌≡◌, ◌≢◌, ◌↔◌, ◌≤◌, ◌^◌, pos, unsigned_abs, of_z, w32, ap}
use Rattle.std.specs.Result.{IfOk, IsErrOf}
use Rattle.std.proofs.lemmas.Int.{to_z-of_z}
use Rattle.std.proofs.lemmas.Result.{IfOk-weaker}
use Rattle.mp_forms.specs.declared.fault.FormFault.TheVariants.{Overflow, CoefficientTooLarge}
use Rattle.mp_pool.specs.Ratios.{over_scaled}
use Rattle.mp_pool.specs.Terms.{changed_terms, HasTooLarge}
use Rattle.mp_forms.specs.Forms.{changed_form}
use Rattle.mp_forms.proofs.LimitLemmas.{result_too_large, result_overflow}
use Rattle.mp_forms.proofs.form.Form.divide_by.Goals as goal

-- the divisor is not 0 here
nonzero : (c : goal.After-multiplied) → c.args.s ≢ pos 0
nonzero c = λ e. c.if-s-eq0.false (ap (of_z w32) e)

quotient : (c : goal.After-multiplied) → IfOk c.multiplied.result (λ answer. answer ≡ changed_form (over_scaled c.args.s) c.args.self.now)
quotient c =
    let fits = c.ranges.s in
    simp (c.over_scaled.ensures.numerator, c.over_scaled.ensures.denominator, to_z-of_z) at c.multiplied.ensures

pub returns-clause-too_large : goal.returns-clause-too_large
returns-clause-too_large c =
    let form = c.args.self.now in
    let s = c.args.s in
    let terms = changed_terms (over_scaled s) form.terms in
    IfOk-weaker c.multiplied.result (λ answer. IsErrOf answer CoefficientTooLarge ↔ HasTooLarge terms) _ (λ answer exactly. (λ e. (nonzero c, exactly.0 e), λ w. exactly.1 w.1))
    (result_too_large c.multiplied.result (over_scaled s form.constant) terms (quotient c))

pub returns-clause-overflow : goal.returns-clause-overflow
returns-clause-overflow c =
    let form = c.args.self.now in
    let s = c.args.s in
    let terms = changed_terms (over_scaled s) form.terms in
    IfOk-weaker c.multiplied.result (λ answer. IsErrOf answer Overflow ↔ (¬ HasTooLarge terms × (2 ^ 31 ≤ unsigned_abs (over_scaled s form.constant)))) _
    (λ answer exactly. (λ e. (nonzero c, (exactly.0 e).0, (exactly.0 e).1), λ w. exactly.1 (w.1, w.2)))
    (result_overflow c.multiplied.result (over_scaled s form.constant) terms (quotient c))
