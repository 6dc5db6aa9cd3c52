use Rattle.std.proofs.lemmas.Int.{to_z-of_z}
use Rattle.mp_pool.specs.Ratios.{times_scaled}
use Rattle.mp_pool.specs.Terms.{changed_terms}
use Rattle.mp_forms.proofs.LimitLemmas.{result_too_large, result_overflow}
use Rattle.mp_forms.proofs.form.Form.scale_by.Goals as goal

pub returns-clause-exact : goal.returns-clause-exact
returns-clause-exact c =
    let fits = c.ranges.s in
    simp (c.scaled.ensures.numerator, c.scaled.ensures.denominator, to_z-of_z) at c.multiplied.ensures

pub returns-clause-too_large : goal.returns-clause-too_large
returns-clause-too_large c =
    let form = c.args.self.now in
    result_too_large c.multiplied.result (times_scaled c.args.s form.constant) (changed_terms (times_scaled c.args.s) form.terms) (returns-clause-exact c)

pub returns-clause-overflow : goal.returns-clause-overflow
returns-clause-overflow c =
    let form = c.args.self.now in
    result_overflow c.multiplied.result (times_scaled c.args.s form.constant) (changed_terms (times_scaled c.args.s) form.terms) (returns-clause-exact c)
