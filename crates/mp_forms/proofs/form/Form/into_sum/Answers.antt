use Rattle.std.proofs.Common.{◌+ℤ◌}
use Rattle.std.proofs.lemmas.Int.{to_z-of_z}
use Rattle.mp_pool.specs.Ratios.{times_fraction}
use Rattle.mp_pool.specs.Terms.{sum_terms}
use Rattle.mp_forms.proofs.LimitLemmas.{result_too_large, result_overflow}
use Rattle.mp_forms.proofs.form.Form.into_sum.Goals as goal

pub returns-clause-exact : goal.returns-clause-exact
returns-clause-exact c =
    let fits = c.ranges.f in
    simp (c.fraction.ensures.numerator, c.fraction.ensures.denominator, to_z-of_z) at c.into_plus_multiple.ensures

pub returns-clause-too_large : goal.returns-clause-too_large
returns-clause-too_large c =
    let p = c.args.self in
    let q = c.args.other.now in
    let f = times_fraction c.args.f in
    result_too_large c.into_plus_multiple.result (p.constant +ℤ f q.constant) (sum_terms f p.terms q.terms) (returns-clause-exact c)

pub returns-clause-overflow : goal.returns-clause-overflow
returns-clause-overflow c =
    let p = c.args.self in
    let q = c.args.other.now in
    let f = times_fraction c.args.f in
    result_overflow c.into_plus_multiple.result (p.constant +ℤ f q.constant) (sum_terms f p.terms q.terms) (returns-clause-exact c)
