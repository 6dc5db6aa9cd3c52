use Rattle.std.proofs.Common.{◌≡◌, ◌+ℤ◌, ◌++◌, ap, ◌∙◌, to_z, of_z, FitsSigned, w32, w64, rules, arith}
use Rattle.std.proofs.lemmas.Int.{to_z-of_z}
use Rattle.std.specs.Result.{IfOk}
use Rattle.mp_pool.specs.Terms.{lone_term}
use Rattle.mp_forms.specs.Forms.{within_limits}
use Rattle.mp_pool.specs.Ratios.{ratio_times}
use Rattle.mp_forms.proofs.TermLemmas.{AreTerms-head, sum_terms-first}
use Rattle.mp_forms.proofs.form.Form.into_plus_multiple.Goals as goal

pub times-requires : goal.times-requires
times-requires c =
    let first = c.in-Some.ensures {u = tt} in
    let head = AreTerms-head c.in-Some.q _ _ (ap (λ p. p.terms) c.other.view_is ∙ first.0) c.other.invariant in
    let fits : FitsSigned w64 c.in-Some.q.coefficient = search rules in
    rw (to_z-of_z w64 c.in-Some.q.coefficient fits) (omega (arith, head))

pub returns-in-Some : goal.returns-in-Some
returns-in-Some c =
    let change = ratio_times c.args.ratio.numerator c.args.ratio.denominator in
    let first = c.in-Some.ensures {u = tt} in
    let head = AreTerms-head c.in-Some.q _ _ (ap (λ p. p.terms) c.other.view_is ∙ first.0) c.other.invariant in
    let q_fits : FitsSigned w64 c.in-Some.q.coefficient = search rules in
    let times_fits : FitsSigned w64 c.times.result = search rules in
    let sum_fits : FitsSigned w64 c.sum_of_constants-constant.result = search rules in
    let left_fits : FitsSigned w32 c.self.inside.constant = search rules in
    let right_fits : FitsSigned w32 c.other.inside.constant = search rules in
    let left = ap (λ p. p.constant) c.self.view_is in
    let right = ap (λ p. p.constant) c.other.view_is in
    let multiple = simp to_z-of_z at c.times.ensures.exact in
    let summed : c.sum_of_constants-constant.result ≡ to_z w32 (of_z w32 c.self.inside.constant) +ℤ change (to_z w32 (of_z w32 c.other.inside.constant)) = c.sum_of_constants-constant.ensures in
    let sum = rw (to_z-of_z w32 c.self.inside.constant left_fits, to_z-of_z w32 c.other.inside.constant right_fits, left, right) at summed in
    let made : IfOk c.with_first.result (λ answer. answer ≡ within_limits (to_z w64 (of_z w64 c.sum_of_constants-constant.result)) (lone_term c.in-Some.q.serial (to_z w64 (of_z w64 c.times.result)) ++ c.args.self.terms)) = c.with_first.ensures in
    let made' = rw (to_z-of_z w64 c.sum_of_constants-constant.result sum_fits, to_z-of_z w64 c.times.result times_fits, multiple, sum) at made in
    rw (sum_terms-first change c.in-Some.q c.args.self.terms c.args.other.now.terms first.0 first.1) made'
