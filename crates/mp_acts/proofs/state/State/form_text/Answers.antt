use Rattle.std.proofs.Common.{subst, List}
use Rattle.std.specs.List.{All}
use Rattle.mp_pool.specs.declared.Term.{Term}
use Rattle.mp_pool.specs.Terms.{IsCoefficient}
use Rattle.mp_acts.proofs.state.State.form_text.Goals as goal

pub push_sum-requires-clause-coefficients : goal.push_sum-requires-clause-coefficients
push_sum-requires-clause-coefficients c =
    let P : List Term → Type 0 = λ ts. All (λ t. IsCoefficient t.coefficient) ts in
    subst P c.in-Some.ensures.cases.0 c.terms.ensures.ordered.coefficients
