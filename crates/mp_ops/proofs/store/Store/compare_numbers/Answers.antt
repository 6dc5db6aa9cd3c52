use Rattle.std.proofs.Common.{◌≡◌, ◌-ℤ◌, true, arith, rules, subst, sym, ap, ◌∙◌}
use Rattle.mp_values.specs.Outcome.{Gives, Outcome, lift}
use Rattle.mp_values.specs.declared.value.Value.{Value}
use Rattle.mp_ops.specs.Store.{Store}
use Rattle.mp_ops.specs.Comparison.{terms_between, compare_numbers, by_difference}
use Rattle.mp_ops.specs.Operators.{has_no_terms}
use Rattle.mp_ops.proofs.OutcomeLemmas.{joined_gives}
use Rattle.mp_ops.proofs.ComparisonLemmas.{known_decides}
use Rattle.mp_ops.proofs.store.Store.compare_numbers.Goals as goal

pub returns : goal.returns
returns c =
    let p = c.in_ok-p.p in
    let q = c.in_ok-p.q in
    let s = c.args.self.now in
    let none : has_no_terms (terms_between p q) ≡ true = search rules in
    let decides = known_decides c.args.op.now c.args.comparison (p.constant -ℤ q.constant) (terms_between p q) none in
    let same = joined_gives _ (p, q) s (compare_numbers c.args.op.now c.args.comparison) c.in_ok-p.ensures.exact ∙ ap (λ r. lift r s) decides in
    rw same (search rules)
