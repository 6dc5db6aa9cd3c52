use Rattle.std.proofs.Common.{◌≡◌, ◌++◌, take}
use Rattle.mp_pool.specs.Ratios.{ratio_times}
use Rattle.mp_pool.specs.Terms.{changed_terms}
use Rattle.mp_forms.proofs.terms.push_each.Given as goal

abbrev pub invariant-loop-term : goal.invariant-loop-term
invariant-loop-term l =
    l.to.items ≡ l.fn.to.items ++ changed_terms (ratio_times l.ratio.numerator l.ratio.denominator) (take l.term-index l.terms)
