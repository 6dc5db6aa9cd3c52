use Rattle.std.proofs.Common.{◌+◌, length}
use Rattle.mp_pool.specs.Ratios.{ratio_times}
use Rattle.mp_forms.proofs.TermLemmas.{IsMerging}
use Rattle.mp_forms.proofs.terms.sum_of_terms.Given as goal

abbrev pub invariant-merge : goal.invariant-merge
invariant-merge l = IsMerging (ratio_times l.ratio.numerator l.ratio.denominator) l.left l.right l.sum.items l.on_left l.on_right

abbrev pub decreases-merge : goal.decreases-merge
decreases-merge l = length l.on_left + length l.on_right
