use Rattle.mp_pool.specs.Ratios.{ratio_times}
use Rattle.mp_pool.proofs.TermLemmas.{AreOrdered-changed_terms}
use Rattle.mp_forms.proofs.form.Form.multiplied.Goals as goal

pub limited-requires : goal.limited-requires
limited-requires c =
    rw (c.in_ok-push_each.ensures, c.in_ok-terms.ensures.items, c.deref.ensures.value)
    (AreOrdered-changed_terms (ratio_times c.args.ratio.numerator c.args.ratio.denominator) c.self.inside.terms.items c.self.invariant)
