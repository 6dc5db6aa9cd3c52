use Rattle.mp_pool.proofs.TermLemmas.{AreOrdered-sum_terms}
use Rattle.mp_forms.proofs.form.Form.plus_multiple.Goals as goal

pub limited-requires : goal.limited-requires
limited-requires c =
    rw (c.in_ok-terms.ensures, c.deref.ensures.value, c.deref-2.ensures.value)
    (AreOrdered-sum_terms _ c.self.inside.terms.items c.other.inside.terms.items c.self.invariant c.other.invariant)
