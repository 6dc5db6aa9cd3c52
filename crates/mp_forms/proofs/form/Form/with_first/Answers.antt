use Rattle.std.proofs.Common.{◌≡◌, ◌<◌, ◌^◌, unsigned_abs, ◌++◌, to_z, of_z, FitsSigned, w64, sym, ap, subst, rules, arith}
use Rattle.std.proofs.lemmas.Int.{to_z-of_z}
use Rattle.mp_pool.specs.Terms.{lone_term, SerialsDecrease}
use Rattle.mp_forms.proofs.TermLemmas.{AreTerms-first}
use Rattle.mp_forms.proofs.form.Form.with_first.Goals as goal

pub in_range-requires : goal.in_range-requires
in_range-requires c =
    let fits : FitsSigned w64 c.args.coefficient = search rules in
    let same = to_z-of_z w64 c.args.coefficient fits in
    let made : c.in_ok-terms.terms.items ≡ lone_term c.args.serial (to_z w64 (of_z w64 c.args.coefficient)) ++ c.self.inside.terms.items = c.in_ok-terms.ensures {u = tt} in
    let value : c.unsigned_abs.result ≡ unsigned_abs (to_z w64 (of_z w64 c.args.coefficient)) = c.unsigned_abs.ensures.value in
    let value' = rw same at value in
    let small : unsigned_abs c.args.coefficient < 2 ^ 44 = omega (arith, value', c.if-unsigned_abs-ge-COEFFICIENT_LIMIT.false) in
    let below = subst (SerialsDecrease c.args.serial) (sym (ap (λ p. p.terms) c.self.view_is)) c.requires in
    rw (made, same) (AreTerms-first c.args.serial c.args.coefficient c.self.inside.terms.items c.ranges.serial.fits small below c.self.invariant)
