use Rattle.std.proofs.Common.{◌≡◌, refl, rules, w64, FitsSigned, ap, ◌∙◌}
use Rattle.std.proofs.lemmas.Int.{to_z-of_z}
use Rattle.std.specs.Prelude.{◌+ℤ◌}
use Rattle.mp_pool.specs.Ratios.{times_fraction}
use Rattle.mp_pool.proofs.Fitting.{terms-drop, fit-same, fit-new}
use Rattle.mp_pool.proofs.fits.next_count.Goals as goal

pub returns-in-Some-clause-terms : goal.returns-in-Some-clause-terms
returns-in-Some-clause-terms c = rw c.step.ensures (terms-drop _ c.requires.terms)

pub returns-in-Some-clause-same : goal.returns-in-Some-clause-same
returns-in-Some-clause-same c =
    let fits : FitsSigned w64 c.sum.result = search rules in
    let fits_c : FitsSigned w64 c.in-Some.c = search rules in
    let fits_more : FitsSigned w64 c.product-more.result = search rules in
    let fits_f : FitsSigned w64 c.args.f = c.ranges.f in
    let fits_q : FitsSigned w64 c.args.q.coefficient = search rules in
    let is : c.sum.result ≡ c.in-Some.c +ℤ times_fraction c.args.f c.args.q.coefficient =
    c.sum.ensures ∙ simp to_z-of_z (ap (λ z. c.in-Some.c +ℤ z) (simp to_z-of_z at c.product-more.ensures.value)) in
    rw c.step.ensures (fit-same (times_fraction c.args.f) c.args.q c.args.left.now c.in-Some.c c.sum.result c.count_of.result c.in-Some.ensures.some is (simp to_z-of_z at c.count_of.ensures.same))

pub returns-in-None-clause-same : goal.returns-in-None-clause-same
returns-in-None-clause-same c =
    let fits : FitsSigned w64 c.product-more.result = search rules in
    let fits_f : FitsSigned w64 c.args.f = c.ranges.f in
    let fits_q : FitsSigned w64 c.args.q.coefficient = search rules in
    λ omitted qs other.
    fit-new (times_fraction c.args.f) c.args.q c.args.left.now c.product-more.result c.count_of-in-None.result (c.in-None.ensures.none refl) c.requires.terms
    (simp to_z-of_z at c.product-more.ensures.value) (simp to_z-of_z at c.count_of-in-None.ensures.same) omitted qs
