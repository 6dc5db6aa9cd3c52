use Rattle.std.proofs.Common.{◌≡◌, refl, rules, w64, FitsSigned, ap, ◌∙◌}
use Rattle.std.proofs.lemmas.Int.{to_z-of_z}
use Rattle.std.specs.Prelude.{◌+ℤ◌}
use Rattle.mp_pool.specs.Ratios.{times_fraction}
use Rattle.mp_pool.proofs.Merging.{add-same, add-new, small-drop}
use Rattle.mp_pool.proofs.merge.add_here.Goals as goal

pub returns-in-Some-clause-small : goal.returns-in-Some-clause-small
returns-in-Some-clause-small c = rw c.keep_first.ensures.left (small-drop _ c.requires.small)

pub returns-in-Some-clause-same : goal.returns-in-Some-clause-same
returns-in-Some-clause-same c =
    let fits : FitsSigned w64 c.sum-coefficient.result = search rules in
    let fits_c : FitsSigned w64 c.in-Some.c = search rules in
    let fits_more : FitsSigned w64 c.product-more.result = search rules in
    let fits_f : FitsSigned w64 c.args.f = c.ranges.f in
    let fits_q : FitsSigned w64 c.args.q.coefficient = search rules in
    let is : c.sum-coefficient.result ≡ c.in-Some.c +ℤ times_fraction c.args.f c.args.q.coefficient =
    c.sum-coefficient.ensures ∙ simp to_z-of_z (ap (λ z. c.in-Some.c +ℤ z) (simp to_z-of_z at c.product-more.ensures.value)) in
    rw c.keep_first.ensures.left
    (add-same (times_fraction c.args.f) c.args.q _ _ _ c.in-Some.c c.sum-coefficient.result c.in-Some.ensures.some (simp to_z-of_z at c.keep_first.ensures.done) is)

pub returns-in-None-clause-same : goal.returns-in-None-clause-same
returns-in-None-clause-same c =
    let fits : FitsSigned w64 c.product-more.result = search rules in
    let fits_f : FitsSigned w64 c.args.f = c.ranges.f in
    let fits_q : FitsSigned w64 c.args.q.coefficient = search rules in
    rw (c.keep_new.ensures.rest.others c.args.left c.requires.three.ab c.requires.three.ad)
    (add-new (times_fraction c.args.f) c.args.q _ _ _ c.product-more.result (c.in-None.ensures.none refl) (simp to_z-of_z at c.keep_new.ensures.done)
    (simp to_z-of_z at c.product-more.ensures.value))
