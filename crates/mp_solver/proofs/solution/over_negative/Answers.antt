use Rattle.std.proofs.Common.{neg_ℤ, refl, sym, arith}
use Rattle.std.proofs.lemmas.Int.{to_z-of_z}
use Rattle.mp_solver.proofs.QuotientLemmas.{unsigned_abs-neg, zero-sub, make_fraction_of-Ok, make_fraction_of-Err, fits32}
use Rattle.mp_solver.proofs.solution.over_negative.Goals as goal

pub returns-in-Ok-clause-some : goal.returns-in-Ok-clause-some
returns-in-Ok-clause-some c =
    let fits_v = c.ranges.v in
    let fits_n = c.ranges.n in
    let exact = simp to_z-of_z at c.in-Ok.ensures.exact in
    let ok = make_fraction_of-Ok c.args.v c.args.n c.requires.nonzero c.in-Ok.quotient (sym exact) in
    let fits = fits32 c.in-Ok.quotient ok.1 in
    let fits' = fits32 (neg_ℤ c.in-Ok.quotient) (rw (unsigned_abs-neg c.in-Ok.quotient) ok.1) in
    simp (to_z-of_z, zero-sub) ok.0

pub returns-in-Ok-clause-none : goal.returns-in-Ok-clause-none
returns-in-Ok-clause-none c =
    let fits_v = c.ranges.v in
    let fits_n = c.ranges.n in
    let exact = simp to_z-of_z at c.in-Ok.ensures.exact in
    let ok = make_fraction_of-Ok c.args.v c.args.n c.requires.nonzero c.in-Ok.quotient (sym exact) in
    (λ e. absurd cc, λ large. absurd (omega (arith, large, ok.2)))

pub returns-in-Err : goal.returns-in-Err
returns-in-Err c =
    let fits_v = c.ranges.v in
    let fits_n = c.ranges.n in
    let exact = simp to_z-of_z at c.in-Err.ensures.exact in
    let large = make_fraction_of-Err c.args.v c.args.n c.requires.nonzero c.in-Err.field-0 (sym exact) in
    record { some = tt; none = (λ _. large, λ _. refl) }
