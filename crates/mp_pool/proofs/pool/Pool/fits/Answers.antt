use Rattle.std.proofs.Common.{◌≡◌, ◌^◌, List, FitsSigned, w64, ap, ◌∙◌}
use Rattle.std.proofs.lemmas.Int.{to_z-of_z}
use Rattle.mp_pool.specs.declared.Term.{Term}
use Rattle.mp_pool.specs.Ratios.{times_fraction}
use Rattle.mp_pool.specs.Terms.{without, sum_terms, AreTerms}
use Rattle.mp_pool.specs.Storage.Merge.{fitting}
use Rattle.mp_pool.proofs.Fitting.{none_exactly, length_exactly}
use Rattle.mp_pool.proofs.MergeLemmas.{merge_is}
use Rattle.mp_pool.proofs.TermLemmas.{AreTerms-filter}
use Rattle.mp_pool.proofs.pool.Pool.fits.Goals as goal

counted : (c : goal.After-fits) → c.fits.result ≡ fitting (sum_terms (times_fraction c.args.f) (without c.args.serial c.read.result) c.args.terms.now)
counted c =
    let fits_f : FitsSigned w64 c.args.f = c.ranges.f in
    let others : List Term = without c.args.serial c.read.result in
    let are : AreTerms others = AreTerms-filter _ c.read.result c.read.ensures.ordered in
    (simp to_z-of_z at c.fits.ensures) ∙ ap fitting (merge_is (times_fraction c.args.f) (2 ^ 32) (2 ^ 32) others c.args.terms.now are.serials c.requires.terms.serials)

pub returns-clause-too_large : goal.returns-clause-too_large
returns-clause-too_large c = rw (← c.read.ensures.same) (none_exactly _ c.fits.result (counted c))

pub returns-clause-count : goal.returns-clause-count
returns-clause-count c = rw (← c.read.ensures.same) (length_exactly _ c.fits.result (counted c))
