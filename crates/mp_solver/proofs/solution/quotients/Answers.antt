use Rattle.std.proofs.Common.{◌<◌, pos, [], length, ◌≡◌, get_or, w32, w64, to_z, of_z, arith, refl}
use Rattle.std.proofs.lemmas.Int.{to_z-of_z}
use Rattle.std.proofs.lemmas.List.{take_all}
use Rattle.mp_pool.specs.declared.Term.{Term}
use Rattle.mp_solver.proofs.TermLists.{changed_terms-more}
use Rattle.mp_solver.specs.Elimination.{over_negative}
use Rattle.mp_solver.proofs.QuotientLemmas.{over_negative_small, fits32, fits64}
use Rattle.mp_solver.proofs.solution.quotients.Goals as goal

abbrev none : Term
none = record { serial = 0; coefficient = pos 0 }

pub unreachable-requires : goal.unreachable-requires
unreachable-requires c =
    let t = get_or c.args.terms.now c.terms.term-index none in
    let within : c.terms.term-index < length c.args.terms.now = omega arith in
    let small = c.requires.greatest c.terms.term-index none within in
    let fits_v = c.ranges.v in
    let fits = fits64 t.coefficient (omega (arith, small, c.requires.small)) in
    let bound = over_negative_small c.args.v t.coefficient c.requires.nonzero small in
    let large = simp to_z-of_z at c.in-None.ensures.none.0 refl in
    omega (arith, bound, large)

pub terms-preserved : goal.terms-preserved
terms-preserved c =
    let t = get_or c.args.terms.now c.terms.term-index none in
    let within : c.terms.term-index < length c.args.terms.now = omega arith in
    let small = c.requires.greatest c.terms.term-index none within in
    let fits_v = c.ranges.v in
    let fits = fits64 t.coefficient (omega (arith, small, c.requires.small)) in
    let v = to_z w64 (of_z w64 c.args.v) in
    let same_v = to_z-of_z w64 c.args.v fits_v in
    let same_t = to_z-of_z w64 t.coefficient fits in
    let bound = over_negative_small c.args.v t.coefficient c.requires.nonzero small in
    let q = c.in-Some.ensures.some in
    let is : c.in-Some.coefficient ≡ over_negative c.args.v t.coefficient = simp to_z-of_z at q in
    let same_q = to_z-of_z w32 c.in-Some.coefficient (fits32 c.in-Some.coefficient (rw is (omega (arith, bound)))) in
    let more = changed_terms-more (over_negative v) [] c.args.terms.now c.terms.term-index none within in
    cc (c.in_ok-push_term-in-Some.ensures)

pub returns : goal.returns
returns c =
    let fits_v = c.ranges.v in
    let all = rw (take_all c.terms.term-index c.args.terms.now (omega arith)) at c.terms.invariant in
    simp to_z-of_z at all
