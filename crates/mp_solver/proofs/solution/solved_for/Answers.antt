use Rattle.std.proofs.Common.{◌≡◌, ◌≤◌, unsigned_abs, w32, w64, to_z, of_z, FitsSigned, sym, ◌∙◌, rules}
use Rattle.std.specs.List.{All}
use Rattle.std.proofs.lemmas.Int.{to_z-of_z}
use Rattle.std.proofs.lemmas.List.Elements.{All-filter}
use Rattle.mp_solver.specs.Elimination.{without, over_negative}
use Rattle.mp_solver.proofs.ReductionLemmas.{AreTerms-filter}
use Rattle.mp_solver.proofs.QuotientLemmas.{fits64, solution_constant, is_none_is}
use Rattle.mp_solver.proofs.TermLists.{AreTerms-over_negative}
use Rattle.mp_solver.proofs.solution.solved_for.Goals as goal

others_below : (c : goal.After-struct_told-2-1) → All (λ t. unsigned_abs t.coefficient ≤ unsigned_abs c.args.pivot.coefficient) (without c.args.pivot.serial c.args.residual.now.terms)
others_below c = All-filter _ (λ t. unsigned_abs t.coefficient ≤ unsigned_abs c.args.pivot.coefficient) c.args.residual.now.terms c.requires.greatest

pub quotients-requires-clause-greatest : goal.quotients-requires-clause-greatest
quotients-requires-clause-greatest c =
    let fits = fits64 c.args.pivot.coefficient c.requires.small in
    rw (c.deref.ensures.value, c.in_ok-others.ensures, c.terms.ensures.same) (simp to_z-of_z (others_below c))

pub of_terms-requires : goal.of_terms-requires
of_terms-requires c =
    let fits = fits64 c.args.pivot.coefficient c.requires.small in
    let below = All-filter _ (λ t. unsigned_abs t.coefficient ≤ unsigned_abs c.args.pivot.coefficient) c.args.residual.now.terms c.requires.greatest in
    let ordered = rw c.terms.ensures.same at c.terms.ensures.ordered in
    let are = AreTerms-over_negative c.terms_stay_in_order.ensures c.args.pivot.coefficient (without c.args.pivot.serial c.args.residual.now.terms) c.requires.nonzero below (AreTerms-filter _ _ ordered) in
    rw (c.in_ok-terms.ensures, c.deref.ensures.value, c.in_ok-others.ensures, c.terms.ensures.same) (simp to_z-of_z are)

pub returns : goal.returns
returns c =
    let v = c.args.pivot.coefficient in
    let n = c.args.residual.now.constant in
    let fits = fits64 v c.requires.small in
    let fits_n : FitsSigned w32 c.constant.result = search rules in
    let fits_u : FitsSigned w32 c.unwrap_or.result = search rules in
    let from : c.from.result ≡ n = c.from.ensures ∙ to_z-of_z w32 c.constant.result fits_n ∙ c.constant.ensures in
    let fits_from : FitsSigned w64 c.from.result = search rules in
    let same_n : to_z w64 (of_z w64 c.from.result) ≡ n = to_z-of_z w64 c.from.result fits_from ∙ from in
    let same_v : to_z w64 (of_z w64 v) ≡ v = to_z-of_z w64 v fits in
    let both = rw (same_v, same_n) at c.over_negative-constant.ensures in
    let constant = solution_constant c.over_negative-constant.result (over_negative v n) both.some both.none in
    let overflows = is_none_is c.over_negative-constant.result c.is_none.result c.is_none.ensures in
    let terms = rw (same_v, c.deref.ensures.value, c.in_ok-others.ensures, c.terms.ensures.same) at c.in_ok-terms.ensures in
    let held = to_z-of_z w32 c.unwrap_or.result fits_u in
    rw (c.of_terms.ensures) (record {
      terms = terms;
      overflows = overflows ∙ constant.0;
      constant = λ e. held ∙ c.unwrap_or.ensures ∙ constant.1 (sym overflows ∙ e);
    })
