use Rattle.std.proofs.Common.{◌≡◌, unsigned_abs, Some, FitsSigned, w32, w64, length, refl, sym, ap, ◌∙◌, rules, arith}
use Rattle.std.proofs.lemmas.Int.{to_z-of_z}
use Rattle.mp_pool.specs.Pool.{terms_in}
use Rattle.mp_pool.specs.Terms.{term_of, HasTooLarge}
use Rattle.mp_solver.proofs.QuotientLemmas.{fits64}
use Rattle.mp_solver.proofs.ReplacementLemmas.{sum, comes_to-too_large, comes_to-overflows, comes_to-changed}
use Rattle.mp_solver.proofs.view.FormView.replacement.Goals as goal

pub returns-in_default-fits : goal.returns-in_default-fits
returns-in_default-fits c =
    let p = c.args.self.now in
    let new = c.args.new.now in
    let t = c.in-Some.term in
    let found : term_of c.args.serial p.terms ≡ Some t = sym c.in-Some.ensures.exact in
    let fits = fits64 t.coefficient c.in-Some.ensures.small in
    let terms_are : terms_in c.self.inside.pool.now c.self.inside.list.slot ≡ p.terms = ap (λ f. f.terms) c.self.view_is in
    let tests = rw (terms_are, c.terms.ensures.same) at (simp to_z-of_z at c.in_default-fits.ensures.too_large) in
    comes_to-too_large c.args.serial new p t found (tests.0 refl)

pub returns-then-unsigned_abs : goal.returns-then-unsigned_abs
returns-then-unsigned_abs c =
    let p = c.args.self.now in
    let t = c.in-Some.term in
    let found : term_of c.args.serial p.terms ≡ Some t = sym c.in-Some.ensures.exact in
    let fits_t = fits64 t.coefficient c.in-Some.ensures.small in
    let fits : FitsSigned w64 c.constant_of_sum-constant.result = search rules in
    let fits_own : FitsSigned w32 c.self.inside.constant = search rules in
    let fits_new : FitsSigned w32 c.constant.result = search rules in
    let terms_are : terms_in c.self.inside.pool.now c.self.inside.list.slot ≡ p.terms = ap (λ f. f.terms) c.self.view_is in
    let tests = rw (terms_are, c.terms.ensures.same) at (simp to_z-of_z at c.in-Some-fits.ensures.too_large) in
    let none : ¬ HasTooLarge (sum c.args.serial c.args.new.now p t found) = λ w. let large = tests.1 w in absurd cc in
    let own = ap (λ f. f.constant) c.self.view_is in
    let made = rw (own, c.constant.ensures) at (simp to_z-of_z at c.constant_of_sum-constant.ensures) in
    let magnitude = simp to_z-of_z at c.unsigned_abs.ensures.value in
    let same = ap unsigned_abs made in
    comes_to-overflows c.args.serial c.args.new.now p t found none (omega (arith, magnitude, same, c.if-unsigned_abs.true))

pub returns : goal.returns
returns c =
    let p = c.args.self.now in
    let t = c.in-Some.term in
    let found : term_of c.args.serial p.terms ≡ Some t = sym c.in-Some.ensures.exact in
    let fits_t = fits64 t.coefficient c.in-Some.ensures.small in
    let fits : FitsSigned w64 c.constant_of_sum-constant.result = search rules in
    let fits_own : FitsSigned w32 c.self.inside.constant = search rules in
    let fits_new : FitsSigned w32 c.constant.result = search rules in
    let terms_are : terms_in c.self.inside.pool.now c.self.inside.list.slot ≡ p.terms = ap (λ f. f.terms) c.self.view_is in
    let tests = rw (terms_are, c.terms.ensures.same) at (simp to_z-of_z at c.in-Some-fits.ensures.too_large) in
    let none : ¬ HasTooLarge (sum c.args.serial c.args.new.now p t found) = λ w. let large = tests.1 w in absurd cc in
    let own = ap (λ f. f.constant) c.self.view_is in
    let made = rw (own, c.constant.ensures) at (simp to_z-of_z at c.constant_of_sum-constant.ensures) in
    let magnitude = simp to_z-of_z at c.unsigned_abs.ensures.value in
    let same = ap unsigned_abs made in
    let before = c.len.ensures ∙ ap length c.read.ensures.same ∙ ap length terms_are in
    let after = rw (terms_are, c.terms.ensures.same) at (simp to_z-of_z at c.in-Some-fits.ensures.count) in
    comes_to-changed c.args.serial c.args.new.now p t found c.len.result c.in-Some-fits.count none (omega (arith, magnitude, same, c.if-unsigned_abs.false)) before after
