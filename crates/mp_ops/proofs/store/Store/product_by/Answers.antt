use Rattle.std.proofs.Common.{◌≡◌, ◌<◌, List, [], ◌∷◌, length, refl, SFits, w32, arith, rules}
use Rattle.std.proofs.lemmas.Int.{to_z-of_z}
use Rattle.std.proofs.lemmas.Bool.Decides.{nat_tests}
use Rattle.mp_pool.specs.declared.Term.{Term}
use Rattle.mp_forms.specs.Forms.{LinearForm, form_times_scaled}
use Rattle.mp_ops.specs.Operands.{or_refused}
use Rattle.mp_ops.specs.Arithmetic.{product_by}
use Rattle.mp_ops.proofs.store.Store.product_by.Goals as goal

-- the right factor is known, or else the left one
right_known : (p q : LinearForm) (ts us : List Term) → length us ≡ 0 → product_by p q ts us ≡ or_refused (form_times_scaled q.constant p)
right_known p q ts [] e = refl
right_known p q ts (u ∷ us) e = absurd (omega (arith, e))

left_known : (p q : LinearForm) (ts us : List Term) → length ts ≡ 0 → 0 < length us → product_by p q ts us ≡ or_refused (form_times_scaled p.constant q)
left_known p q [] [] e more = absurd (omega (arith, more))
left_known p q [] (u ∷ us) e more = refl
left_known p q (t ∷ ts) us e more = absurd (omega (arith, e))

pub returns-then-is_empty-clause-exact : goal.returns-then-is_empty-clause-exact
returns-then-is_empty-clause-exact c =
    let fits : SFits w32 c.constant.result = search rules in
    let exact = simp to_z-of_z at c.times.ensures.exact in
    let none : length c.args.q.now.terms ≡ 0 = grind (arith, nat_tests, c.if-is_empty.ensures, c.terms.ensures.same) in
    rw (right_known c.args.p.now c.args.q.now c.args.p.now.terms c.args.q.now.terms none) (rw c.constant.ensures at exact)

pub returns-then-is_empty-2-clause-exact : goal.returns-then-is_empty-2-clause-exact
returns-then-is_empty-2-clause-exact c =
    let fits : SFits w32 c.constant-then-is_empty-2.result = search rules in
    let exact = simp to_z-of_z at c.times-then-is_empty-2.ensures.exact in
    let none : length c.args.p.now.terms ≡ 0 = grind (arith, nat_tests, c.if-is_empty-2.ensures, c.terms-else-is_empty.ensures.same) in
    let some : 0 < length c.args.q.now.terms = grind (arith, nat_tests, c.if-is_empty.ensures, c.terms.ensures.same) in
    rw (left_known c.args.p.now c.args.q.now c.args.p.now.terms c.args.q.now.terms none some) (rw c.constant-then-is_empty-2.ensures at exact)
