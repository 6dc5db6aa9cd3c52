use Rattle.std.proofs.Common.{length, rules, SFits, w32}
use Rattle.std.proofs.lemmas.Int.{to_z-of_z}
use Rattle.mp_forms.specs.Forms.{form_over_scaled}
use Rattle.mp_ops.proofs.ReachLemmas.{ok_within, quotient_within}
use Rattle.mp_ops.proofs.store.Store.divided.Goals as goal

pub returns-clause-within : goal.returns-clause-within
returns-clause-within c =
    let n = length c.args.self.now.unknowns in
    let fits : SFits w32 c.args.divisor = search rules in
    let exact = simp to_z-of_z at c.in_ok-divide_by.ensures.exact in
    ok_within n _ (form_over_scaled c.args.divisor c.args.form.now) c.in_ok-branch.field-0 c.in_ok-branch.was exact (quotient_within n c.args.divisor c.args.form.now c.requires)
