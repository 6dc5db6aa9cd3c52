use Rattle.std.proofs.Common.{length, rules, SFits, w64}
use Rattle.std.proofs.lemmas.Int.{to_z-of_z}
use Rattle.mp_forms.specs.Forms.{sum_of}
use Rattle.mp_ops.proofs.ReachLemmas.{ok_within, sum_within}
use Rattle.mp_ops.proofs.store.Store.combined.Goals as goal

pub returns-clause-within : goal.returns-clause-within
returns-clause-within c =
    let n = length c.args.self.now.unknowns in
    let fits : SFits w64 c.args.f = search rules in
    let exact = simp to_z-of_z at c.in_ok-into_sum.ensures.exact in
    ok_within n _ (sum_of c.args.f c.args.p c.args.q.now) c.in_ok-branch.field-0 c.in_ok-branch.was exact
    (sum_within n c.args.f c.args.p c.args.q.now c.requires.left c.requires.right)
