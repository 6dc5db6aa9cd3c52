use Rattle.std.proofs.Common.{◌≡◌, ◌<◌, length, ap, sym, ◌∙◌, arith}
use Rattle.std.proofs.lemmas.List.{get_or_default}
use Rattle.std.proofs.lemmas.List.Sums.{get_or-le-sum_by}
use Rattle.mp_pool.specs.declared.cells.Ends.{Ends}
use Rattle.mp_pool.specs.Storage.Chains.{ends_at, no_ends}
use Rattle.mp_pool.proofs.Seen.{count_seen, length-terms}
use Rattle.mp_pool.proofs.cells.Cells.read.Goals as goal

pub of-requires : goal.of-requires
of-requires c =
    let n = count_seen c.self.inside.cells.items c.self.inside.chains.items c.args.self.now c.self.view_is in
    let within : c.args.chain < length c.self.inside.chains.items = omega (arith, n, c.requires) in
    let ends : c.index-ends.result.now ≡ ends_at c.self.inside.chains.items c.args.chain = sym (get_or_default c.self.inside.chains.items c.args.chain no_ends c.index-ends.result.now within ∙ sym c.index-ends.ensures) in
    rw (ends, c.deref.ensures.value) (λ i lt. c.self.invariant.within c.args.chain i within lt)

pub returns-clause-few : goal.returns-clause-few
returns-clause-few c =
    let ends = c.index-ends.result.now in
    let chains = c.self.inside.chains.items in
    let n = count_seen c.self.inside.cells.items chains c.args.self.now c.self.view_is in
    let within : c.args.chain < length chains = omega (arith, n, c.requires) in
    let least = get_or-le-sum_by (λ (e : Ends). e.length) chains c.args.chain ends within in
    let is = ap (λ (e : Ends). e.length) c.index-ends.ensures in
    omega (arith, ap length c.of.ensures, length-terms c.deref.result.now ends.length ends.first, least, is, c.self.invariant.total, c.self.invariant.few)
