use Rattle.std.proofs.Common.{None, get_or, sym, ap, ◌∙◌, subst, arith}
use Rattle.std.specs.Option.{IsSome}
use Rattle.mp_pool.specs.Storage.Chains.{chain_of}
use Rattle.mp_pool.proofs.SlotLemmas.{taken_is, list_is, slot_in, chain_in}
use Rattle.mp_pool.proofs.pool.Pool.read.Goals as goal

pub read-requires : goal.read-requires
read-requires c =
    let slot = c.args.list.slot in
    let some = subst (λ p. IsSome (get_or p.slots slot None)) (sym c.self.view_is) c.requires in
    let there = taken_is c.self.inside.cells c.self.inside.taken.items slot some in
    omega (arith, chain_in c.self.inside.cells c.self.inside.taken.items c.self.inside.vacant.items _ slot c.self.invariant there, c.chain.ensures)

pub returns-clause-same : goal.returns-clause-same
returns-clause-same c =
    let slot = c.args.list.slot in
    let some = subst (λ p. IsSome (get_or p.slots slot None)) (sym c.self.view_is) c.requires in
    let there = taken_is c.self.inside.cells c.self.inside.taken.items slot some in
    let list = list_is c.self.inside.cells c.self.inside.taken.items slot there in
    rw (← c.self.view_is, list) (c.read.ensures.same ∙ ap (λ k. chain_of c.self.inside.cells k) c.chain.ensures)

pub returns-clause-ordered : goal.returns-clause-ordered
returns-clause-ordered c =
    let slot = c.args.list.slot in
    let some = subst (λ p. IsSome (get_or p.slots slot None)) (sym c.self.view_is) c.requires in
    let there = taken_is c.self.inside.cells c.self.inside.taken.items slot some in
    rw (c.read.ensures.same, c.chain.ensures) (c.self.invariant.terms slot (slot_in c.self.inside.taken.items slot there))
