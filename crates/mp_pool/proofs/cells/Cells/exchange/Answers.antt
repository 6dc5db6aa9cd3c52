use Rattle.std.proofs.Common.{◌<◌, arith, ap, ◌∙◌, length}
use Rattle.mp_pool.specs.Storage.Chains.{chain_of}
use Rattle.mp_pool.proofs.Seen.{count_seen}
use Rattle.mp_pool.proofs.Trading.{sound_traded, chain_traded, only_traded, traded-a, traded-b}
use Rattle.mp_pool.proofs.cells.Cells.exchange.Goals as goal

pub invariant_of-self : goal.invariant_of-self
invariant_of-self c =
    let n = count_seen _ _ _ c.self.view_is in
    let a : c.args.a < length c.self.inside.chains.items = omega arith in
    let b : c.args.b < length c.self.inside.chains.items = omega arith in
    sound_traded _ _ _ c.args.a c.args.b a b c.self.invariant c.trade.ensures

pub returns-clause-a : goal.returns-clause-a
returns-clause-a c =
    let n = count_seen _ _ _ c.self.view_is in
    let a : c.args.a < length c.self.inside.chains.items = omega arith in
    let b : c.args.b < length c.self.inside.chains.items = omega arith in
    rw (← c.self.view_is) (chain_traded _ _ _ c.args.a c.args.b a b c.self.invariant c.trade.ensures c.args.a
    ∙ ap (chain_of _) (traded-a c.args.a c.args.b))

pub returns-clause-b : goal.returns-clause-b
returns-clause-b c =
    let n = count_seen _ _ _ c.self.view_is in
    let a : c.args.a < length c.self.inside.chains.items = omega arith in
    let b : c.args.b < length c.self.inside.chains.items = omega arith in
    rw (← c.self.view_is) (chain_traded _ _ _ c.args.a c.args.b a b c.self.invariant c.trade.ensures c.args.b
    ∙ ap (chain_of _) (traded-b c.args.a c.args.b))

pub returns-clause-rest : goal.returns-clause-rest
returns-clause-rest c =
    let n = count_seen _ _ _ c.self.view_is in
    let a : c.args.a < length c.self.inside.chains.items = omega arith in
    let b : c.args.b < length c.self.inside.chains.items = omega arith in
    rw (← c.self.view_is) (only_traded _ _ _ c.args.a c.args.b a b c.self.invariant c.trade.ensures)
