use Rattle.std.proofs.Common.{◌<◌, arith, length, ◌-◌}
use Rattle.mp_pool.specs.Storage.Chains.{ends_at}
use Rattle.mp_pool.proofs.Seen.{length_seen, count_seen, first_in, last_in, chain_seen}
use Rattle.mp_pool.proofs.Totals.{room_for_one}
use Rattle.mp_pool.proofs.Shifting.{sound_after, chains_after}
use Rattle.mp_pool.proofs.cells.Cells.shift.Goals as goal

pub relink-requires-clause-room : goal.relink-requires-clause-room
relink-requires-clause-room c =
    let n = count_seen _ _ _ c.self.view_is in
    let l = length_seen _ _ _ c.args.from c.self.view_is c.requires.from in
    let f : c.args.from < length c.self.inside.chains.items = omega arith in
    let t : c.args.to < length c.self.inside.chains.items = omega arith in
    let r = room_for_one c.self.inside.chains.items c.args.from c.args.to f t c.requires.other (omega arith) in
    let s = c.self.invariant in omega (arith, s.total, s.few)

pub relink-requires-clause-first : goal.relink-requires-clause-first
relink-requires-clause-first c =
    let n = count_seen _ _ _ c.self.view_is in
    let l = length_seen _ _ _ c.args.from c.self.view_is c.requires.from in
    let f : c.args.from < length c.self.inside.chains.items = omega arith in
    first_in _ _ c.args.from c.self.invariant f (omega arith)

pub relink-requires-clause-last : goal.relink-requires-clause-last
relink-requires-clause-last c = λ more.
    let n = count_seen _ _ _ c.self.view_is in
    let t : c.args.to < length c.self.inside.chains.items = omega arith in
    last_in _ _ c.args.to c.self.invariant t ((ends_at c.self.inside.chains.items c.args.to).length - 1) (omega arith)

pub invariant_of-self : goal.invariant_of-self
invariant_of-self c =
    let n = count_seen _ _ _ c.self.view_is in
    let l = length_seen _ _ _ c.args.from c.self.view_is c.requires.from in
    let f : c.args.from < length c.self.inside.chains.items = omega arith in
    let t : c.args.to < length c.self.inside.chains.items = omega arith in
    let some : 0 < (ends_at c.self.inside.chains.items c.args.from).length = omega arith in
    sound_after c.self.inside.cells.items _ c.self.inside.chains.items _ c.args.from c.args.to c.requires.other f t some c.self.invariant c.relink.ensures

pub returns : goal.returns
returns c =
    let n = count_seen _ _ _ c.self.view_is in
    let l = length_seen _ _ _ c.args.from c.self.view_is c.requires.from in
    let f : c.args.from < length c.self.inside.chains.items = omega arith in
    let t : c.args.to < length c.self.inside.chains.items = omega arith in
    let some : 0 < (ends_at c.self.inside.chains.items c.args.from).length = omega arith in
    rw (chain_seen _ _ _ c.args.from c.self.view_is c.requires.from, chain_seen _ _ _ c.args.to c.self.view_is c.requires.to, ← c.self.view_is)
    (chains_after c.self.inside.cells.items _ c.self.inside.chains.items _ c.args.from c.args.to c.requires.other f t some c.self.invariant c.relink.ensures)
