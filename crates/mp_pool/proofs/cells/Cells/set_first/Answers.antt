use Rattle.std.proofs.Common.{◌<◌, arith, length}
use Rattle.mp_pool.proofs.Seen.{length_seen, count_seen, first_in, chain_seen}
use Rattle.mp_pool.proofs.Writing.{sound_written, chains_written}
use Rattle.mp_pool.proofs.cells.Cells.set_first.Goals as goal

pub write_first-requires-clause-first : goal.write_first-requires-clause-first
write_first-requires-clause-first c =
    let n = count_seen _ _ _ c.self.view_is in
    let l = length_seen _ _ _ c.args.chain c.self.view_is c.requires.is in
    let f : c.args.chain < length c.self.inside.chains.items = omega arith in
    first_in _ _ c.args.chain c.self.invariant f (omega arith)

pub invariant_of-self : goal.invariant_of-self
invariant_of-self c =
    let n = count_seen _ _ _ c.self.view_is in
    let f : c.args.chain < length c.self.inside.chains.items = omega arith in
    sound_written c.self.inside.cells.items _ c.self.inside.chains.items c.args.chain f _ c.self.invariant c.write_first.ensures

pub returns : goal.returns
returns c =
    let n = count_seen _ _ _ c.self.view_is in
    let l = length_seen _ _ _ c.args.chain c.self.view_is c.requires.is in
    let f : c.args.chain < length c.self.inside.chains.items = omega arith in
    rw (chain_seen _ _ _ c.args.chain c.self.view_is c.requires.is, ← c.self.view_is)
    (chains_written c.self.inside.cells.items _ c.self.inside.chains.items c.args.chain f _ c.self.invariant c.write_first.ensures (omega arith))
