use Rattle.std.proofs.Common.{◌<◌, arith, length}
use Rattle.mp_pool.proofs.Seen.{length_seen, count_seen, first_in, chain_seen, first_seen}
use Rattle.mp_pool.proofs.cells.Cells.first.Goals as goal

pub term_at-requires-clause-first : goal.term_at-requires-clause-first
term_at-requires-clause-first c =
    let n = count_seen _ _ _ c.self.view_is in
    let l = length_seen _ _ _ c.args.chain c.self.view_is c.requires.is in
    let f : c.args.chain < length c.self.inside.chains.items = omega arith in
    first_in _ _ c.args.chain c.self.invariant f (omega arith)

pub returns : goal.returns
returns c =
    let l = length_seen _ _ _ c.args.chain c.self.view_is c.requires.is in
    rw (chain_seen _ _ _ c.args.chain c.self.view_is c.requires.is, c.term_at.ensures) (first_seen _ _ _ (omega arith))
