use Rattle.std.proofs.Common.{sym, ◌∙◌, arith}
use Rattle.mp_pool.proofs.Seen.{length_seen, count_seen}
use Rattle.mp_pool.proofs.cells.Cells.length.Goals as goal

pub returns : goal.returns
returns c =
    let n = count_seen c.self.inside.cells.items c.self.inside.chains.items c.args.self.now c.self.view_is in
    c.count_at.ensures
    ∙ sym (length_seen c.self.inside.cells.items c.self.inside.chains.items c.args.self.now c.args.chain c.self.view_is (omega (arith, n, c.len.ensures, c.self.inside.chains.ok.0, c.if-chain-len.false)))
