use Rattle.std.proofs.Common.{arith}
use Rattle.mp_pool.proofs.Seen.{length_seen}
use Rattle.mp_pool.proofs.cells.Cells.is_empty.Goals as goal

pub returns : goal.returns
returns c =
    let l = length_seen _ _ _ c.args.chain c.self.view_is c.requires in grind (arith, l)
