use Rattle.mp_pool.proofs.Twos.{set_one-same, set_one-only}
use Rattle.mp_pool.proofs.cells.Cells.put_first.Goals as goal

pub returns-clause-chain : goal.returns-clause-chain
returns-clause-chain c = set_one-same _ _ c.args.chain _ c.set_first.ensures c.requires.is

pub returns-clause-rest : goal.returns-clause-rest
returns-clause-rest c = set_one-only _ _ c.args.chain _ c.set_first.ensures
