use Rattle.mp_pool.proofs.Twos.{set_two-first, set_two-second, set_two-only}
use Rattle.mp_pool.proofs.cells.Cells.step.Goals as goal

pub returns-clause-from : goal.returns-clause-from
returns-clause-from c = set_two-first _ _ c.args.from c.args.to _ _ c.shift.ensures c.requires.from c.requires.other

pub returns-clause-to : goal.returns-clause-to
returns-clause-to c = set_two-second _ _ c.args.from c.args.to _ _ c.shift.ensures c.requires.to

pub returns-clause-rest : goal.returns-clause-rest
returns-clause-rest c = set_two-only _ _ c.args.from c.args.to _ _ c.shift.ensures
