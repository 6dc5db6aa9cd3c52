use Rattle.mp_files.proofs.Streams.{leads_on}
use Rattle.mp_files.proofs.real.write_whole.Goals as goal

pub loop-rest-preserved : goal.loop-rest-preserved
loop-rest-preserved g c = leads_on _ _ _ c.loop-rest.rest.now c.args.piece.now c.in-Ok.taken c.loop-rest.invariant c.in-Ok.ensures.bytes
