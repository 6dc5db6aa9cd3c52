use Rattle.std.proofs.Common.{arith}
use Rattle.std.proofs.lemmas.Grind.{common_steps}
use Rattle.mp_files.proofs.Streams.{start_at_end}
use Rattle.mp_files.proofs.real.read_start.Goals as goal

pub returns-then-taken-eq0-clause-start : goal.returns-then-taken-eq0-clause-start
returns-then-taken-eq0-clause-start g c =
    rw c.from_vec.ensures (start_at_end _ _ _ _ _ _ c.loop-part.invariant.read c.in_ok-taken.ensures.bytes c.if-taken-eq0.true (grind (arith, common_steps)) c.loop-part.invariant.within)
