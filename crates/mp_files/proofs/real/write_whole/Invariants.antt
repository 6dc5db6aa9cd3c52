use Rattle.std.proofs.Common.{length}
use Rattle.mp_files.specs.Streams.{Leads}
use Rattle.mp_files.proofs.real.write_whole.Given as goal

-- what was written and what is left make the whole piece
abbrev pub invariant-loop-rest : goal.invariant-loop-rest
invariant-loop-rest g l = Leads (g.W.Write.contents l.fn.to) (g.W.Write.contents l.to) l.rest l.fn.piece

abbrev pub decreases-loop-rest : goal.decreases-loop-rest
decreases-loop-rest g l = length l.rest
