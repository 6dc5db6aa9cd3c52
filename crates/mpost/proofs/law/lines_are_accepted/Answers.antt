use Rattle.mpost.proofs.LineLemmas.{lines_are_accepted}
use Rattle.mpost.proofs.law.lines_are_accepted.Goals as goal

pub returns : goal.returns
returns c = lines_are_accepted
