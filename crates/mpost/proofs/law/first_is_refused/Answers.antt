use Rattle.mpost.proofs.LineLemmas.{first_is_refused}
use Rattle.mpost.proofs.law.first_is_refused.Goals as goal

pub returns : goal.returns
returns c = first_is_refused
