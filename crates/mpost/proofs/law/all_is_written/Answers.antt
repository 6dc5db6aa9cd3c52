use Rattle.mpost.proofs.Outcomes.{all_is_written}
use Rattle.mpost.proofs.law.all_is_written.Goals as goal

pub returns : goal.returns
returns c = all_is_written
