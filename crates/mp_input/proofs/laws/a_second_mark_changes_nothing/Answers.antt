use Rattle.mp_input.proofs.LawLemmas.{ends_once}
use Rattle.mp_input.proofs.laws.a_second_mark_changes_nothing.Goals as goal

pub returns : goal.returns
returns c = ends_once
