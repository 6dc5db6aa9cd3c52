use Rattle.mp_acts.proofs.GroupLemmas.{undone_more}
use Rattle.mp_acts.proofs.state.State.do_end_group.Goals as goal

pub returns-in_err-undo-clause-part : goal.returns-in_err-undo-clause-part
returns-in_err-undo-clause-part c =
    λ _. undone_more c.args.self.now c.changes.self c.undo.new.self c.changes.invariant.part c.undo.ensures.symbols c.undo.ensures.rest
