use Rattle.std.proofs.Common.{ap, ◌∙◌}
use Rattle.std.specs.Option.{option_and_then}
use Rattle.std.specs.FinMap.{get}
use Rattle.mp_vartree.proofs.ListLemmas.{empty_from_length}
use Rattle.mp_vartree.proofs.ResultLemmas.{on_ok}
use Rattle.mp_vartree.proofs.GatherLemmas.{gathers_child}
use Rattle.mp_vartree.proofs.serials.PatternTree+Group+Variable.+add_made.Goals as goal

pub returns-in-None : goal.returns-in-None
returns-in-None t c = rw (empty_from_length c.in-None.ensures.cases, c.if-below.true) c.add_all.ensures

pub returns-in-None-2 : goal.returns-in-None-2
returns-in-None-2 t c = rw (empty_from_length c.in-None.ensures.cases, c.if-below.false) c.add_held.ensures

pub returns-in-Some-child : goal.returns-in-Some-child
returns-in-Some-child t c =
    rw c.in-Some.ensures.cases.0
    (on_ok c.add_made.result
    (gathers_child c.args.into.now.keys c.add_made.new.into.keys c.args.self.now.paths c.in-Some-child.child.now.paths c.args.below c.in-Some.shape.now c.in-Some.rest.now
    (λ rest. c.child.ensures rest ∙ ap (option_and_then (λ child. get child.now.paths rest)) c.in-Some-child.is)) c.add_made.ensures)
