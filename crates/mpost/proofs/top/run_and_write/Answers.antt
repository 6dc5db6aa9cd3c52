use Rattle.std.proofs.Common.{rules, arith}
use Rattle.mpost.proofs.Outcomes.{starved_by, ran_by, later_by}
use Rattle.mpost.proofs.top.run_and_write.Goals as goal

pub returns-in_default-clause-headline : goal.returns-in_default-clause-headline
returns-in_default-clause-headline g c = starved_by _ _ _ _ (omega arith) (search rules) c.say.ensures

pub returns-then-is_starved-clause-headline : goal.returns-then-is_starved-clause-headline
returns-then-is_starved-clause-headline g c = starved_by _ _ _ _ (search rules) (search rules) c.say-then-is_starved.ensures

pub returns-in_default-end_line-clause-headline : goal.returns-in_default-end_line-clause-headline
returns-in_default-end_line-clause-headline g c = starved_by _ _ _ _ (later_by _ _ _ _ (c.run-lines.ensures.course.follows c.if-is_starved.ensures)) (search rules) c.say-in_default-end_line.ensures

pub returns-clause-headline : goal.returns-clause-headline
returns-clause-headline g c =
    ran_by c.as_slice.result.now c.budget.result _ c.run-lines.result c.deliver-at.result _ _ _ (search rules) (search rules)
    (c.run-lines.ensures.course.follows c.if-is_starved.ensures) (search rules) (search rules)
