use Rattle.std.proofs.Common.{rules}
use Rattle.mpost.proofs.Outcomes.{refused_by, reads_counted_by}
use Rattle.mpost.proofs.top.mpost_main.Goals as goal

pub returns-in-Refused-clause-headline : goal.returns-in-Refused-clause-headline
returns-in-Refused-clause-headline g c = rw c.in-Refused.ensures (refused_by _ _ _ _ (search rules) (search rules) c.refuse.ensures)

pub returns-in-Accepted-clause-headline : goal.returns-in-Accepted-clause-headline
returns-in-Accepted-clause-headline g c = rw c.in-Accepted.ensures c.run_and_write.ensures.headline

pub returns-in-Accepted-clause-reads_counted : goal.returns-in-Accepted-clause-reads_counted
returns-in-Accepted-clause-reads_counted g c = reads_counted_by _ _ _ _ c.run_and_write.ensures.headline
