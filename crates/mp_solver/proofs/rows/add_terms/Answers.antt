use Rattle.std.proofs.Common.{sym, subst}
use Rattle.mp_solver.specs.Storage.Rows.{terms_in, IsListedFor}
use Rattle.mp_solver.proofs.rows.add_terms.Goals as goal

pub returns-in-Some-clause-added : goal.returns-in-Some-clause-added
returns-in-Some-clause-added c = λ all old.
    c.add_others.ensures.added all (rw (c.terms.ensures.same) (subst (λ s. IsListedFor c.args.holders.now.items c.args.row (terms_in s)) (sym c.in-Some.ensures) old))
