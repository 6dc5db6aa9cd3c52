use Rattle.std.proofs.Common.{length}
use Rattle.mp_solver.specs.Reduction.{reduce_of}
use Rattle.mp_ops.proofs.ReachLemmas.{is_over, ok_within, reduce_within}
use Rattle.mp_ops.proofs.store.Store.owned_up_to_date.Goals as goal

pub reduce_owned-requires : goal.reduce_owned-requires
reduce_owned-requires c = is_over c.self.inside.system.now.unknowns.states c.args.form c.self.invariant.few (rw (← c.self.view_is) at c.requires)

pub returns-clause-within : goal.returns-clause-within
returns-clause-within c =
    let states = c.self.inside.system.now.unknowns.states in
    rw (← c.self.view_is)
    (ok_within (length states) _ (reduce_of states c.args.form) c.in_ok-branch.field-0 c.in_ok-branch.was c.in_ok-reduce_owned.ensures.exact
    (reduce_within states (length states) c.args.form c.self.invariant.forms (rw (← c.self.view_is) at c.requires)))
