use Rattle.std.proofs.Common.{ap, arith}
use Rattle.mp_solver.proofs.RowLemmas.{IsIndexed-pushed}
use Rattle.mp_solver.proofs.system.System.fresh.Goals as goal

pub invariant_of-self-2 : goal.invariant_of-self-2
invariant_of-self-2 c =
    let made = (c.in_ok-push.ensures {u = tt}).ok in
    rw (c.push_reserved.ensures.items, c.push_reserved-2.ensures.items, c.new.ensures, c.reserve.ensures.items, c.reserve-2.ensures.items)
    (IsIndexed-pushed c.self.inside.forms.states c.push.new.self.states c.self.inside.names.items _ c.self.inside.dependent c.self.inside.holders.items c.self.inside.is_listed (ap (λ h. h.states) made)
    (omega (arith, c.count.ensures, c.if-count-ge-UNKNOWN_LIMIT.false)) c.self.invariant)
