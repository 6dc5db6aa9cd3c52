use Rattle.std.proofs.Common.{pos}
use Rattle.mp_vartree.proofs.GatherLemmas.{added_next}
use Rattle.mp_vartree.proofs.serials.add_made.Goals as goal

pub terms-preserved : goal.terms-preserved
terms-preserved c n =
    added_next c.args.into.now.keys c.terms.into.keys c.insert.new.self.keys c.terms-term-items.result.now c.terms.term-index (record { serial = 0; coefficient = pos 0 }) c.terms-test.true
    c.in_ok-insert.ensures.updates.0 n (c.terms.invariant n)
