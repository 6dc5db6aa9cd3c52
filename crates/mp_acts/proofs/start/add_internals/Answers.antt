use Rattle.std.proofs.Common.{rules, pos, [], get_or, SFits, w32, sym, ◌∙◌}
use Rattle.std.proofs.lemmas.Int.{to_z-of_z}
use Rattle.mp_acts.proofs.TableLemmas.{internals_step, internals_end}
use Rattle.mp_acts.proofs.start.add_internals.Goals as goal

pub internals-preserved : goal.internals-preserved
internals-preserved c =
    let fits : SFits w32 (get_or c.args.internals.now c.internals.name-index (record { ref_ptr = (0, 0); now = [] }, pos 0)).1 = search rules in
    let added = simp (c.in_ok-k.ensures.table, c.in_ok-k.ensures.number, to_z-of_z) at c.in_ok-number_of.ensures.table in
    internals_step (λ x. (x.0.now, x.1)) c.args.internals.now c.internals.symbols c.number_of.new.self c.internals.name-index _ c.internals-test.true added
    ∙ c.internals.invariant

pub returns : goal.returns
returns c = sym (internals_end (λ x. (x.0.now, x.1)) c.args.internals.now c.internals.symbols c.internals.name-index c.internals-test.false) ∙ c.internals.invariant
