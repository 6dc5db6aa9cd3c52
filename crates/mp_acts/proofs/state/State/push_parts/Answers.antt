use Rattle.std.proofs.Common.{sym, ◌∙◌}
use Rattle.mp_vartree.specs.declared.names.Part.TheVariants as part
use Rattle.mp_acts.specs.Reach.{reach_of_part}
use Rattle.mp_acts.proofs.WithinLemmas.{within_more, greatest_each}
use Rattle.mp_acts.proofs.TextLemmas.{parts_step, parts_end}
use Rattle.mp_acts.proofs.state.State.push_parts.Goals as goal

pub push_part-requires : goal.push_part-requires
push_part-requires c =
    within_more _ _ _ (greatest_each reach_of_part c.args.parts.now c.parts.part-index (part.Sym 0) c.parts-test.true) c.requires

pub parts-preserved : goal.parts-preserved
parts-preserved c =
    parts_step c.args.self.now c.args.parts.now c.parts.part-index (part.Sym 0) c.parts.text c.push_part.new.text c.parts.last c.parts-test.true c.in_ok-push_part.ensures
    ∙ c.parts.invariant

pub returns : goal.returns
returns c = sym (parts_end c.args.self.now c.args.parts.now c.parts.part-index c.parts.text c.parts.last c.parts-test.false) ∙ c.parts.invariant
