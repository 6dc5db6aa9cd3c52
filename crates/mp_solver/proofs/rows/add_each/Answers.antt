use Rattle.std.proofs.Common.{◌<◌, pos, length, sym, ◌∙◌, arith, rules}
use Rattle.std.proofs.lemmas.List.{take_all}
use Rattle.std.proofs.lemmas.List.Elements.{All-more}
use Rattle.std.specs.List.{Contains}
use Rattle.mp_pool.specs.declared.Term.{Term}
use Rattle.mp_solver.specs.Storage.Rows.{holders_of}
use Rattle.mp_solver.proofs.RowLemmas.{StaysListed-trans, IsListedFor-stays}
use Rattle.mp_solver.proofs.rows.add_each.Goals as goal
use Rattle.mp_solver.proofs.rows.add_each.Goals.{then-not-add, else-not-add}

abbrev none : Term
none = record { serial = 0; coefficient = pos 0 }

pub terms-preserved : goal.terms-preserved
terms-preserved c =
    let new = c.args.new.now in
    let i = c.terms.term-index in
    let within : i < length new = omega arith in
    let before = c.terms.holders.items in
    let after = c.add.new.holders.items in
    let step = c.add.ensures in
    record {
      stays = StaysListed-trans c.args.holders.now.items before after c.terms.invariant.stays step.stays;
      added = λ all.
          elim c.if-not-add.branch [
            | then-not-add w ↦ absurd cc
            | else-not-add w ↦
                let so_far = c.terms.invariant.added (sym w.all-is ∙ all) in
                let one = step.added (search rules) in
                All-more (λ t. Contains (holders_of after t.serial) c.args.row) new i none within (IsListedFor-stays before after c.args.row _ step.stays so_far) one
          ];
    }

pub returns-clause-added : goal.returns-clause-added
returns-clause-added c = λ all. rw (take_all c.terms.term-index c.args.new.now (omega arith)) at (c.terms.invariant.added (search rules))
