use Rattle.std.proofs.Common.{◌<◌, ◌+◌, pos, length, drop, sym, ap, ◌∙◌, arith, rules}
use Rattle.std.specs.List.{Contains}
use Rattle.std.proofs.lemmas.List.{drop-drop, take_all}
use Rattle.std.proofs.lemmas.List.Elements.{All-drop, All-more}
use Rattle.mp_pool.specs.declared.Term.{Term}
use Rattle.mp_solver.specs.Storage.Rows.{holders_of, IsListedFor}
use Rattle.mp_solver.proofs.RowLemmas.{StaysListed-trans, IsListedFor-stays}
use Rattle.mp_solver.proofs.rows.add_others.Goals as goal
use Rattle.mp_solver.proofs.rows.add_others.Goals.{then-not-add_unless_next, else-not-add_unless_next}

abbrev none : Term
none = record { serial = 0; coefficient = pos 0 }

pub terms-preserved : goal.terms-preserved
terms-preserved c =
    let new = c.args.new.now in
    let i = c.terms.term-index in
    let within : i < length new = omega arith in
    let before = c.terms.holders.items in
    let after = c.add_unless_next.new.holders.items in
    let step = c.add_unless_next.ensures in
    let rest = step.rest.1 ∙ ap (drop step.rest.0) c.terms.invariant.rest.1 ∙ drop-drop step.rest.0 c.terms.invariant.rest.0 c.args.old in
    record {
      stays = StaysListed-trans c.args.holders.now.items before after c.terms.invariant.stays step.stays;
      rest = (c.terms.invariant.rest.0 + step.rest.0, rest);
      added = λ all old.
          elim c.if-not-add_unless_next.branch [
            | then-not-add_unless_next w ↦ absurd cc
            | else-not-add_unless_next w ↦
                let so_far = c.terms.invariant.added (sym w.all-is ∙ all) old in
                let old_now = IsListedFor-stays c.args.holders.now.items before c.args.row c.args.old c.terms.invariant.stays old in
                let rest_now : IsListedFor before c.args.row c.add_unless_next.new.rest = rw rest (All-drop (λ t. Contains (holders_of before t.serial) c.args.row) _ c.args.old old_now) in
                let one = step.added (search rules) rest_now in
                All-more (λ t. Contains (holders_of after t.serial) c.args.row) new i none within (IsListedFor-stays before after c.args.row _ step.stays so_far) one
          ];
    }

pub returns-clause-added : goal.returns-clause-added
returns-clause-added c = λ all old.
    let listed = c.terms.invariant.added (search rules) old in
    rw (take_all c.terms.term-index c.args.new.now (omega arith)) at listed
