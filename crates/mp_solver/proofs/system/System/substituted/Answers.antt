use Rattle.std.proofs.Common.{◌≢◌, None, ◌+◌, length, get_or, drop, sym, ap, ◌∙◌, subst, arith}
use Rattle.std.proofs.lemmas.List.{drop_more, drop_all}
use Rattle.mp_solver.specs.Elimination.{solved_for, over_negative, without}
use Rattle.mp_solver.proofs.SubstitutionLemmas.{tally-start}
use Rattle.mp_solver.proofs.TermLists.{Each-changed_terms, Each-without}
use Rattle.mp_solver.specs.Solved.{IsSolved}
use Rattle.mp_solver.proofs.EliminationLemmas.{pivot_within}
use Rattle.mp_solver.proofs.RowLemmas.{row_within}
use Rattle.mp_solver.proofs.StepLemmas.{step-unchanged, step-changed, step-enough, step-overflows, step-too_large, solution_is}
use Rattle.mp_solver.proofs.VisitLemmas.{visit-at, visit-none, visit-all, visit-enough, peak-at, peak-start, peak-same, peak-step}
use Rattle.mp_solver.proofs.AnswerLemmas.{answer-too_large}
use Rattle.mp_solver.proofs.system.System.substituted.Goals as goal
use Rattle.mp_solver.proofs.system.System.substituted.Goals.{in-Some+in-Absent, in-Some+in-Changed, in-Some+in-Overflows, in_default}

pub rows_of-requires : goal.rows_of-requires
rows_of-requires c = pivot_within c.args.self.now.unknowns.states c.args.residual.now c.requires.residual c.args.pivot c.requires.pivot

pub change-requires-clause-enough : goal.change-requires-clause-enough
change-requires-clause-enough c =
    let states = c.args.self.now.unknowns.states in
    let solved : IsSolved states = subst IsSolved (ap (λ s. s.unknowns.states) c.self.view_is) c.self.invariant.system.solved in
    let new = solved_for c.args.pivot c.args.residual.now in
    let rows = c.deref-row-items.result.now in
    let k = c.rows.row-index in
    let visit = rw (drop_more rows k 0 (omega arith)) at c.rows.invariant in
    let row = get_or rows k 0 in
    let tally = visit-at states solved c.args.pivot.serial new c.rows.tally.overflows c.rows.tally.unchanged c.rows.tally.added row (drop (k + 1) rows) visit in
    let some = sym (ap (λ s. get_or s.unknowns.states row None) c.self.view_is) ∙ sym c.in-Some.ensures in
    step-enough states solved c.args.pivot.serial new c.args.solution c.requires.solution row c.rows.tally.overflows c.rows.tally.unchanged c.rows.tally.added tally (row_within states row c.in-Some.old some) c.in-Some.old some c.replacement.result c.replacement.ensures c.in-Changed.before c.in-Changed.after c.in-Changed.is

pub refused-requires-clause-answer : goal.refused-requires-clause-answer
refused-requires-clause-answer c =
    let states = c.args.self.now.unknowns.states in
    let solved : IsSolved states = subst IsSolved (ap (λ s. s.unknowns.states) c.self.view_is) c.self.invariant.system.solved in
    let new = solved_for c.args.pivot c.args.residual.now in
    let rows = c.deref-row-items.result.now in
    let k = c.rows.row-index in
    let visit = rw (drop_more rows k 0 (omega arith)) at c.rows.invariant in
    let row = get_or rows k 0 in
    let tally = visit-at states solved c.args.pivot.serial new c.rows.tally.overflows c.rows.tally.unchanged c.rows.tally.added row (drop (k + 1) rows) visit in
    let some = sym (ap (λ s. get_or s.unknowns.states row None) c.self.view_is) ∙ sym c.in-Some.ensures in
    let large = step-too_large states solved c.args.pivot.serial new c.args.solution c.requires.solution row c.rows.tally.overflows c.rows.tally.unchanged c.rows.tally.added tally (row_within states row c.in-Some.old some) c.in-Some.old some c.replacement.result c.replacement.ensures c.in-TooLarge.is in
    answer-too_large states c.args.residual.now c.requires.residual c.args.pivot c.requires.pivot large

pub rows-preserved : goal.rows-preserved
rows-preserved c =
    let states = c.args.self.now.unknowns.states in
    let solved : IsSolved states = subst IsSolved (ap (λ s. s.unknowns.states) c.self.view_is) c.self.invariant.system.solved in
    let new = solved_for c.args.pivot c.args.residual.now in
    let serial = c.args.pivot.serial in
    let rows = c.deref-row-items.result.now in
    let k = c.rows.row-index in
    let visit = rw (drop_more rows k 0 (omega arith)) at c.rows.invariant in
    let row = get_or rows k 0 in
    let rest = drop (k + 1) rows in
    let tally = visit-at states solved serial new c.rows.tally.overflows c.rows.tally.unchanged c.rows.tally.added row rest visit in
    let peaks = peak-at states solved serial new c.rows.tally.overflows c.rows.tally.unchanged c.rows.tally.added row rest visit in
    elim c.match-get.branch [
      | in-Some+in-Absent w ↦
          let some = sym (ap (λ s. get_or s.unknowns.states row None) c.self.view_is) ∙ sym w.in-Some.ensures in
          let next = step-unchanged states solved serial new c.args.solution c.requires.solution row c.rows.tally.overflows c.rows.tally.unchanged c.rows.tally.added tally
          (row_within states row w.in-Some.old some) w.in-Some.old some w.replacement.result w.replacement.ensures
          w.in-Absent.is in
          rw (w.tally-is)
          (record {
            from = row + 1;
            tally = next;
            holders = visit.holders.2;
            peak_is = peak-same states serial new row c.rows.tally.overflows c.rows.tally.unchanged c.rows.tally.added c.rows.tally.peak peaks tally next;
          })
      | in-Some+in-Changed w ↦
          let some = sym (ap (λ s. get_or s.unknowns.states row None) c.self.view_is) ∙ sym w.in-Some.ensures in
          let after = w.change.new.self in
          let next = step-changed states solved serial new c.args.solution c.requires.solution row c.rows.tally.overflows c.rows.tally.unchanged c.rows.tally.added tally
          (row_within states row w.in-Some.old some) w.in-Some.old some w.replacement.result w.replacement.ensures
          w.in-Changed.before w.in-Changed.after after.unchanged after.added w.in-Changed.is w.change.ensures.unchanged w.change.ensures.added in
          rw (w.tally-is, w.change.ensures.overflows)
          (record {
            from = row + 1;
            tally = next;
            holders = visit.holders.2;
            peak_is =
                peak-step states serial new row c.rows.tally.overflows c.rows.tally.added c.rows.tally.peak after.unchanged after.added after.peak peaks next
                (omega (arith, w.change.ensures.added, tally.bounded)) (omega (arith, w.change.ensures.peak)) (omega (arith, w.change.ensures.peak));
          })
      | in-Some+in-Overflows w ↦
          let some = sym (ap (λ s. get_or s.unknowns.states row None) c.self.view_is) ∙ sym w.in-Some.ensures in
          rw (w.tally-is)
          (record {
            from = row + 1;
            tally = step-overflows states solved serial new c.args.solution c.requires.solution row c.rows.tally.overflows c.rows.tally.unchanged c.rows.tally.added tally (row_within states row w.in-Some.old some) w.in-Some.old some w.replacement.result w.replacement.ensures
                w.in-Overflows.is;
            holders = visit.holders.2;
            peak_is = λ fits. absurd cc;
          })
      | in_default w ↦
          rw (w.tally-is)
          (visit-none states solved serial new c.rows.tally.overflows c.rows.tally.unchanged c.rows.tally.added row rest (sym (ap (λ s. get_or s.unknowns.states row None) c.self.view_is) ∙ sym w.in_default.ensures) visit)
    ]

pub tallied-requires-clause-tally : goal.tallied-requires-clause-tally
tallied-requires-clause-tally c =
    let states = c.args.self.now.unknowns.states in
    let solved : IsSolved states = subst IsSolved (ap (λ s. s.unknowns.states) c.self.view_is) c.self.invariant.system.solved in
    let new = solved_for c.args.pivot c.args.residual.now in
    let tally = c.rows.tally in
    let visit = rw (drop_all c.rows.row-index c.deref-row-items.result.now (omega arith)) at c.rows.invariant in
    let all = visit-all states solved c.args.pivot.serial new tally.overflows tally.unchanged tally.added visit in
    record {
      end = all.0;
      whole = all.1;
      tally = all.2;
      enough = visit-enough states solved c.args.pivot.serial new tally.overflows tally.unchanged tally.added visit;
      form_is = solution_is states c.args.pivot.serial new c.args.solution c.requires.solution all.0 tally.overflows tally.unchanged tally.added all.2;
    }

pub replacement-requires : goal.replacement-requires
replacement-requires c =
    rw (c.requires.solution.terms)
    (Each-changed_terms (λ s. s ≢ c.args.pivot.serial) (over_negative c.args.pivot.coefficient) (without c.args.pivot.serial c.args.residual.now.terms) (Each-without c.args.pivot.serial c.args.residual.now.terms))

pub rows-init : goal.rows-init
rows-init c =
    let states = c.args.self.now.unknowns.states in
    let solved : IsSolved states = subst IsSolved (ap (λ s. s.unknowns.states) c.self.view_is) c.self.invariant.system.solved in
    let new = solved_for c.args.pivot c.args.residual.now in
    let long = ap length c.terms-terms.ensures.same ∙ ap length c.requires.solution.terms in
    let unchanged = c.new-tally.ensures.unchanged ∙ c.used.ensures.exact in
    let first =
    tally-start states c.args.pivot.serial new c.new-tally.result.overflows c.new-tally.result.unchanged c.new-tally.result.added
    (c.new-tally.ensures.overflows ∙ c.requires.solution.overflows) unchanged
    (omega (arith, long, c.new-tally.ensures.added)) (omega (arith, unchanged, solved.few_terms)) in
    record {
      from = 0;
      tally = first;
      holders = rw (c.deref-row-items.ensures.value) c.in_ok-rows.ensures;
      peak_is = peak-start states c.args.pivot.serial new c.new-tally.result.overflows c.new-tally.result.unchanged c.new-tally.result.added c.new-tally.result.peak first c.new-tally.ensures.peak;
    }

pub change-requires-clause-few : goal.change-requires-clause-few
change-requires-clause-few c =
    let states = c.args.self.now.unknowns.states in
    let solved : IsSolved states = subst IsSolved (ap (λ s. s.unknowns.states) c.self.view_is) c.self.invariant.system.solved in
    let visit = rw (drop_more c.deref-row-items.result.now c.rows.row-index 0 (omega arith)) at c.rows.invariant in
    (visit-at states solved c.args.pivot.serial (solved_for c.args.pivot c.args.residual.now) c.rows.tally.overflows c.rows.tally.unchanged c.rows.tally.added
    (get_or c.deref-row-items.result.now c.rows.row-index 0) (drop (c.rows.row-index + 1) c.deref-row-items.result.now) visit).few
