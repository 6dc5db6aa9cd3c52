use Rattle.std.proofs.Common.{◌+◌, ◌-◌, ◌≤◌, refl, arith}
use Rattle.mp_solver.proofs.AnswerLemmas.{answer-overflow, answer-limit, IsReady-accepted}
use Rattle.mp_solver.proofs.system.System.tallied.Goals as goal

pub refused-requires-clause-answer : goal.refused-requires-clause-answer
refused-requires-clause-answer c =
    let tally = c.args.tally in
    let all = c.requires.tally in
    answer-overflow c.args.self.now.unknowns.states c.args.residual.now c.requires.residual c.args.pivot c.requires.pivot all.end all.whole tally.overflows tally.unchanged tally.added all.tally c.if-tally.true

pub refused-requires-then-tally-gt-TERM_LIMIT-clause-answer : goal.refused-requires-then-tally-gt-TERM_LIMIT-clause-answer
refused-requires-then-tally-gt-TERM_LIMIT-clause-answer c =
    let tally = c.args.tally in
    let all = c.requires.tally in
    answer-limit c.args.self.now.unknowns.states c.args.residual.now c.requires.residual c.args.pivot c.requires.pivot all.end all.whole tally.overflows tally.unchanged tally.added all.tally c.if-tally.false
    (omega (arith, c.if-tally-gt-TERM_LIMIT.true))

pub invariant_of-result : goal.invariant_of-result
invariant_of-result c =
    let states = c.args.self.now.unknowns.states in
    let tally = c.args.tally in
    let all = c.requires.tally in
    let few : tally.unchanged + tally.added ≤ 4000000 = omega (arith, c.if-tally-gt-TERM_LIMIT.false) in
    let peak = all.enough c.if-tally.false (omega (arith, few)) in
    let start = peak 0 in
    rw (c.of.ensures, c.of-2.ensures)
    (IsReady-accepted states c.args.residual.now c.requires.residual c.args.pivot c.requires.pivot all.end all.whole tally.overflows tally.unchanged tally.added all.tally
    (record { serial = c.args.pivot.serial; form = c.args.form; rows = c.args.rows }) (tally.peak - c.used.result) c.if-tally.false
    (λ i. let enough = peak i in omega (arith, enough, start, c.used.ensures.exact))
    refl (all.form_is c.if-tally.false) c.requires.rows few)

pub overflow_sub-result : goal.overflow_sub-result
overflow_sub-result c =
    let start = c.requires.tally.enough c.if-tally.false (omega (arith, c.if-tally-gt-TERM_LIMIT.false)) 0 in
    omega (arith, start, c.used.ensures.exact)
