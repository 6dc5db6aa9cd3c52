use Rattle.std.proofs.Common.{◌<◌, pos, length, get_or, FitsSigned, w64, rules, arith}
use Rattle.std.proofs.lemmas.Int.{to_z-of_z}
use Rattle.mp_pool.specs.declared.Term.{Term}
use Rattle.mp_pool.specs.Ratios.{ratio_times}
use Rattle.mp_forms.proofs.TermLemmas.{changed_terms-more}
use Rattle.mp_forms.proofs.terms.push_each.Goals as goal

pub loop-term-preserved : goal.loop-term-preserved
loop-term-preserved c =
    let terms = c.args.terms.now in
    let i = c.loop-term.term-index in
    let none : Term = record { serial = 0; coefficient = pos 0 } in
    let within : i < length terms = omega arith in
    let fits : FitsSigned w64 c.times.result = search rules in
    let small = c.requires.coefficients i none within in
    let fits' : FitsSigned w64 (get_or terms i none).coefficient = search rules in
    let same = to_z-of_z w64 c.times.result fits in
    let same' = to_z-of_z w64 (get_or terms i none).coefficient fits' in
    let more = changed_terms-more (ratio_times c.args.ratio.numerator c.args.ratio.denominator) c.args.to.now.items terms i none within in
    cc (c.in_ok-push_from.ensures)
