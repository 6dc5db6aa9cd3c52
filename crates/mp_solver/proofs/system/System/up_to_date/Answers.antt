use Rattle.std.proofs.Common.{◌<◌, pos, Result, Ok, length, get_or, FitsSigned, w64, sym, ap, ◌∙◌, rules, arith}
use Rattle.std.specs.List.{fold}
use Rattle.std.proofs.lemmas.Int.{to_z-of_z}
use Rattle.mp_pool.specs.declared.Term.{Term}
use Rattle.mp_forms.specs.declared.fault.FormFault.{FormFault}
use Rattle.mp_forms.specs.Forms.{LinearForm}
use Rattle.mp_solver.specs.Reduction.{independent_part, with_term_of}
use Rattle.mp_solver.proofs.ReductionLemmas.{fold-independent, fold-dependent, fold-refused_at}
use Rattle.mp_solver.proofs.system.System.up_to_date.Goals as goal
use Rattle.mp_solver.proofs.system.System.up_to_date.Goals.{in-Some+in_ok-equal+in_ok-more+in-Ok, in_default}

abbrev none : Term
none = record { serial = 0; coefficient = pos 0 }

pub returns-in-Err : goal.returns-in-Err
returns-in-Err c =
    let terms = c.terms-terms.result.now in
    let i = c.terms.term-index in
    let states = c.args.self.now.unknowns.states in
    let within : i < length terms = omega arith in
    let small = c.terms-terms.ensures.ordered.coefficients i none within in
    let fits : FitsSigned w64 (get_or terms i none).coefficient = search rules in
    let sum_is = rw c.in_ok-equal.ensures at (simp to_z-of_z at c.in_ok-more.ensures.exact) in
    let start : Result LinearForm FormFault = Ok (independent_part states c.args.form.now) in
    let refused = fold-dependent states start terms i c.terms.sum c.terms.invariant none within c.in-Some.equal c.in_ok-more.field-0 c.in-Some.ensures sum_is ∙ c.in-Err.is in
    sym (ap (fold (with_term_of states) start) (sym c.terms-terms.ensures.same) ∙ fold-refused_at states start terms _ c.in-Err.fault refused)

pub terms-preserved : goal.terms-preserved
terms-preserved c =
    let terms = c.terms-terms.result.now in
    let i = c.terms.term-index in
    let states = c.args.self.now.unknowns.states in
    let within : i < length terms = omega arith in
    let small = c.terms-terms.ensures.ordered.coefficients i none within in
    let fits : FitsSigned w64 (get_or terms i none).coefficient = search rules in
    let start : Result LinearForm FormFault = Ok (independent_part states c.args.form.now) in
    elim c.match-form_of.branch [
      | in-Some+in_ok-equal+in_ok-more+in-Ok w ↦
          let sum_is = rw w.in_ok-equal.ensures at (simp to_z-of_z at w.in_ok-more.ensures.exact) in
          rw (w.sum-is) (fold-dependent states start terms i c.terms.sum c.terms.invariant none within w.in-Some.equal w.in_ok-more.field-0 w.in-Some.ensures sum_is ∙ w.in-Ok.is)
      | in_default w ↦ rw (w.sum-is) (fold-independent states start terms i c.terms.sum c.terms.invariant none within w.in_default.ensures)
    ]
