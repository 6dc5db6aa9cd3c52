use Rattle.std.proofs.Common.{◌≡◌, ◌<◌, false, pos, Option, Some, None, length, get_or, refl, sym, ◌∙◌, arith}
use Rattle.std.specs.Option.{is_some}
use Rattle.std.proofs.lemmas.List.{take_all}
use Rattle.std.proofs.lemmas.List.Elements.{All-more}
use Rattle.mp_pool.specs.declared.Term.{Term}
use Rattle.mp_forms.specs.Forms.{LinearForm}
use Rattle.mp_solver.specs.States.{form_of}
use Rattle.mp_solver.specs.Solved.{IsReduced}
use Rattle.mp_solver.proofs.system.System.is_reduced.Goals as goal

abbrev none : Term
none = record { serial = 0; coefficient = pos 0 }

no_form : (form : Option LinearForm) → is_some form ≡ false → form ≡ None
no_form None is = refl
no_form (Some form) is = absurd cc

pub terms-preserved : goal.terms-preserved
terms-preserved c =
    let states = c.args.self.now.unknowns.states in
    let terms = c.terms-terms.result.now in
    let i = c.terms.term-index in
    let within : i < length terms = omega arith in
    let here : form_of states (get_or terms i none).serial ≡ None = no_form _ (sym c.is_dependent.ensures ∙ c.if-is_dependent.false) in
    All-more (λ t. form_of states t.serial ≡ None) terms i none within c.terms.invariant here

pub returns : goal.returns
returns c =
    let states = c.args.self.now.unknowns.states in
    let all : IsReduced states (record { constant = pos 0; terms = c.terms-terms.result.now }) = rw (take_all c.terms.term-index c.terms-terms.result.now (omega arith)) at c.terms.invariant in
    (λ _. rw c.terms-terms.ensures.same at all, λ _. refl)
