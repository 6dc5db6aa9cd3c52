use Rattle.std.proofs.Common.{◌<◌, ◌-◌, None, length, get_or, sym, ap, ◌∙◌, subst, arith}
use Rattle.std.specs.Option.{option_map}
use Rattle.std.proofs.lemmas.List.{length-map}
use Rattle.mp_solver.specs.Elimination.{replaced, term_count}
use Rattle.mp_solver.specs.Storage.Rows.{terms_in, IsListedFor}
use Rattle.mp_solver.proofs.RowLemmas.{both_true, AreListed-with_form}
use Rattle.mp_solver.proofs.SubstitutionLemmas.{get_or-map}
use Rattle.mp_solver.proofs.RewriteLemmas.{partly-all}
use Rattle.mp_solver.proofs.rewriting.solve.Goals as goal

pub insert-requires-clause-within : goal.insert-requires-clause-within
insert-requires-clause-within c =
    let same = ap length c.rewrite-all.ensures.states in
    let long = length-map c.args.forms.now.states (option_map (replaced c.args.solved.now.serial c.args.solved.now.form)) in
    omega (arith, same, long, c.requires.within)

pub insert-requires-clause-none : goal.insert-requires-clause-none
insert-requires-clause-none c =
    ap (λ ss. get_or ss (c.args.solved.now.serial - 1) None) c.rewrite-all.ensures.states
    ∙ get_or-map (replaced c.args.solved.now.serial c.args.solved.now.form) c.args.forms.now.states (c.args.solved.now.serial - 1)
    ∙ ap (option_map (replaced c.args.solved.now.serial c.args.solved.now.form)) c.requires.none

pub insert-requires-clause-spare : goal.insert-requires-clause-spare
insert-requires-clause-spare c =
    let states = c.args.forms.now.states in
    let whole = ap term_count (partly-all states c.args.solved.now.serial c.args.solved.now.form (length states) (omega arith)) in
    let enough = c.requires.spare (length states) in
    omega (arith, ap term_count c.rewrite-all.ensures.states, c.rewrite-all.ensures.cells, whole, enough)

pub insert-requires-clause-lists : goal.insert-requires-clause-lists
insert-requires-clause-lists c = omega (arith, c.rewrite-all.ensures.lists, c.requires.lists)

pub returns-clause-listed : goal.returns-clause-listed
returns-clause-listed c = λ both listed.
    let row = c.args.solved.now.serial - 1 in
    let parts = both_true c.rewrite-all.result c.add_terms-all.result both in
    let before = c.rewrite-all.ensures.listed parts.0 listed in
    let none =
    ap (λ ss. get_or ss row None) c.rewrite-all.ensures.states
    ∙ get_or-map (replaced c.args.solved.now.serial c.args.solved.now.form) c.args.forms.now.states row
    ∙ ap (option_map (replaced c.args.solved.now.serial c.args.solved.now.form)) c.requires.none in
    let nothing : IsListedFor c.rewrite-all.new.holders.items row (terms_in (get_or c.rewrite-all.new.forms.states row None)) = subst (λ s. IsListedFor c.rewrite-all.new.holders.items row (terms_in s)) (sym none) (λ i d lt. absurd (omega (arith, lt))) in
    let own = rw c.terms.ensures.same at (c.add_terms-all.ensures.added parts.1 nothing) in
    let same = ap length c.rewrite-all.ensures.states in
    let long = length-map c.args.forms.now.states (option_map (replaced c.args.solved.now.serial c.args.solved.now.form)) in
    let within : row < length c.rewrite-all.new.forms.states = omega (arith, same, long, c.requires.within) in
    rw (c.insert.ensures.states)
    (AreListed-with_form c.rewrite-all.new.forms.states c.rewrite-all.new.holders.items c.add_terms-all.new.holders.items row c.args.solved.now.form within c.add_terms-all.ensures.stays own before)
