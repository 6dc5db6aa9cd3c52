use Rattle.std.proofs.Common.{◌≡◌, ◌<◌, ◌≤◌, ◌++◌, List, Some, None, FitsSigned, w32, length, get_or, set, ap, ◌∙◌, rules, arith}
use Rattle.std.proofs.lemmas.Int.{to_z-of_z}
use Rattle.mp_pool.specs.declared.Term.{Term}
use Rattle.mp_pool.specs.Pool.{with_list, terms_in, spare}
use Rattle.mp_solver.specs.declared.forms.Entry.{Entry}
use Rattle.mp_solver.specs.States.{States}
use Rattle.mp_solver.specs.Storage.Held.{states_of}
use Rattle.mp_solver.proofs.HeldLemmas.{AreHeld-insert, states-insert, cells-insert}
use Rattle.mp_solver.proofs.forms.Forms.insert.Goals as goal

module _ (c : goal.After-self-1) where
  abbrev entry : Entry
  entry = record { constant = c.constant.result; list = c.make-list.result }

  states_are : states_of c.self.inside.pool c.self.inside.entries.items ≡ c.args.self.now.states
  states_are = ap (λ h. h.states) c.self.view_is

  within : c.args.row < length (states_of c.self.inside.pool c.self.inside.entries.items)
  within = let same = ap length states_are in omega (arith, same, c.requires.within)

  none : get_or (states_of c.self.inside.pool c.self.inside.entries.items) c.args.row None ≡ None
  none = ap (λ ss. get_or ss c.args.row None) states_are ∙ c.requires.none

  filled : c.push_all.new.self ≡ with_list c.make-list.new.self c.make-list.result.slot (terms_in c.make-list.new.self c.make-list.result.slot ++ c.args.form.now.terms)
  filled = c.push_all.ensures ∙ ap (λ (ts : List Term). with_list c.make-list.new.self c.make-list.result.slot (terms_in c.make-list.new.self c.make-list.result.slot ++ ts)) c.terms.ensures.same

  room : length c.args.form.now.terms ≤ spare c.self.inside.pool
  room = let same = ap (λ h. h.spare) c.self.view_is in omega (arith, same, c.requires.spare)

pub invariant_of-self : goal.invariant_of-self
invariant_of-self c =
    let fits : FitsSigned w32 c.constant.result = search rules in
    simp to_z-of_z
    (AreHeld-insert c.self.inside.pool c.make-list.new.self c.push_all.new.self c.self.inside.entries.items c.self.invariant c.args.row (within c) (none c) (entry c) c.args.form.now.terms
    c.make-list.ensures.free c.make-list.ensures.within c.make-list.ensures.made (filled c) (room c))

pub returns-clause-states : goal.returns-clause-states
returns-clause-states c =
    let fits : FitsSigned w32 c.constant.result = search rules in
    simp to_z-of_z
    (states-insert c.self.inside.pool c.make-list.new.self c.push_all.new.self c.self.inside.entries.items c.self.invariant c.args.row (within c) (none c) (entry c) c.args.form.now.terms
    c.make-list.ensures.free c.make-list.ensures.within c.make-list.ensures.made (filled c) (room c)
    ∙ ap (λ (ss : States). set ss c.args.row (Some (record { constant = c.constant.result; terms = c.args.form.now.terms }))) (states_are c)
    ∙ ap (λ z. set c.args.self.now.states c.args.row (Some (record { constant = z; terms = c.args.form.now.terms }))) c.constant.ensures)

pub returns-clause-cells : goal.returns-clause-cells
returns-clause-cells c =
    let fits : FitsSigned w32 c.constant.result = search rules in
    rw (← c.self.view_is)
    (simp to_z-of_z
    (cells-insert c.self.inside.pool c.make-list.new.self c.push_all.new.self c.self.inside.entries.items c.self.invariant c.args.row (within c) (none c) (entry c) c.args.form.now.terms
    c.make-list.ensures.free c.make-list.ensures.within c.make-list.ensures.made (filled c) (room c)))
