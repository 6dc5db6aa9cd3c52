use Rattle.std.proofs.Common.{sym, ap, ◌∙◌, arith}
use Rattle.mp_solver.specs.declared.equated.Equated.TheVariants.{Accepted}
use Rattle.mp_solver.proofs.EliminationLemmas.{pivot_within, pivot_independent}
use Rattle.mp_solver.proofs.StateLemmas.{length-forms_in}
use Rattle.mp_solver.proofs.TakingLemmas.{solving-here, refused-here, solving-coefficients, solving-constants, solving-room, solving-others, solving-after, IsIndexed-taken}
use Rattle.mp_solver.proofs.system.System.take.Goals as goal
use Rattle.mp_solver.proofs.system.System.take.Goals.{in-Some, in_default}

pub solve-listed-requires-clause-serial : goal.solve-listed-requires-clause-serial
solve-listed-requires-clause-serial c =
    let same = ap (λ r. r.unknowns.states) c.ready.view_is ∙ ap (λ u. u.states) c.requires.prepared ∙ sym (ap (λ s. s.unknowns.states) c.self.view_is) in
    let both = solving-here _ c.self.inside.forms.states same _ c.ready.inside.answer c.ready.inside.solved c.ready.inside.cells c.ready.inside.lists c.ready.invariant c.in-Some.solved c.in-Some.is in
    let within = pivot_within c.self.inside.forms.states _ both.0 both.1.pivot both.1.found in
    omega (arith, within.0, both.1.serial)

pub solve-listed-requires-clause-within : goal.solve-listed-requires-clause-within
solve-listed-requires-clause-within c =
    let same = ap (λ r. r.unknowns.states) c.ready.view_is ∙ ap (λ u. u.states) c.requires.prepared ∙ sym (ap (λ s. s.unknowns.states) c.self.view_is) in
    let both = solving-here _ c.self.inside.forms.states same _ c.ready.inside.answer c.ready.inside.solved c.ready.inside.cells c.ready.inside.lists c.ready.invariant c.in-Some.solved c.in-Some.is in
    let within = pivot_within c.self.inside.forms.states _ both.0 both.1.pivot both.1.found in
    omega (arith, within.0, within.1, both.1.serial)

pub solve-listed-requires-clause-none : goal.solve-listed-requires-clause-none
solve-listed-requires-clause-none c =
    let same = ap (λ r. r.unknowns.states) c.ready.view_is ∙ ap (λ u. u.states) c.requires.prepared ∙ sym (ap (λ s. s.unknowns.states) c.self.view_is) in
    let both = solving-here _ c.self.inside.forms.states same _ c.ready.inside.answer c.ready.inside.solved c.ready.inside.cells c.ready.inside.lists c.ready.invariant c.in-Some.solved c.in-Some.is in
    rw (both.1.serial) (pivot_independent c.self.inside.forms.states _ both.0 both.1.pivot both.1.found)

pub solve-listed-requires-clause-rows : goal.solve-listed-requires-clause-rows
solve-listed-requires-clause-rows c =
    let same = ap (λ r. r.unknowns.states) c.ready.view_is ∙ ap (λ u. u.states) c.requires.prepared ∙ sym (ap (λ s. s.unknowns.states) c.self.view_is) in
    let both = solving-here _ c.self.inside.forms.states same _ c.ready.inside.answer c.ready.inside.solved c.ready.inside.cells c.ready.inside.lists c.ready.invariant c.in-Some.solved c.in-Some.is in
    both.1.rows

pub solve-listed-requires-clause-others : goal.solve-listed-requires-clause-others
solve-listed-requires-clause-others c =
    let same = ap (λ r. r.unknowns.states) c.ready.view_is ∙ ap (λ u. u.states) c.requires.prepared ∙ sym (ap (λ s. s.unknowns.states) c.self.view_is) in
    let both = solving-here _ c.self.inside.forms.states same _ c.ready.inside.answer c.ready.inside.solved c.ready.inside.cells c.ready.inside.lists c.ready.invariant c.in-Some.solved c.in-Some.is in
    solving-others c.self.inside.forms.states _ c.ready.inside.answer c.ready.inside.cells c.ready.inside.lists c.in-Some.solved both.0 both.1

pub solve-listed-requires-clause-coefficients : goal.solve-listed-requires-clause-coefficients
solve-listed-requires-clause-coefficients c =
    let same = ap (λ r. r.unknowns.states) c.ready.view_is ∙ ap (λ u. u.states) c.requires.prepared ∙ sym (ap (λ s. s.unknowns.states) c.self.view_is) in
    let both = solving-here _ c.self.inside.forms.states same _ c.ready.inside.answer c.ready.inside.solved c.ready.inside.cells c.ready.inside.lists c.ready.invariant c.in-Some.solved c.in-Some.is in
    solving-coefficients c.self.inside.forms.states _ c.ready.inside.answer c.ready.inside.cells c.ready.inside.lists c.in-Some.solved both.0 both.1

pub solve-listed-requires-clause-constants : goal.solve-listed-requires-clause-constants
solve-listed-requires-clause-constants c =
    let same = ap (λ r. r.unknowns.states) c.ready.view_is ∙ ap (λ u. u.states) c.requires.prepared ∙ sym (ap (λ s. s.unknowns.states) c.self.view_is) in
    let both = solving-here _ c.self.inside.forms.states same _ c.ready.inside.answer c.ready.inside.solved c.ready.inside.cells c.ready.inside.lists c.ready.invariant c.in-Some.solved c.in-Some.is in
    solving-constants c.self.inside.forms.states _ c.ready.inside.answer c.ready.inside.cells c.ready.inside.lists c.in-Some.solved both.0 both.1

pub solve-listed-requires-clause-spare : goal.solve-listed-requires-clause-spare
solve-listed-requires-clause-spare c =
    let same = ap (λ r. r.unknowns.states) c.ready.view_is ∙ ap (λ u. u.states) c.requires.prepared ∙ sym (ap (λ s. s.unknowns.states) c.self.view_is) in
    let both = solving-here _ c.self.inside.forms.states same _ c.ready.inside.answer c.ready.inside.solved c.ready.inside.cells c.ready.inside.lists c.ready.invariant c.in-Some.solved c.in-Some.is in
    let needed = ap (λ r. r.cells) c.ready.view_is in
    let there = ap (λ s. s.spare) c.self.view_is in
    λ i.
    let enough = solving-room c.self.inside.forms.states _ c.ready.inside.answer c.ready.inside.cells c.ready.inside.lists c.in-Some.solved both.0 both.1 i in
    omega (arith, enough, c.requires.room.0, needed, there)

pub solve-listed-requires-clause-lists : goal.solve-listed-requires-clause-lists
solve-listed-requires-clause-lists c =
    let same = ap (λ r. r.unknowns.states) c.ready.view_is ∙ ap (λ u. u.states) c.requires.prepared ∙ sym (ap (λ s. s.unknowns.states) c.self.view_is) in
    let both = solving-here _ c.self.inside.forms.states same _ c.ready.inside.answer c.ready.inside.solved c.ready.inside.cells c.ready.inside.lists c.ready.invariant c.in-Some.solved c.in-Some.is in
    let needed = ap (λ r. r.lists) c.ready.view_is in
    let there = ap (λ s. s.spare_lists) c.self.view_is in
    omega (arith, both.1.enough_lists, c.requires.room.1, needed, there)

pub overflow_cast-solved : goal.overflow_cast-solved
overflow_cast-solved c =
    let same = ap (λ r. r.unknowns.states) c.ready.view_is ∙ ap (λ u. u.states) c.requires.prepared ∙ sym (ap (λ s. s.unknowns.states) c.self.view_is) in
    let both = solving-here _ c.self.inside.forms.states same _ c.ready.inside.answer c.ready.inside.solved c.ready.inside.cells c.ready.inside.lists c.ready.invariant c.in-Some.solved c.in-Some.is in
    let within = pivot_within c.self.inside.forms.states _ both.0 both.1.pivot both.1.found in
    omega (arith, within.1, both.1.serial, c.self.invariant.system.states_length)

pub overflow_sub-solved : goal.overflow_sub-solved
overflow_sub-solved c =
    let same = ap (λ r. r.unknowns.states) c.ready.view_is ∙ ap (λ u. u.states) c.requires.prepared ∙ sym (ap (λ s. s.unknowns.states) c.self.view_is) in
    let both = solving-here _ c.self.inside.forms.states same _ c.ready.inside.answer c.ready.inside.solved c.ready.inside.cells c.ready.inside.lists c.ready.invariant c.in-Some.solved c.in-Some.is in
    let within = pivot_within c.self.inside.forms.states _ both.0 both.1.pivot both.1.found in
    omega (arith, within.0, both.1.serial)

pub index_mut-requires : goal.index_mut-requires
index_mut-requires c =
    let same = ap (λ r. r.unknowns.states) c.ready.view_is ∙ ap (λ u. u.states) c.requires.prepared ∙ sym (ap (λ s. s.unknowns.states) c.self.view_is) in
    let both = solving-here _ c.self.inside.forms.states same _ c.ready.inside.answer c.ready.inside.solved c.ready.inside.cells c.ready.inside.lists c.ready.invariant c.in-Some.solved c.in-Some.is in
    let within = pivot_within c.self.inside.forms.states _ both.0 both.1.pivot both.1.found in
    omega (arith, within.0, within.1, both.1.serial, c.solve-listed.ensures.holders, c.self.invariant.lists, c.solve-listed.new.holders.ok.0)

pub overflow_add-self : goal.overflow_add-self
overflow_add-self c =
    omega (arith, c.self.invariant.system.states_length, c.self.invariant.system.dependent_count, length-forms_in c.self.inside.forms.states)

pub invariant_of-self : goal.invariant_of-self
invariant_of-self c =
    let same = ap (λ r. r.unknowns.states) c.ready.view_is ∙ ap (λ u. u.states) c.requires.prepared ∙ sym (ap (λ s. s.unknowns.states) c.self.view_is) in
    let both = solving-here _ c.self.inside.forms.states same _ c.ready.inside.answer c.ready.inside.solved c.ready.inside.cells c.ready.inside.lists c.ready.invariant c.in-Some.solved c.in-Some.is in
    rw (c.new.ensures)
    (IsIndexed-taken c.self.inside.forms.states _ c.ready.inside.answer c.ready.inside.cells c.ready.inside.lists c.in-Some.solved both.0 both.1 c.terms_stay_in_order.ensures c.self.inside.dependent c.self.inside.holders.items c.solve-listed.new.holders.items c.self.inside.is_listed c.solve-listed.result
    c.solve-listed.new.forms.states c.solve-listed.ensures.states c.solve-listed.ensures.holders c.solve-listed.ensures.listed c.self.invariant)

pub returns-clause-exact : goal.returns-clause-exact
returns-clause-exact c =
    let states = ap (λ s. s.unknowns.states) c.self.view_is in
    let residual = ap (λ r. r.residual) c.ready.view_is in
    let same = ap (λ r. r.unknowns.states) c.ready.view_is ∙ ap (λ u. u.states) c.requires.prepared ∙ sym states in
    elim c.match-solved.branch [
      | in-Some w ↦
          let both = solving-here _ c.self.inside.forms.states same _ c.ready.inside.answer c.ready.inside.solved c.ready.inside.cells c.ready.inside.lists c.ready.invariant w.in-Some.solved w.in-Some.is in
          let after = w.solve-listed.ensures.states ∙ solving-after c.self.inside.forms.states _ c.ready.inside.answer c.ready.inside.cells c.ready.inside.lists w.in-Some.solved both.0 both.1 in
          let here = ap (λ a. (a, w.solve-listed.new.forms.states)) both.1.accepted ∙ ap (λ ss. (Accepted, ss)) after ∙ both.1.outcome in
          rw (w.self-is) (rw (states, residual) at here)
      | in_default w ↦
          let here = (refused-here _ c.self.inside.forms.states same _ c.ready.inside.answer c.ready.inside.solved c.ready.inside.cells c.ready.inside.lists c.ready.invariant w.in_default.is).0 in
          let now = w.self-is in
          cc (states, residual, here, now)
    ]

pub returns-clause-refused : goal.returns-clause-refused
returns-clause-refused c =
    let same = ap (λ r. r.unknowns.states) c.ready.view_is ∙ ap (λ u. u.states) c.requires.prepared ∙ sym (ap (λ s. s.unknowns.states) c.self.view_is) in
    λ other.
    elim c.match-solved.branch [
      | in-Some w ↦
          let both = solving-here _ c.self.inside.forms.states same _ c.ready.inside.answer c.ready.inside.solved c.ready.inside.cells c.ready.inside.lists c.ready.invariant w.in-Some.solved w.in-Some.is in
          absurd (other both.1.accepted)
      | in_default w ↦ w.self-is
    ]
