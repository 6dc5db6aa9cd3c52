use Rattle.std.proofs.Common.{◌<◌, ◌^◌, unsigned_abs, FitsSigned, w32, w64, sym, ap, ◌∙◌, arith, rules}
use Rattle.std.proofs.lemmas.Int.{ints, to_z-of_z}
use Rattle.mp_pool.specs.Pool.{Pool, spare}
use Rattle.mp_solver.specs.Elimination.{term_count}
use Rattle.mp_solver.specs.Storage.Held.{states_of}
use Rattle.mp_solver.proofs.QuotientLemmas.{fits64}
use Rattle.mp_solver.proofs.HeldLemmas.{untouched, unchanged, form_at, lists_put}
use Rattle.mp_solver.proofs.ReplacementLemmas.{term_missing}
use Rattle.mp_solver.proofs.OneFormLemmas.{one-small, one-fits, one-constant, one-spare, one-held, one-states, one-cells, one-lists}
use Rattle.mp_solver.proofs.forms.Forms.replace.Goals as goal

pub invariant_of-self : goal.invariant_of-self
invariant_of-self c =
    let none = term_missing _ c.remove.result c.remove.ensures.found c.in_default-remove.is in
    let there = c.self.invariant.there c.args.row c.in-Some.entry (sym c.in-Some.ensures) in
    rw (untouched c.self.inside.pool c.remove.new.self c.in-Some.entry.list.slot c.args.serial there c.remove.ensures.list none) c.self.invariant

pub returns-in_default-remove-clause-states : goal.returns-in_default-remove-clause-states
returns-in_default-remove-clause-states c =
    let none = term_missing _ c.remove.result c.remove.ensures.found c.in_default-remove.is in
    let there = c.self.invariant.there c.args.row c.in-Some.entry (sym c.in-Some.ensures) in
    let states = ap (λ h. h.states) c.self.view_is in
    let at = form_at c.self.inside.pool c.self.inside.entries.items c.args.self.now.states c.args.row c.in-Some.entry states (sym c.in-Some.ensures) in
    ap (λ (p : Pool). states_of p c.self.inside.entries.items) (untouched c.self.inside.pool c.remove.new.self c.in-Some.entry.list.slot c.args.serial there c.remove.ensures.list none)
    ∙ states
    ∙ sym (unchanged c.args.self.now.states c.args.row c.args.serial c.args.new.now _ at none)

pub returns-in_default-remove-clause-cells : goal.returns-in_default-remove-clause-cells
returns-in_default-remove-clause-cells c =
    let none = term_missing _ c.remove.result c.remove.ensures.found c.in_default-remove.is in
    let there = c.self.invariant.there c.args.row c.in-Some.entry (sym c.in-Some.ensures) in
    let states = ap (λ h. term_count h.states) c.self.view_is in
    let cells = ap (λ h. h.spare) c.self.view_is in
    let same = untouched c.self.inside.pool c.remove.new.self c.in-Some.entry.list.slot c.args.serial there c.remove.ensures.list none in
    let here = ap (λ (p : Pool). spare p) same in
    let count = ap (λ (p : Pool). term_count (states_of p c.self.inside.entries.items)) same in
    omega (arith, states, cells, here, count)

pub returns-in_default-remove-clause-lists : goal.returns-in_default-remove-clause-lists
returns-in_default-remove-clause-lists c =
    let there = c.self.invariant.there c.args.row c.in-Some.entry (sym c.in-Some.ensures) in
    lists_put c.self.inside.pool c.remove.new.self c.in-Some.entry.list.slot _ there c.remove.ensures.list ∙ ap (λ h. h.lists) c.self.view_is

pub splice_add-requires-clause-spare : goal.splice_add-requires-clause-spare
splice_add-requires-clause-spare c = rw (c.terms.ensures.same) (one-spare c.self.inside.pool c.remove.new.self c.self.inside.entries.items c.self.invariant c.args.self.now.states (ap (λ h. h.states) c.self.view_is) c.args.row c.in-Some.entry (sym c.in-Some.ensures) c.args.serial c.args.new.now c.requires.fits
    c.in-Some-remove.coefficient c.in-Some-remove.ensures.found c.remove.ensures.list (omega (arith, c.requires.spare, ap (λ h. h.spare) c.self.view_is)))

pub splice_add-requires-clause-small : goal.splice_add-requires-clause-small
splice_add-requires-clause-small c =
    let small = one-small c.self.inside.pool c.remove.new.self c.self.inside.entries.items c.self.invariant c.args.self.now.states (ap (λ h. h.states) c.self.view_is) c.args.row c.in-Some.entry (sym c.in-Some.ensures) c.args.serial c.args.new.now c.requires.fits
    c.in-Some-remove.coefficient c.in-Some-remove.ensures.found c.remove.ensures.list (omega (arith, c.requires.spare, ap (λ h. h.spare) c.self.view_is)) in
    let fits = fits64 c.in-Some-remove.coefficient small in
    simp to_z-of_z small

pub splice_add-requires-clause-fits : goal.splice_add-requires-clause-fits
splice_add-requires-clause-fits c =
    let small = one-small c.self.inside.pool c.remove.new.self c.self.inside.entries.items c.self.invariant c.args.self.now.states (ap (λ h. h.states) c.self.view_is) c.args.row c.in-Some.entry (sym c.in-Some.ensures) c.args.serial c.args.new.now c.requires.fits
    c.in-Some-remove.coefficient c.in-Some-remove.ensures.found c.remove.ensures.list (omega (arith, c.requires.spare, ap (λ h. h.spare) c.self.view_is)) in
    let fits = fits64 c.in-Some-remove.coefficient small in
    rw (c.terms.ensures.same) (simp to_z-of_z (one-fits c.self.inside.pool c.remove.new.self c.self.inside.entries.items c.self.invariant c.args.self.now.states (ap (λ h. h.states) c.self.view_is) c.args.row c.in-Some.entry (sym c.in-Some.ensures) c.args.serial c.args.new.now c.requires.fits
    c.in-Some-remove.coefficient c.in-Some-remove.ensures.found c.remove.ensures.list (omega (arith, c.requires.spare, ap (λ h. h.spare) c.self.view_is))))

pub constant_of_sum-constant-requires : goal.constant_of_sum-constant-requires
constant_of_sum-constant-requires c =
    let small = one-small c.self.inside.pool c.remove.new.self c.self.inside.entries.items c.self.invariant c.args.self.now.states (ap (λ h. h.states) c.self.view_is) c.args.row c.in-Some.entry (sym c.in-Some.ensures) c.args.serial c.args.new.now c.requires.fits
    c.in-Some-remove.coefficient c.in-Some-remove.ensures.found c.remove.ensures.list (omega (arith, c.requires.spare, ap (λ h. h.spare) c.self.view_is)) in
    let fits = fits64 c.in-Some-remove.coefficient small in
    simp to_z-of_z small

pub overflow_cast-constant : goal.overflow_cast-constant
overflow_cast-constant c =
    let small = one-small c.self.inside.pool c.remove.new.self c.self.inside.entries.items c.self.invariant c.args.self.now.states (ap (λ h. h.states) c.self.view_is) c.args.row c.in-Some.entry (sym c.in-Some.ensures) c.args.serial c.args.new.now c.requires.fits
    c.in-Some-remove.coefficient c.in-Some-remove.ensures.found c.remove.ensures.list (omega (arith, c.requires.spare, ap (λ h. h.spare) c.self.view_is)) in
    let fits = fits64 c.in-Some-remove.coefficient small in
    let fits_own : FitsSigned w32 c.in-Some.entry.constant = search rules in
    let fits_new : FitsSigned w32 c.constant.result = search rules in
    let fits_sum : FitsSigned w64 c.constant_of_sum-constant.result = search rules in
    let made = rw c.constant.ensures at (simp to_z-of_z at c.constant_of_sum-constant.ensures) in
    let bound : unsigned_abs c.constant_of_sum-constant.result < 2 ^ 31 = rw (sym made) at (one-constant c.self.inside.pool c.remove.new.self c.self.inside.entries.items c.self.invariant c.args.self.now.states (ap (λ h. h.states) c.self.view_is) c.args.row c.in-Some.entry (sym c.in-Some.ensures) c.args.serial c.args.new.now c.requires.fits
    c.in-Some-remove.coefficient c.in-Some-remove.ensures.found c.remove.ensures.list (omega (arith, c.requires.spare, ap (λ h. h.spare) c.self.view_is))) in
    let fits32 : FitsSigned w32 c.constant_of_sum-constant.result = omega (arith, ints) in
    simp to_z-of_z fits32

pub invariant_of-self-2 : goal.invariant_of-self-2
invariant_of-self-2 c =
    let small = one-small c.self.inside.pool c.remove.new.self c.self.inside.entries.items c.self.invariant c.args.self.now.states (ap (λ h. h.states) c.self.view_is) c.args.row c.in-Some.entry (sym c.in-Some.ensures) c.args.serial c.args.new.now c.requires.fits
    c.in-Some-remove.coefficient c.in-Some-remove.ensures.found c.remove.ensures.list (omega (arith, c.requires.spare, ap (λ h. h.spare) c.self.view_is)) in
    let fits = fits64 c.in-Some-remove.coefficient small in
    let fits_own : FitsSigned w32 c.in-Some.entry.constant = search rules in
    let fits_new : FitsSigned w32 c.constant.result = search rules in
    let fits_sum : FitsSigned w64 c.constant_of_sum-constant.result = search rules in
    let made = rw c.constant.ensures at (simp to_z-of_z at c.constant_of_sum-constant.ensures) in
    let bound : unsigned_abs c.constant_of_sum-constant.result < 2 ^ 31 = rw (sym made) at (one-constant c.self.inside.pool c.remove.new.self c.self.inside.entries.items c.self.invariant c.args.self.now.states (ap (λ h. h.states) c.self.view_is) c.args.row c.in-Some.entry (sym c.in-Some.ensures) c.args.serial c.args.new.now c.requires.fits
    c.in-Some-remove.coefficient c.in-Some-remove.ensures.found c.remove.ensures.list (omega (arith, c.requires.spare, ap (λ h. h.spare) c.self.view_is))) in
    let fits32 : FitsSigned w32 c.constant_of_sum-constant.result = omega (arith, ints) in
    let spliced = rw c.terms.ensures.same at (simp to_z-of_z at c.splice_add.ensures) in
    simp to_z-of_z (one-held c.self.inside.pool c.remove.new.self c.self.inside.entries.items c.self.invariant c.args.self.now.states (ap (λ h. h.states) c.self.view_is) c.args.row c.in-Some.entry (sym c.in-Some.ensures) c.args.serial c.args.new.now c.requires.fits
    c.in-Some-remove.coefficient c.in-Some-remove.ensures.found c.remove.ensures.list (omega (arith, c.requires.spare, ap (λ h. h.spare) c.self.view_is)) c.constant_of_sum-constant.result made c.splice_add.new.self spliced)

pub returns-clause-states : goal.returns-clause-states
returns-clause-states c =
    let small = one-small c.self.inside.pool c.remove.new.self c.self.inside.entries.items c.self.invariant c.args.self.now.states (ap (λ h. h.states) c.self.view_is) c.args.row c.in-Some.entry (sym c.in-Some.ensures) c.args.serial c.args.new.now c.requires.fits
    c.in-Some-remove.coefficient c.in-Some-remove.ensures.found c.remove.ensures.list (omega (arith, c.requires.spare, ap (λ h. h.spare) c.self.view_is)) in
    let fits = fits64 c.in-Some-remove.coefficient small in
    let fits_own : FitsSigned w32 c.in-Some.entry.constant = search rules in
    let fits_new : FitsSigned w32 c.constant.result = search rules in
    let fits_sum : FitsSigned w64 c.constant_of_sum-constant.result = search rules in
    let made = rw c.constant.ensures at (simp to_z-of_z at c.constant_of_sum-constant.ensures) in
    let bound : unsigned_abs c.constant_of_sum-constant.result < 2 ^ 31 = rw (sym made) at (one-constant c.self.inside.pool c.remove.new.self c.self.inside.entries.items c.self.invariant c.args.self.now.states (ap (λ h. h.states) c.self.view_is) c.args.row c.in-Some.entry (sym c.in-Some.ensures) c.args.serial c.args.new.now c.requires.fits
    c.in-Some-remove.coefficient c.in-Some-remove.ensures.found c.remove.ensures.list (omega (arith, c.requires.spare, ap (λ h. h.spare) c.self.view_is))) in
    let fits32 : FitsSigned w32 c.constant_of_sum-constant.result = omega (arith, ints) in
    let spliced = rw c.terms.ensures.same at (simp to_z-of_z at c.splice_add.ensures) in
    simp to_z-of_z (one-states c.self.inside.pool c.remove.new.self c.self.inside.entries.items c.self.invariant c.args.self.now.states (ap (λ h. h.states) c.self.view_is) c.args.row c.in-Some.entry (sym c.in-Some.ensures) c.args.serial c.args.new.now c.requires.fits
    c.in-Some-remove.coefficient c.in-Some-remove.ensures.found c.remove.ensures.list (omega (arith, c.requires.spare, ap (λ h. h.spare) c.self.view_is)) c.constant_of_sum-constant.result made c.splice_add.new.self spliced)

pub returns-clause-cells : goal.returns-clause-cells
returns-clause-cells c =
    let small = one-small c.self.inside.pool c.remove.new.self c.self.inside.entries.items c.self.invariant c.args.self.now.states (ap (λ h. h.states) c.self.view_is) c.args.row c.in-Some.entry (sym c.in-Some.ensures) c.args.serial c.args.new.now c.requires.fits
    c.in-Some-remove.coefficient c.in-Some-remove.ensures.found c.remove.ensures.list (omega (arith, c.requires.spare, ap (λ h. h.spare) c.self.view_is)) in
    let fits = fits64 c.in-Some-remove.coefficient small in
    let fits_own : FitsSigned w32 c.in-Some.entry.constant = search rules in
    let fits_new : FitsSigned w32 c.constant.result = search rules in
    let fits_sum : FitsSigned w64 c.constant_of_sum-constant.result = search rules in
    let made = rw c.constant.ensures at (simp to_z-of_z at c.constant_of_sum-constant.ensures) in
    let bound : unsigned_abs c.constant_of_sum-constant.result < 2 ^ 31 = rw (sym made) at (one-constant c.self.inside.pool c.remove.new.self c.self.inside.entries.items c.self.invariant c.args.self.now.states (ap (λ h. h.states) c.self.view_is) c.args.row c.in-Some.entry (sym c.in-Some.ensures) c.args.serial c.args.new.now c.requires.fits
    c.in-Some-remove.coefficient c.in-Some-remove.ensures.found c.remove.ensures.list (omega (arith, c.requires.spare, ap (λ h. h.spare) c.self.view_is))) in
    let fits32 : FitsSigned w32 c.constant_of_sum-constant.result = omega (arith, ints) in
    let spliced = rw c.terms.ensures.same at (simp to_z-of_z at c.splice_add.ensures) in
    let cells = one-cells c.self.inside.pool c.remove.new.self c.self.inside.entries.items c.self.invariant c.args.self.now.states (ap (λ h. h.states) c.self.view_is) c.args.row c.in-Some.entry (sym c.in-Some.ensures) c.args.serial c.args.new.now c.requires.fits
    c.in-Some-remove.coefficient c.in-Some-remove.ensures.found c.remove.ensures.list (omega (arith, c.requires.spare, ap (λ h. h.spare) c.self.view_is)) c.constant_of_sum-constant.result made c.splice_add.new.self spliced in
    let states = ap (λ h. term_count h.states) c.self.view_is in
    let there = ap (λ h. h.spare) c.self.view_is in
    simp to_z-of_z (omega (arith, cells, states, there))

pub returns-clause-lists : goal.returns-clause-lists
returns-clause-lists c =
    let small = one-small c.self.inside.pool c.remove.new.self c.self.inside.entries.items c.self.invariant c.args.self.now.states (ap (λ h. h.states) c.self.view_is) c.args.row c.in-Some.entry (sym c.in-Some.ensures) c.args.serial c.args.new.now c.requires.fits
    c.in-Some-remove.coefficient c.in-Some-remove.ensures.found c.remove.ensures.list (omega (arith, c.requires.spare, ap (λ h. h.spare) c.self.view_is)) in
    let fits = fits64 c.in-Some-remove.coefficient small in
    let fits_own : FitsSigned w32 c.in-Some.entry.constant = search rules in
    let fits_new : FitsSigned w32 c.constant.result = search rules in
    let fits_sum : FitsSigned w64 c.constant_of_sum-constant.result = search rules in
    let made = rw c.constant.ensures at (simp to_z-of_z at c.constant_of_sum-constant.ensures) in
    let bound : unsigned_abs c.constant_of_sum-constant.result < 2 ^ 31 = rw (sym made) at (one-constant c.self.inside.pool c.remove.new.self c.self.inside.entries.items c.self.invariant c.args.self.now.states (ap (λ h. h.states) c.self.view_is) c.args.row c.in-Some.entry (sym c.in-Some.ensures) c.args.serial c.args.new.now c.requires.fits
    c.in-Some-remove.coefficient c.in-Some-remove.ensures.found c.remove.ensures.list (omega (arith, c.requires.spare, ap (λ h. h.spare) c.self.view_is))) in
    let fits32 : FitsSigned w32 c.constant_of_sum-constant.result = omega (arith, ints) in
    let spliced = rw c.terms.ensures.same at (simp to_z-of_z at c.splice_add.ensures) in
    one-lists c.self.inside.pool c.remove.new.self c.self.inside.entries.items c.self.invariant c.args.self.now.states (ap (λ h. h.states) c.self.view_is) c.args.row c.in-Some.entry (sym c.in-Some.ensures) c.args.serial c.args.new.now c.requires.fits
    c.in-Some-remove.coefficient c.in-Some-remove.ensures.found c.remove.ensures.list (omega (arith, c.requires.spare, ap (λ h. h.spare) c.self.view_is)) c.constant_of_sum-constant.result made c.splice_add.new.self spliced ∙ ap (λ h. h.lists) c.self.view_is
