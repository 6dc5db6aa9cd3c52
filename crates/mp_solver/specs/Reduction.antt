-- A form brought up to date: its dependent unknowns are replaced by their forms.
use Rattle.std.specs.Prelude.{ℤ, Option, Some, None, Result, Ok, Err, fold, filter, is_none}
use Rattle.mp_pool.specs.declared.Term.{Term}
use Rattle.mp_forms.specs.declared.fault.FormFault.{FormFault}
use Rattle.mp_forms.specs.Forms.{LinearForm, sum_of}
use Rattle.mp_solver.specs.States.{States, form_of}

-- the constant and the terms of independent unknowns
abbrev pub independent_part : States → LinearForm → LinearForm
independent_part states p = record p { terms = filter (λ t. is_none (form_of states t.serial)) p.terms }

-- a sum and f times the form of an unknown, where that is dependent
abbrev pub with_form : LinearForm → ℤ → Option LinearForm → Result LinearForm FormFault
with_form sum f None = Ok sum
with_form sum f (Some form) = sum_of f sum form

-- the same, where the sum was not refused
abbrev pub with_term_of : States → Result LinearForm FormFault → Term → Result LinearForm FormFault
with_term_of states (Err fault) t = Err fault
with_term_of states (Ok sum) t = with_form sum t.coefficient (form_of states t.serial)

-- the terms of independent unknowns first, then for each other term, in order, its coefficient times the unknown's form
abbrev pub reduce_of : States → LinearForm → Result LinearForm FormFault
reduce_of states p = fold (with_term_of states) (Ok (independent_part states p)) p.terms
