-- Linear forms, over whole numbers without bounds, and what their sums, products and quotients are.
-- After Knuth, METAFONT: The Program, part 28; one kind of form for all sizes, and the refusals, are this project's own.
use Rattle.std.specs.Prelude.{◌^◌, ℤ, ◌+ℤ◌, unsigned_abs, List, nat_lt, nat_eq, cond, Result, Ok, Err}
use Rattle.std.specs.List.{list_any}
use Rattle.mp_pool.specs.declared.Term.{Term}
use Rattle.mp_forms.specs.declared.fault.FormFault.{FormFault}
use Rattle.mp_forms.specs.declared.fault.FormFault.TheVariants.{Overflow, CoefficientTooLarge, DivisionByZero}
use Rattle.mp_pool.specs.Ratios.{times_fraction, times_scaled, over_scaled}
use Rattle.mp_pool.specs.Terms.{changed_terms, sum_terms, is_too_large}

-- a number in units of 2^-16, and multiples of unknowns
pub record LinearForm : Type 0 where
  pub constant : ℤ
  pub terms : List Term

-- the form, where no coefficient has a magnitude of 2^44 or more and the constant has none of 2^31 or more
abbrev pub within_limits : ℤ → List Term → Result LinearForm FormFault
within_limits constant terms =
    cond (list_any is_too_large terms) (Err CoefficientTooLarge)
    (cond (nat_lt (unsigned_abs constant) (2 ^ 31)) (Ok (record { constant = constant; terms = terms })) (Err Overflow))

-- a form with its numbers changed
abbrev pub changed_form : (ℤ → ℤ) → LinearForm → Result LinearForm FormFault
changed_form change p = within_limits (change p.constant) (changed_terms change p.terms)

-- p and q, whose numbers are changed
abbrev pub sum_form : (ℤ → ℤ) → LinearForm → LinearForm → Result LinearForm FormFault
sum_form change p q = within_limits (p.constant +ℤ change q.constant) (sum_terms change p.terms q.terms)

-- p + f q, where f is in units of 2^-28
abbrev pub sum_of : ℤ → LinearForm → LinearForm → Result LinearForm FormFault
sum_of f p q = sum_form (times_fraction f) p q

-- s p, where s is in units of 2^-16
abbrev pub form_times_scaled : ℤ → LinearForm → Result LinearForm FormFault
form_times_scaled s p = changed_form (times_scaled s) p

-- p / s, where s is in units of 2^-16
abbrev pub form_over_scaled : ℤ → LinearForm → Result LinearForm FormFault
form_over_scaled s p = cond (nat_eq (unsigned_abs s) 0) (Err DivisionByZero) (changed_form (over_scaled s) p)
