-- Sums, products and quotients of numbers.
-- After Hobby, A User's Manual for MetaPost, section 5, and Knuth, METAFONT: The Program, part 39.
use Rattle.std.specs.Prelude.{ℕ, ℤ, pos, neg_ℤ, List, [], Result, Ok, Err, codes}
use Rattle.mp_pool.specs.declared.Term.{Term}
use Rattle.mp_report.specs.declared.error.SourceError.{SourceError}
use Rattle.mp_forms.specs.Forms.{LinearForm, sum_of, form_times_scaled, form_over_scaled}
use Rattle.mp_values.specs.Outcome.{Rule, ◌>>=◌, lift}
use Rattle.mp_values.specs.Refusals.{not_known}
use Rattle.mp_values.specs.declared.value.Value.{Value}
use Rattle.mp_ops.specs.Store.{Store}
use Rattle.mp_ops.specs.Operands.{form, both, or_refused, number_or_error}

-- 1 as a coefficient, in units of 2^-28
abbrev pub ONE : ℤ
ONE = pos 268435456

-- the first number and that multiple of the second, in units of 2^-28
abbrev pub combined : ℤ → LinearForm → LinearForm → Result LinearForm SourceError
combined f p q = or_refused (sum_of f p q)

abbrev pub sum : LinearForm → LinearForm → Result Value SourceError
sum p q = number_or_error (combined ONE p q)

abbrev pub difference : LinearForm → LinearForm → Result Value SourceError
difference p q = number_or_error (combined (neg_ℤ ONE) p q)

-- the difference of two numbers as a form, for that operator
unfoldable pub difference_by : List ℕ → Value → Value → Rule Store LinearForm
difference_by op v w = do
  operands ← both form form op v w
  lift (combined (neg_ℤ ONE) operands.0 operands.1)

abbrev pub negated : LinearForm → Result Value SourceError
negated p = number_or_error (or_refused (form_times_scaled (neg_ℤ (pos 65536)) p))

-- one of the factors must be known
abbrev pub product_by : LinearForm → LinearForm → List Term → List Term → Result LinearForm SourceError
product_by p q ts [] = or_refused (form_times_scaled q.constant p)
product_by p q [] us = or_refused (form_times_scaled p.constant q)
product_by p q ts us = Err (not_known (codes "*"))

abbrev pub product : LinearForm → LinearForm → Result Value SourceError
product p q = number_or_error (product_by p q p.terms q.terms)

abbrev pub quotient : LinearForm → ℤ → Result Value SourceError
quotient p divisor = number_or_error (or_refused (form_over_scaled divisor p))
