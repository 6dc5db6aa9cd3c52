-- One equation, in a form that was brought up to date and is to be 0: which unknown it makes dependent, and on what.
-- After Knuth, METAFONT: The Program, part 28 (linear_eq); the rule at a tie, the threshold and the refusals are this project's own.
use Rattle.std.specs.Prelude.{◌≡◌, ◌≤◌, ◌<◌, ℕ, ◌-◌, ◌^◌, ℤ, pos, neg_ℤ, ◌+ℤ◌, unsigned_abs, List, [], ◌∷◌, Option, Some, None, Bool, cond, nat_lt, nat_le, map, filter_map, option_map, sum_by, length, slice_set, Any, IsSomeAnd}
use Rattle.std.specs.List.{list_any, best_of}
use Rattle.mp_pool.specs.declared.Term.{Term}
use Rattle.mp_pool.specs.Ratios.{ratio_times, times_fraction}
pub use Rattle.mp_pool.specs.Terms.{without, term_of}
use Rattle.mp_pool.specs.Terms.{changed_terms, sum_terms, is_too_large, HasTooLarge}
use Rattle.mp_forms.specs.Forms.{LinearForm}
use Rattle.mp_solver.specs.declared.equated.Equated.{Equated}
use Rattle.mp_solver.specs.declared.equated.Equated.TheVariants.{Accepted, Redundant, Inconsistent, CoefficientTooLarge, Overflow, Limit}
use Rattle.mp_solver.specs.declared.limits.TheConstants.{TERM_LIMIT}
use Rattle.mp_solver.specs.States.{States}

-- t has a greater magnitude than u
abbrev pub outranks : Term → Term → Bool
outranks t u = nat_lt (unsigned_abs u.coefficient) (unsigned_abs t.coefficient)

-- the term of greatest magnitude; at a tie the first, which has the greatest serial
abbrev pub pivot_of : List Term → Option Term
pivot_of [] = None
pivot_of (t ∷ ts) = Some (best_of outranks t ts)

-- -(2^28 n / v)
abbrev pub over_negative : ℤ → ℤ → ℤ
over_negative v n = neg_ℤ (ratio_times (pos 268435456) v n)

-- what the pivot equals where the form is 0
abbrev pub solved_for : Term → LinearForm → LinearForm
solved_for pivot p = record {
  constant = over_negative pivot.coefficient p.constant;
  terms = changed_terms (over_negative pivot.coefficient) (without pivot.serial p.terms);
}

-- a form, whose one term of the unknown is replaced by its coefficient times another form
abbrev pub replaced_term : ℕ → LinearForm → LinearForm → Option Term → LinearForm
replaced_term serial new p None = p
replaced_term serial new p (Some t) = record {
  constant = p.constant +ℤ times_fraction t.coefficient new.constant;
  terms = sum_terms (times_fraction t.coefficient) (without serial p.terms) new.terms;
}

-- a form, where the unknown is replaced by another form
abbrev pub replaced : ℕ → LinearForm → LinearForm → LinearForm
replaced serial new p = replaced_term serial new p (term_of serial p.terms)

-- the states, where a new form replaces the pivot in every dependent form and the pivot equals it
abbrev pub solved_states : States → Term → LinearForm → States
solved_states states pivot new = slice_set (map (option_map (replaced pivot.serial new)) states) (pivot.serial - 1) (Some new)

-- the forms of the dependent unknowns
abbrev pub forms_in : States → List LinearForm
forms_in states = filter_map (λ form. form) states

abbrev pub has_large_coefficient : LinearForm → Bool
has_large_coefficient p = list_any is_too_large p.terms

abbrev pub has_large_constant : LinearForm → Bool
has_large_constant p = nat_le (2 ^ 31) (unsigned_abs p.constant)

-- the number of all terms of dependent unknowns
abbrev pub term_count : States → ℕ
term_count states = sum_by (λ p. length p.terms) (forms_in states)

-- the states after a solved equation, where they are within the limits, and those before it where they are not
abbrev pub answer_by_limits : States → States → Equated × States
answer_by_limits before after =
    cond (list_any has_large_coefficient (forms_in after)) (CoefficientTooLarge, before)
    (cond (list_any has_large_constant (forms_in after)) (Overflow, before)
    (cond (nat_lt TERM_LIMIT (term_count after)) (Limit, before) (Accepted, after)))

-- an equation between known numbers, whose difference is this, in units of 2^-16
abbrev pub judged : ℤ → Equated
judged residual = cond (nat_le (unsigned_abs residual) 64) (Redundant residual) (Inconsistent residual)

abbrev pub eliminate_by : States → LinearForm → Option Term → Equated × States
eliminate_by states residual None = (judged residual.constant, states)
eliminate_by states residual (Some pivot) = answer_by_limits states (solved_states states pivot (solved_for pivot residual))

-- the answer to an equation, and the states after it
abbrev pub eliminate : States → LinearForm → Equated × States
eliminate states residual = eliminate_by states residual (pivot_of residual.terms)

-- an equation that holds already, but for this difference
abbrev pub IsRedundant : LinearForm → ℤ → Type 0
IsRedundant residual r = (residual.terms ≡ []) × (residual.constant ≡ r) × (unsigned_abs r ≤ 64)

-- an equation that is off by this difference
abbrev pub IsInconsistent : LinearForm → ℤ → Type 0
IsInconsistent residual r = (residual.terms ≡ []) × (residual.constant ≡ r) × (64 < unsigned_abs r)

-- the states after an equation is solved for its pivot, within the limits or not; none where no unknown is left in it
abbrev pub solution_states : States → LinearForm → Option States
solution_states states residual = option_map (λ pivot. solved_states states pivot (solved_for pivot residual)) (pivot_of residual.terms)

-- some form has a coefficient of magnitude 2^44 or more
abbrev pub HasLargeCoefficient : States → Type 0
HasLargeCoefficient states = Any (λ p. HasTooLarge p.terms) (forms_in states)

-- some form has a constant of magnitude 2^31 or more
abbrev pub HasLargeConstant : States → Type 0
HasLargeConstant states = Any (λ p. 2 ^ 31 ≤ unsigned_abs p.constant) (forms_in states)

-- the forms have more terms than they may have
abbrev pub HasManyTerms : States → Type 0
HasManyTerms states = TERM_LIMIT < term_count states

-- an equation by which a coefficient would become too large
abbrev pub IsTooLarge : States → LinearForm → Type 0
IsTooLarge states residual = IsSomeAnd (solution_states states residual) HasLargeCoefficient

-- an equation by which a constant, and no coefficient, would become too large
abbrev pub IsOverflow : States → LinearForm → Type 0
IsOverflow states residual = IsSomeAnd (solution_states states residual) (λ after. (¬ HasLargeCoefficient after) × HasLargeConstant after)

-- an equation by which there would be too many terms, and no number would become too large
abbrev pub IsBeyondLimit : States → LinearForm → Type 0
IsBeyondLimit states residual = IsSomeAnd (solution_states states residual) (λ after. (¬ HasLargeCoefficient after) × (¬ HasLargeConstant after) × HasManyTerms after)

-- an equation that an unknown is left in, and after which all is within the limits
abbrev pub IsAccepted : States → LinearForm → Type 0
IsAccepted states residual = IsSomeAnd (solution_states states residual) (λ after. (¬ HasLargeCoefficient after) × (¬ HasLargeConstant after) × (¬ HasManyTerms after))
