-- On comparisons of numbers: whether unknowns are left in a difference.
use Rattle.std.proofs.Common.{◌≡◌, ◌^◌, ℕ, ℤ, pos, ◌+ℤ◌, neg_ℤ, unsigned_abs, Bool, true, false, cond, List, [], ◌∷◌, Result, Ok, Err, length, nat_lt, nat_eq, refl, sym, ap, ◌∙◌, arith, subst}
use Rattle.std.specs.List.{list_any}
use Rattle.mp_pool.specs.declared.Term.{Term}
use Rattle.mp_pool.specs.Ratios.{times_fraction}
use Rattle.mp_pool.specs.Terms.{sum_terms, is_too_large}
use Rattle.mp_forms.specs.declared.fault.FormFault.{FormFault}
use Rattle.mp_forms.specs.declared.fault.FormFault.TheVariants.{Overflow, CoefficientTooLarge}
use Rattle.mp_forms.specs.Forms.{LinearForm, sum_of}
use Rattle.mp_ops.specs.Arithmetic.{ONE}
use Rattle.mp_values.specs.declared.word.Comparison.{Comparison}
use Rattle.mp_ops.specs.Comparison.{terms_between, by_terms, by_difference}
use Rattle.mp_ops.specs.Operators.{has_no_terms}

none_by : (ts us : List Term) → length ts ≡ 0 → length us ≡ 0 → has_no_terms (sum_terms (times_fraction (neg_ℤ ONE)) ts us) ≡ true
unfolding sum_terms
none_by [] [] e f = refl
none_by (t ∷ ts) us e f = absurd (omega (arith, e))
none_by [] (u ∷ us) e f = absurd (omega (arith, f))

-- neither number has unknowns
pub none_between : (p q : LinearForm) → length p.terms ≡ 0 → length q.terms ≡ 0 → has_no_terms (terms_between p q) ≡ true
none_between p q e f = none_by p.terms q.terms e f

-- a difference without unknowns is a number
pub known_decides : (op : List ℕ) (c : Comparison) (d : ℤ) (ts : List Term) → has_no_terms ts ≡ true → by_terms op c d ts ≡ by_difference c d
known_decides op c d [] e = refl
known_decides op c d (t ∷ ts) e = cc
