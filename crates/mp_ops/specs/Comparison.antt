-- Comparisons: numbers by the sign of their difference, strings by their bytes, and false before true.
-- After Hobby, A User's Manual for MetaPost, section 3; the refusals are this project's own.
use Rattle.std.specs.Prelude.{ℕ, ℤ, pos, neg_ℤ, ◌-ℤ◌, ◌^◌, unsigned_abs, Bool, List, [], ◌∷◌, Option, Some, None, Result, Ok, Err, nat_lt, if◌then◌else◌}
use Rattle.std.specs.declared.cmp.Ordering.{Ordering}
use Rattle.std.specs.Ordering.{is_lt, is_le, is_gt, is_ge, is_eq, is_ne, nat_cmp, int_cmp, bool_cmp}
use Rattle.std.specs.Cmp.Lexicographic.{slice_cmp}
use Rattle.mp_pool.specs.declared.Term.{Term}
use Rattle.mp_pool.specs.Ratios.{times_fraction}
use Rattle.mp_pool.specs.Terms.{sum_terms}
use Rattle.mp_forms.specs.Forms.{LinearForm}
use Rattle.mp_report.specs.declared.error.SourceError.{SourceError}
use Rattle.mp_report.specs.declared.error.SourceError.TheVariants as error
use Rattle.mp_values.specs.Outcome.{Rule, halt}
use Rattle.mp_values.specs.Refusals.{wrong_type, not_known}
use Rattle.mp_values.specs.Kinds.{kind_of}
use Rattle.mp_values.specs.declared.value.Kind.{Kind}
use Rattle.mp_values.specs.declared.value.Kind.TheVariants as kind
use Rattle.mp_values.specs.declared.value.Value.{Value}
use Rattle.mp_values.specs.declared.value.Value.TheVariants as value
use Rattle.mp_values.specs.declared.word.Comparison.{Comparison}
use Rattle.mp_values.specs.declared.word.Comparison.TheVariants as comparison
use Rattle.mp_ops.specs.Store.{Store}
use Rattle.mp_ops.specs.Arithmetic.{ONE}
use Rattle.mp_ops.specs.Operands.{form, boolean, string}
use Rattle.mp_ops.specs.Joins.{joined}

-- what a comparison says of an order
abbrev pub holds : Comparison → Ordering → Bool
holds comparison.Less o = is_lt o
holds comparison.AtMost o = is_le o
holds comparison.Greater o = is_gt o
holds comparison.AtLeast o = is_ge o
holds comparison.Equal o = is_eq o
holds comparison.Unequal o = is_ne o

abbrev pub truth_of : Comparison → Ordering → Result Value SourceError
truth_of c o = Ok (value.Boolean (holds c o))

-- the unknowns in the difference of two numbers
abbrev pub terms_between : LinearForm → LinearForm → List Term
terms_between p q = sum_terms (times_fraction (neg_ℤ ONE)) p.terms q.terms

-- a known difference decides, where it is a number
abbrev pub by_difference : Comparison → ℤ → Result Value SourceError
by_difference c d = if nat_lt (unsigned_abs d) (2 ^ 31) then truth_of c (int_cmp d (pos 0)) else Err error.Overflow

abbrev pub by_terms : List ℕ → Comparison → ℤ → List Term → Result Value SourceError
by_terms op c d [] = by_difference c d
by_terms op c d (t ∷ ts) = Err (not_known op)

abbrev pub compare_numbers : List ℕ → Comparison → LinearForm → LinearForm → Result Value SourceError
compare_numbers op c p q = by_terms op c (p.constant -ℤ q.constant) (terms_between p q)

abbrev pub compare_strings : Comparison → List ℕ → List ℕ → Result Value SourceError
compare_strings c a b = truth_of c (slice_cmp nat_cmp a b)

abbrev pub compare_truths : Comparison → Bool → Bool → Result Value SourceError
compare_truths c a b = truth_of c (bool_cmp a b)

-- two values of the type of the left one, which must have one
abbrev pub compared_as : Option Kind → List ℕ → Comparison → Value → Value → Rule Store Value
compared_as (Some kind.Numeric) op c v w = joined form form op (compare_numbers op c) v w
compared_as (Some kind.Text) op c v w = joined string string op (compare_strings c) v w
compared_as (Some kind.Boolean) op c v w = joined boolean boolean op (compare_truths c) v w
compared_as None op c v w = halt (wrong_type op)

abbrev pub compared : List ℕ → Comparison → Value → Value → Rule Store Value
compared op c v w = compared_as (kind_of v) op c v w
