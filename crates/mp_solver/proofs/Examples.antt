-- Worked examples: the definitions compute.
use Rattle.std.proofs.Common.{◌≡◌, ℕ, ℤ, List, pos, neg_ℤ, [], ◌∷◌, Some, None, Ok, refl}
use Rattle.std.specs.Prelude.{codes}
use Rattle.mp_pool.specs.declared.Term.{Term}
use Rattle.mp_pool.specs.Terms.{with_term, sum_terms}
use Rattle.mp_forms.specs.Forms.{LinearForm}
use Rattle.mp_solver.specs.declared.equated.Equated.TheVariants.{Redundant, Inconsistent}
use Rattle.mp_solver.specs.Reduction.{reduce_of}
use Rattle.mp_solver.specs.Elimination.{eliminate}
use Rattle.mp_solver.specs.Replay.{Event, Fresh, Equation, replay}

-- a known number, in units of 2^-16
abbrev known : ℤ → LinearForm
known units = record { constant = units; terms = [] }

abbrev term : ℕ → ℤ → Term
term serial coefficient = record { serial = serial; coefficient = coefficient }

-- 1, and -1, as coefficients
abbrev one : ℤ
one = pos 268435456

abbrev minus_one : ℤ
minus_one = neg_ℤ (pos 268435456)

-- x+y-3, x-y-1 and 2x+y-3, where x has the serial 1 and y has 2
abbrev sum_is_three : Event
sum_is_three = Equation (record { constant = neg_ℤ (pos 196608); terms = term 2 one ∷ term 1 one ∷ [] })

abbrev difference_is_one : Event
difference_is_one = Equation (record { constant = neg_ℤ (pos 65536); terms = term 2 minus_one ∷ term 1 one ∷ [] })

abbrev twice_and_once_is_three : Event
twice_and_once_is_three = Equation (record { constant = neg_ℤ (pos 196608); terms = term 2 one ∷ term 1 (pos 536870912) ∷ [] })

-- after x and y were made
abbrev made_two : List Event → List Event
made_two events = Fresh (codes "x") ∷ Fresh (codes "y") ∷ events

-- x+y=3: y is the pivot, by the rule at a tie
pub first_pivot : (replay (made_two (sum_is_three ∷ []))).states
    ≡ None ∷ Some (record { constant = pos 196608; terms = term 1 minus_one ∷ [] }) ∷ []
unfolding sum_terms with_term
first_pivot = refl

-- x+y=3; x-y=1: x is 2, and y is 1
pub two_equations : (replay (made_two (sum_is_three ∷ difference_is_one ∷ []))).states
    ≡ Some (known (pos 131072)) ∷ Some (known (pos 65536)) ∷ []
unfolding sum_terms with_term
two_equations = refl

-- 2x+y=3: x is -0.5y+1.5
pub greatest_is_pivot : (replay (made_two (twice_and_once_is_three ∷ []))).states
    ≡ Some (record { constant = pos 98304; terms = term 2 (neg_ℤ (pos 134217728)) ∷ [] }) ∷ None ∷ []
unfolding sum_terms with_term
greatest_is_pivot = refl

-- x=1; x=1.00098: the difference is 64 units, and that is redundant
pub redundant_at_64 : (eliminate [] (known (neg_ℤ (pos 64)))).0 ≡ Redundant (neg_ℤ (pos 64))
redundant_at_64 = refl

-- x=1; x=1.00099: it is 65 units, and that is inconsistent
pub inconsistent_at_65 : (eliminate [] (known (neg_ℤ (pos 65)))).0 ≡ Inconsistent (neg_ℤ (pos 65))
inconsistent_at_65 = refl

-- x=x is redundant: its difference has no term
pub redundant_at_0 : (eliminate (None ∷ []) (known (pos 0))).0 ≡ Redundant (pos 0)
redundant_at_0 = refl

-- after x=1, the difference of x and 1.00098 is brought up to date
pub residual_of_64 : reduce_of (Some (known (pos 65536)) ∷ []) (record { constant = neg_ℤ (pos 65600); terms = term 1 one ∷ [] })
    ≡ Ok (known (neg_ℤ (pos 64)))
unfolding sum_terms with_term
residual_of_64 = refl
