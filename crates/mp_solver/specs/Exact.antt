-- Exact lists of events: in their replay no rounding has a remainder, and no coefficient other than 0 is dropped.
-- And what is left of an equation, where each dependent unknown is replaced by its form without rounding.
use Rattle.std.specs.Prelude.{◌≡◌, ℕ, ℤ, pos, ◌+ℤ◌, ◌*ℤ◌, List, [], ◌∷◌, ◌++◌, Option, Some, None, Result, Ok, Err, All, ⊤}
use Rattle.mp_pool.specs.declared.Term.{Term}
use Rattle.mp_forms.specs.declared.fault.FormFault.{FormFault}
use Rattle.mp_pool.specs.Ratios.{ratio_times, times_fraction}
use Rattle.mp_pool.specs.Terms.{sum_terms, AreTerms}
use Rattle.mp_forms.specs.Forms.{LinearForm}
use Rattle.mp_solver.specs.declared.equated.Equated.TheVariants.{Accepted}
use Rattle.mp_solver.specs.States.{States, Unknowns, form_of, IsSerial, IsOver}
use Rattle.mp_solver.specs.Reduction.{independent_part, with_term_of, reduce_of}
use Rattle.mp_solver.specs.Elimination.{pivot_of, without, term_of, over_negative, solved_for, forms_in, eliminate}
use Rattle.mp_solver.specs.Replay.{Event, Fresh, Equation, Unname, replay}

-- the coefficient of a term, 0 where there is none
abbrev pub coefficient_in : Option Term → ℤ
coefficient_in None = pos 0
coefficient_in (Some t) = t.coefficient

-- the coefficient of an unknown, 0 where it has no term
abbrev pub coefficient_of : ℕ → List Term → ℤ
coefficient_of serial terms = coefficient_in (term_of serial terms)

-- n a / b has no remainder: rounded, and times b, it is n a
abbrev pub HasNoRemainder : ℤ → ℤ → ℤ → Type 0
HasNoRemainder a b n = ratio_times a b n *ℤ b ≡ n *ℤ a

-- the same of all numbers of a form
pub record HaveNoRemainder (a b : ℤ) (p : LinearForm) : Type 0 where
  pub constant : HasNoRemainder a b p.constant
  pub coefficients : All (λ t. HasNoRemainder a b t.coefficient) p.terms

-- of the coefficients that are due, these terms lack none other than 0
abbrev pub DropsOnlyZeros : (ℕ → ℤ) → List Term → Type 0
DropsOnlyZeros due terms = (serial : ℕ) → term_of serial terms ≡ None → due serial ≡ pos 0

-- p + f q is exact: no product has a remainder, and no sum other than 0 is dropped
pub record IsExactSum (f : ℤ) (p q : LinearForm) : Type 0 where
  pub remainders : HaveNoRemainder f (pos 268435456) q
  pub drops : DropsOnlyZeros (λ serial. coefficient_of serial p.terms +ℤ times_fraction f (coefficient_of serial q.terms)) (sum_terms (times_fraction f) p.terms q.terms)

-- a form without the term of an unknown
abbrev pub without_unknown : ℕ → LinearForm → LinearForm
without_unknown serial p = record p { terms = without serial p.terms }

-- what the pivot equals where the form is 0 is exact: no quotient has a remainder, and none other than 0 is dropped
pub record IsExactSolution (pivot : Term) (p : LinearForm) : Type 0 where
  pub remainders : HaveNoRemainder (pos 268435456) pivot.coefficient (without_unknown pivot.serial p)
  pub drops : DropsOnlyZeros (λ serial. over_negative pivot.coefficient (coefficient_of serial (without pivot.serial p.terms))) (solved_for pivot p).terms

-- a form in which the unknown is replaced by another form is exact; it stays as it is where it has no term of the unknown
abbrev pub IsExactReplacement : ℕ → LinearForm → LinearForm → Type 0
IsExactReplacement serial new p = (t : Term) → term_of serial p.terms ≡ Some t → IsExactSum t.coefficient (without_unknown serial p) new

-- a sum and f times the form of an unknown is exact; nothing is added where the unknown is independent
abbrev pub IsExactWith : LinearForm → ℤ → Option LinearForm → Type 0
IsExactWith sum f None = ⊤
IsExactWith sum f (Some form) = IsExactSum f sum form

-- the same, where the sum was not refused
abbrev pub IsExactTerm : States → Result LinearForm FormFault → Term → Type 0
IsExactTerm states (Err fault) t = ⊤
IsExactTerm states (Ok sum) t = IsExactWith sum t.coefficient (form_of states t.serial)

-- the same of each of these terms, in order, beginning with this sum
abbrev pub AreExactTerms : States → Result LinearForm FormFault → List Term → Type 0
AreExactTerms states sum [] = ⊤
AreExactTerms states sum (t ∷ ts) = IsExactTerm states sum t × AreExactTerms states (with_term_of states sum t) ts

-- the pivot's new form is exact, and so is each form in which it replaces the pivot
pub record IsExactElimination (states : States) (residual : LinearForm) (pivot : Term) : Type 0 where
  pub solution : IsExactSolution pivot residual
  pub replacements : All (IsExactReplacement pivot.serial (solved_for pivot residual)) (forms_in states)

-- an equation of unknowns that there are, which is accepted: bringing it up to date is exact, and so is its elimination
pub record IsExactEquation (states : States) (difference : LinearForm) : Type 0 where
  pub terms : AreTerms difference.terms
  pub over : IsOver states difference
  pub residual : LinearForm
  pub reduced : Ok residual ≡ reduce_of states difference
  pub accepted : (eliminate states residual).0 ≡ Accepted
  pub sums : AreExactTerms states (Ok (independent_part states difference)) difference.terms
  pub elimination : (pivot : Term) → pivot_of residual.terms ≡ Some pivot → IsExactElimination states residual pivot

-- an event that speaks only of unknowns that there are, and is exact where it is an equation
abbrev pub IsExactEvent : Unknowns → Event → Type 0
IsExactEvent unknowns (Fresh name) = ⊤
IsExactEvent unknowns (Equation difference) = IsExactEquation unknowns.states difference
IsExactEvent unknowns (Unname serial) = IsSerial unknowns.states serial

-- a list of events, each of them exact after those before it
pub data IsExact : List Event → Type 0 where
  start : IsExact []
  next : {events : List Event} → IsExact events → (event : Event) → IsExactEvent (replay events) event → IsExact (events ++ event ∷ [])

-- a number of the form of an unknown, 0 where that is independent
abbrev pub number_in : (LinearForm → ℤ) → Option LinearForm → ℤ
number_in number None = pos 0
number_in number (Some form) = number form

-- what the dependent unknowns among these terms add to a number: each coefficient times that number of the unknown's form
abbrev pub number_added : (LinearForm → ℤ) → States → List Term → ℤ
number_added number states [] = pos 0
number_added number states (t ∷ ts) = t.coefficient *ℤ number_in number (form_of states t.serial) +ℤ number_added number states ts

-- 2^28 times a number of a form, where each dependent unknown is replaced by its form without rounding
abbrev pub substituted : (LinearForm → ℤ) → States → LinearForm → ℤ
substituted number states p = pos 268435456 *ℤ number p +ℤ number_added number states p.terms

-- once the dependent unknowns are replaced, nothing is left of the equation: the constant and all coefficients are 0
pub record IsSatisfied (states : States) (difference : LinearForm) : Type 0 where
  pub constant : substituted (λ p. p.constant) states difference ≡ pos 0
  pub coefficients : (serial : ℕ) → form_of states serial ≡ None → substituted (λ p. coefficient_of serial p.terms) states difference ≡ pos 0
