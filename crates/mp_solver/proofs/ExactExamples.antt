-- Worked examples: a list of events that is exact, and an equation that is not.
use Rattle.std.proofs.Common.{◌≡◌, ◌⊎◌, ℕ, ◌<◌, ◌^◌, ℤ, pos, neg_ℤ, ◌+ℤ◌, List, [], ◌∷◌, Some, None, Ok, refl, sym, ap, ◌∙◌, subst, inl, inr, arith}
use Rattle.std.specs.Prelude.{codes, is_some, true}
use Rattle.std.specs.List.{AllByRecursion as ByRecursion}
use Rattle.std.proofs.lemmas.Int.{ints}
use Rattle.std.proofs.lemmas.List.Elements.{All-from_recursion}
use Rattle.mp_pool.specs.declared.Term.{Term}
use Rattle.mp_pool.specs.Ratios.{times_fraction}
use Rattle.mp_pool.specs.Terms.{with_term, sum_terms, IsCoefficient, AreTerms}
use Rattle.mp_forms.specs.Forms.{LinearForm}
use Rattle.mp_solver.specs.declared.equated.Equated.TheVariants.{Accepted}
use Rattle.mp_solver.specs.States.{States, IsSerial}
use Rattle.mp_solver.specs.Reduction.{independent_part, reduce_of}
use Rattle.mp_solver.specs.Elimination.{pivot_of, term_of, over_negative, solved_for, forms_in, eliminate}
use Rattle.mp_solver.specs.Replay.{Fresh, Equation, replay}
use Rattle.mp_solver.specs.Exact.{coefficient_in, coefficient_of, HasNoRemainder, DropsOnlyZeros, IsExactSum, without_unknown, IsExactSolution, IsExactReplacement, AreExactTerms, IsExactElimination, IsExactEquation, IsExact, start, next, substituted}
use Rattle.mp_solver.proofs.CoefficientLemmas.{cases_equal, first_other}

-- an unknown has a term among these, or is due none
abbrev IsSettled : (ℕ → ℤ) → List Term → Term → Type 0
IsSettled due terms t = (is_some (term_of t.serial terms) ≡ true) ⊎ (due t.serial ≡ pos 0)

-- no coefficient is dropped but 0, where each unknown in two forms is settled
module _ (due : ℕ → ℤ) (terms : List Term) where
  IsSettled-found : (ts : List Term) (u : ℕ) → ByRecursion (IsSettled due terms) ts → term_of u terms ≡ None → (due u ≡ pos 0) ⊎ (term_of u ts ≡ None)
  IsSettled-found [] u settled none = inr refl
  IsSettled-found (t ∷ ts) u settled none =
      elim (cases_equal t.serial u) [
        | inl same ↦
            elim settled.0 [
              | inl some ↦ absurd (let some' : is_some (term_of u terms) ≡ true = subst (λ s. is_some (term_of s terms) ≡ true) same some in let none' = ap is_some none in cc)
              | inr zero ↦ inl (subst (λ s. due s ≡ pos 0) same zero)
            ]
        | inr other ↦ rw (first_other u t ts other) (IsSettled-found ts u settled.1 none)
      ]

  drops_by : (ps qs : List Term) → ((u : ℕ) → term_of u ps ≡ None → term_of u qs ≡ None → due u ≡ pos 0) →
      ByRecursion (IsSettled due terms) ps → ByRecursion (IsSettled due terms) qs → DropsOnlyZeros due terms
  drops_by ps qs absent left right u none =
      elim (IsSettled-found ps u left none) [
        | inl zero ↦ zero
        | inr here ↦ elim (IsSettled-found qs u right none) [ inl zero ↦ zero | inr there ↦ absent u here there ]
      ]

abbrev sum_due : ℤ → LinearForm → LinearForm → ℕ → ℤ
sum_due f p q serial = coefficient_of serial p.terms +ℤ times_fraction f (coefficient_of serial q.terms)

exact_sum : (f : ℤ) (p q : LinearForm) → times_fraction f (pos 0) ≡ pos 0 → HasNoRemainder f (pos 268435456) q.constant → ByRecursion (λ t. HasNoRemainder f (pos 268435456) t.coefficient) q.terms →
    ByRecursion (IsSettled (sum_due f p q) (sum_terms (times_fraction f) p.terms q.terms)) p.terms →
    ByRecursion (IsSettled (sum_due f p q) (sum_terms (times_fraction f) p.terms q.terms)) q.terms → IsExactSum f p q
exact_sum f p q zero constant coefficients left right = record {
  remainders = record { constant = constant; coefficients = All-from_recursion (λ t. HasNoRemainder f (pos 268435456) t.coefficient) q.terms coefficients };
  drops = drops_by (sum_due f p q) (sum_terms (times_fraction f) p.terms q.terms) p.terms q.terms
      (λ u here there. ap (λ t. coefficient_in t +ℤ times_fraction f (coefficient_of u q.terms)) here ∙ ap (λ t. pos 0 +ℤ times_fraction f (coefficient_in t)) there ∙ ap (λ n. pos 0 +ℤ n) zero)
      left right;
}

abbrev solution_due : Term → LinearForm → ℕ → ℤ
solution_due pivot p serial = over_negative pivot.coefficient (coefficient_of serial (without_unknown pivot.serial p).terms)

exact_solution : (pivot : Term) (p : LinearForm) → over_negative pivot.coefficient (pos 0) ≡ pos 0 → HasNoRemainder (pos 268435456) pivot.coefficient p.constant →
    ByRecursion (λ t. HasNoRemainder (pos 268435456) pivot.coefficient t.coefficient) (without_unknown pivot.serial p).terms →
    ByRecursion (IsSettled (solution_due pivot p) (solved_for pivot p).terms) (without_unknown pivot.serial p).terms → IsExactSolution pivot p
exact_solution pivot p zero constant coefficients settled =
    let rest : List Term = (without_unknown pivot.serial p).terms in
    record {
      remainders = record { constant = constant; coefficients = All-from_recursion (λ t. HasNoRemainder (pos 268435456) pivot.coefficient t.coefficient) rest coefficients };
      drops = drops_by (solution_due pivot p) (solved_for pivot p).terms rest [] (λ u here there. ap (λ t. over_negative pivot.coefficient (coefficient_in t)) here ∙ zero) settled tt;
    }

some_is : {t u : Term} → Some t ≡ Some u → t ≡ u
some_is e = cc

-- 1, and -1, as coefficients
abbrev one : ℤ
one = pos 268435456

abbrev minus_one : ℤ
minus_one = neg_ℤ (pos 268435456)

-- x, y and z have the serials 1, 2 and 3
abbrev x : ℤ → Term
x coefficient = record { serial = 1; coefficient = coefficient }

abbrev y : ℤ → Term
y coefficient = record { serial = 2; coefficient = coefficient }

abbrev z : ℤ → Term
z coefficient = record { serial = 3; coefficient = coefficient }

abbrev form : ℤ → List Term → LinearForm
form constant terms = record { constant = constant; terms = terms }

-- one term, and two
one_term : (s : ℕ) (c : ℤ) → s < 2 ^ 32 → IsCoefficient c → AreTerms (record { serial = s; coefficient = c } ∷ [])
one_term s c small is = record {
  serials = (small, tt);
  coefficients = All-from_recursion (λ t. IsCoefficient t.coefficient) (record { serial = s; coefficient = c } ∷ []) (is, tt);
}

two_terms : (s r : ℕ) (c d : ℤ) → s < 2 ^ 32 → r < s → IsCoefficient c → IsCoefficient d → AreTerms (record { serial = s; coefficient = c } ∷ record { serial = r; coefficient = d } ∷ [])
two_terms s r c d small less first second = record {
  serials = (small, (less, tt));
  coefficients = All-from_recursion (λ t. IsCoefficient t.coefficient) (record { serial = s; coefficient = c } ∷ record { serial = r; coefficient = d } ∷ []) (first, (second, tt));
}

-- an equation whose sums are exact, and whose pivot is this
exact_equation : (states : States) (difference residual : LinearForm) (pivot : Term) → AreTerms difference.terms → ByRecursion (λ t. IsSerial states t.serial) difference.terms →
    Ok residual ≡ reduce_of states difference → (eliminate states residual).0 ≡ Accepted → AreExactTerms states (Ok (independent_part states difference)) difference.terms →
    pivot_of residual.terms ≡ Some pivot → IsExactSolution pivot residual →
    ByRecursion (IsExactReplacement pivot.serial (solved_for pivot residual)) (forms_in states) → IsExactEquation states difference
exact_equation states difference residual pivot terms over reduced accepted sums is solution replacements = record {
  terms = terms;
  over = All-from_recursion (λ t. IsSerial states t.serial) difference.terms over;
  residual = residual;
  reduced = reduced;
  accepted = accepted;
  sums = sums;
  elimination = λ other found.
      let same : pivot ≡ other = some_is (sym is ∙ found) in
      subst (IsExactElimination states residual) same
      (record { solution = solution; replacements = All-from_recursion (IsExactReplacement pivot.serial (solved_for pivot residual)) (forms_in states) replacements });
}

-- a form without the unknown, and one where a known number replaces it
no_replacement : (serial : ℕ) (new p : LinearForm) → term_of serial p.terms ≡ None → IsExactReplacement serial new p
no_replacement serial new p none t found = absurd (let e = sym none ∙ found in cc)

known_replacement : (serial : ℕ) (known : ℤ) (p : LinearForm) (u : Term) → term_of serial p.terms ≡ Some u →
    IsExactSum u.coefficient (without_unknown serial p) (form known []) → IsExactReplacement serial (form known []) p
known_replacement serial known p u is exact t found =
    subst (λ (t : Term). IsExactSum t.coefficient (without_unknown serial p) (form known [])) (some_is (sym is ∙ found)) exact

-- x+y-3 and x-y-1; y is -x+3 after the first, and then the second comes to 2x-4
abbrev sum_is_three : LinearForm
sum_is_three = form (neg_ℤ (pos 196608)) (y one ∷ x one ∷ [])

abbrev difference_is_one : LinearForm
difference_is_one = form (neg_ℤ (pos 65536)) (y minus_one ∷ x one ∷ [])

abbrev three_less_x : LinearForm
three_less_x = form (pos 196608) (x minus_one ∷ [])

abbrev twice_x : LinearForm
twice_x = form (neg_ℤ (pos 262144)) (x (pos 536870912) ∷ [])

sum_is_exact : IsExactEquation (None ∷ None ∷ []) sum_is_three
sum_is_exact =
    exact_equation (None ∷ None ∷ []) sum_is_three sum_is_three (y one)
    (two_terms 2 1 one one (omega arith) (omega arith) (omega arith, omega arith) (omega arith, omega arith))
    ((omega arith, omega arith), ((omega arith, omega arith), tt))
    refl refl (tt, (tt, tt)) refl
    (exact_solution (y one) sum_is_three refl refl (refl, tt) (inl refl, tt)) tt

difference_is_exact : IsExactEquation (None ∷ Some three_less_x ∷ []) difference_is_one
unfolding sum_terms with_term
difference_is_exact =
    exact_equation (None ∷ Some three_less_x ∷ []) difference_is_one twice_x (x (pos 536870912))
    (two_terms 2 1 minus_one one (omega arith) (omega arith) (omega arith, omega arith) (omega arith, omega arith))
    ((omega arith, omega arith), ((omega arith, omega arith), tt))
    refl refl
    (exact_sum minus_one (form (neg_ℤ (pos 65536)) (x one ∷ [])) three_less_x refl refl (refl, tt) (inl refl, tt) (inl refl, tt), (tt, tt))
    refl (exact_solution (x (pos 536870912)) twice_x refl refl tt tt)
    (known_replacement 1 (pos 131072) three_less_x (x minus_one) refl (exact_sum minus_one (form (pos 196608) []) (form (pos 131072) []) refl refl tt tt tt), tt)

-- x+y=3; x-y=1
pub two_equations_are_exact : IsExact (Fresh (codes "x") ∷ Fresh (codes "y") ∷ Equation sum_is_three ∷ Equation difference_is_one ∷ [])
unfolding sum_terms with_term
two_equations_are_exact =
    next (next (next (next start (Fresh (codes "x")) tt) (Fresh (codes "y")) tt) (Equation sum_is_three) sum_is_exact) (Equation difference_is_one) difference_is_exact

-- x+y-30000, z-x-30000 and x-2000; y is -x+30000 after the first, z is x+30000 after the second
abbrev sum_is_large : LinearForm
sum_is_large = form (neg_ℤ (pos 1966080000)) (y one ∷ x one ∷ [])

abbrev difference_is_large : LinearForm
difference_is_large = form (neg_ℤ (pos 1966080000)) (z one ∷ x minus_one ∷ [])

abbrev x_is_known : LinearForm
x_is_known = form (neg_ℤ (pos 131072000)) (x one ∷ [])

abbrev large_less_x : LinearForm
large_less_x = form (pos 1966080000) (x minus_one ∷ [])

abbrev large_and_x : LinearForm
large_and_x = form (pos 1966080000) (x one ∷ [])

large_sum_is_exact : IsExactEquation (None ∷ None ∷ None ∷ []) sum_is_large
large_sum_is_exact =
    exact_equation (None ∷ None ∷ None ∷ []) sum_is_large sum_is_large (y one)
    (two_terms 2 1 one one (omega arith) (omega arith) (omega arith, omega arith) (omega arith, omega arith))
    ((omega arith, omega arith), ((omega arith, omega arith), tt))
    refl refl (tt, (tt, tt)) refl
    (exact_solution (y one) sum_is_large refl refl (refl, tt) (inl refl, tt)) tt

large_difference_is_exact : IsExactEquation (None ∷ Some large_less_x ∷ None ∷ []) difference_is_large
large_difference_is_exact =
    exact_equation (None ∷ Some large_less_x ∷ None ∷ []) difference_is_large difference_is_large (z one)
    (two_terms 3 1 one minus_one (omega arith) (omega arith) (omega arith, omega arith) (omega arith, omega arith))
    ((omega arith, omega arith), ((omega arith, omega arith), tt))
    refl refl (tt, (tt, tt)) refl
    (exact_solution (z one) difference_is_large refl refl (refl, tt) (inl refl, tt))
    (no_replacement 3 large_and_x large_less_x refl, tt)

known_is_exact : IsExactEquation (None ∷ Some large_less_x ∷ Some large_and_x ∷ []) x_is_known
unfolding sum_terms with_term
known_is_exact =
    exact_equation (None ∷ Some large_less_x ∷ Some large_and_x ∷ []) x_is_known x_is_known (x one)
    (one_term 1 one (omega arith) (omega arith, omega arith))
    ((omega arith, omega arith), tt)
    refl refl (tt, tt) refl
    (exact_solution (x one) x_is_known refl refl tt tt) (
      known_replacement 1 (pos 131072000) large_less_x (x minus_one) refl (exact_sum minus_one (form (pos 1966080000) []) (form (pos 131072000) []) refl refl tt tt tt),
      (known_replacement 1 (pos 131072000) large_and_x (x one) refl (exact_sum one (form (pos 1966080000) []) (form (pos 131072000) []) refl refl tt tt tt), tt),
    )

-- x+y=30000; z-x=30000; x=2000
pub three_equations_are_exact :
    IsExact (Fresh (codes "x") ∷ Fresh (codes "y") ∷ Fresh (codes "z") ∷ Equation sum_is_large ∷ Equation difference_is_large ∷ Equation x_is_known ∷ [])
unfolding sum_terms with_term
three_equations_are_exact =
    let made = next (next (next start (Fresh (codes "x")) tt) (Fresh (codes "y")) tt) (Fresh (codes "z")) tt in
    next (next (next made (Equation sum_is_large) large_sum_is_exact) (Equation difference_is_large) large_difference_is_exact) (Equation x_is_known) known_is_exact

-- 3x+y=1: the third of 1 has a remainder
abbrev thrice_and_once_is_one : LinearForm
thrice_and_once_is_one = form (neg_ℤ (pos 65536)) (y one ∷ x (pos 805306368) ∷ [])

pub third_is_not_exact : IsExactEquation (None ∷ None ∷ []) thrice_and_once_is_one → ⊥
third_is_not_exact exact =
    let states : States = None ∷ None ∷ [] in
    let same : exact.residual ≡ thrice_and_once_is_one = let reduced = exact.reduced in cc in
    let solved : IsExactElimination states thrice_and_once_is_one (x (pos 805306368)) =
    subst (λ (r : LinearForm). (pivot : Term) → pivot_of r.terms ≡ Some pivot → IsExactElimination states r pivot) same exact.elimination (x (pos 805306368)) refl in
    let whole : HasNoRemainder (pos 268435456) (pos 805306368) (neg_ℤ (pos 65536)) = solved.solution.remainders.constant in
    omega (arith, ints, whole)

-- and its replay leaves 2^-16 of it
pub third_is_not_satisfied : substituted (λ p. p.constant) (replay (Fresh (codes "x") ∷ Fresh (codes "y") ∷ Equation thrice_and_once_is_one ∷ [])).states thrice_and_once_is_one ≡ neg_ℤ (pos 268435456)
third_is_not_satisfied = refl
