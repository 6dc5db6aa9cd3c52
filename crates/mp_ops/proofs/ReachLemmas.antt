-- Forms keep within the unknowns: what is made of forms reaches no further than they do.
use Rattle.std.proofs.Common.{◌≡◌, ℕ, zero, suc, ◌+◌, ◌≤◌, ◌<◌, ◌^◌, max, ℤ, ◌+ℤ◌, unsigned_abs, Bool, true, false, cond, List, [], ◌∷◌, ◌++◌, Option, Some, None, Result, Ok, Err, ltb, ◌-◌, inl, inr, length, get_or, sym, subst, ◌∙◌, arith}
use Rattle.std.specs.Prelude.{nat_lt, nat_eq, is_none}
use Rattle.std.specs.List.{All, fold, filter, list_any}
use Rattle.std.specs.Result.{IfOk}
use Rattle.std.specs.Ordering.{nat_cmp, match_ordering}
use Rattle.std.specs.declared.cmp.Ordering.TheVariants.{Less, Equal, Greater}
use Rattle.std.proofs.lemmas.Bool.{cases_lt}
use Rattle.std.proofs.lemmas.List.{get_or_past}
use Rattle.std.proofs.lemmas.List.Elements.{All-nil, All-cons}
use Rattle.mp_pool.specs.declared.Term.{Term}
use Rattle.mp_forms.specs.declared.fault.FormFault.{FormFault}
use Rattle.mp_forms.specs.declared.fault.FormFault.TheVariants.{Overflow, CoefficientTooLarge, DivisionByZero}
use Rattle.mp_pool.specs.Ratios.{times_fraction, times_scaled, over_scaled}
use Rattle.mp_pool.specs.Terms.{joint_term, lone_term, changed_terms, with_term, sum_terms, is_too_large}
use Rattle.mp_forms.specs.Forms.{LinearForm, within_limits, changed_form, sum_of, form_times_scaled, form_over_scaled}
use Rattle.mp_solver.specs.States.{States, form_of, IsOver}
use Rattle.mp_solver.specs.Reduction.{independent_part, with_form, with_term_of, reduce_of}
use Rattle.mp_ops.specs.Store.{reach_of_serial, reach_of_terms, reach_of_form, reach_of_known}

-- a serial that unknowns reach is one of theirs
pub serial_within : (serial n : ℕ) → n ≤ 1000000 → reach_of_serial serial ≤ n → (1 ≤ serial) × (serial ≤ n)
serial_within zero n few h = absurd (omega arith)
serial_within (suc k) n few h = (omega arith, h)

pub reach_of_counted : (n serial : ℕ) → serial ≡ n + 1 → reach_of_serial serial ≡ n + 1
reach_of_counted n zero e = absurd (omega arith)
reach_of_counted n (suc k) e = e

-- and so are all of a form that they reach
pub terms_within : (n : ℕ) (ts : List Term) → n ≤ 1000000 → reach_of_terms ts ≤ n → All (λ t. (1 ≤ t.serial) × (t.serial ≤ n)) ts
unfolding reach_of_terms
terms_within n [] few h = All-nil (λ t. (1 ≤ t.serial) × (t.serial ≤ n))
terms_within n (t ∷ ts) few h =
    All-cons (λ t. (1 ≤ t.serial) × (t.serial ≤ n)) t ts (serial_within t.serial n few (omega arith)) (terms_within n ts few (omega arith))

pub is_over : (states : States) (p : LinearForm) → length states ≤ 1000000 → reach_of_form p ≤ length states → IsOver states p
is_over states p few h = terms_within (length states) p.terms few h

pub reach_each : (ts : List Term) (i : ℕ) (d : Term) → i < length ts → reach_of_serial (get_or ts i d).serial ≤ reach_of_terms ts
unfolding reach_of_terms
reach_each [] i d h = absurd (omega arith)
reach_each (t ∷ ts) zero d h = omega arith
reach_each (t ∷ ts) (suc i) d h = omega (arith, reach_each ts i d (omega arith))

-- a part of the terms
pub reach-filter : (keep : Term → Bool) (ts : List Term) → reach_of_terms (filter keep ts) ≤ reach_of_terms ts
unfolding reach_of_terms
reach-filter keep [] = omega arith
reach-filter keep (t ∷ ts) =
    let rest = reach-filter keep ts in
    elim (keep t) as (λ b. reach_of_terms (cond b (t ∷ filter keep ts) (filter keep ts)) ≤ max (reach_of_serial t.serial) (reach_of_terms ts)) [
      | true ↦ omega arith
      | false ↦ omega arith
    ]

pub reach-append : (ts us : List Term) → reach_of_terms (ts ++ us) ≡ max (reach_of_terms ts) (reach_of_terms us)
unfolding reach_of_terms
reach-append [] us = omega arith
reach-append (t ∷ ts) us = omega (arith, reach-append ts us)

reach-lone : (serial : ℕ) (c : ℤ) → reach_of_terms (lone_term serial c) ≤ reach_of_serial serial
unfolding reach_of_terms
reach-lone serial c =
    elim (ltb (unsigned_abs c) 1343) as (λ b. reach_of_terms (cond b [] (record { serial = serial; coefficient = c } ∷ [])) ≤ reach_of_serial serial) [
      | true ↦ omega arith
      | false ↦ omega arith
    ]

reach-joint : (serial : ℕ) (c : ℤ) → reach_of_terms (joint_term serial c) ≤ reach_of_serial serial
unfolding reach_of_terms
reach-joint serial c =
    elim (ltb (unsigned_abs c) 2685) as (λ b. reach_of_terms (cond b [] (record { serial = serial; coefficient = c } ∷ [])) ≤ reach_of_serial serial) [
      | true ↦ omega arith
      | false ↦ omega arith
    ]

pub reach-changed : (change : ℤ → ℤ) (ts : List Term) → reach_of_terms (changed_terms change ts) ≤ reach_of_terms ts
unfolding reach_of_terms
reach-changed change [] = omega arith
reach-changed change (t ∷ ts) =
    omega (arith, reach-append (lone_term t.serial (change t.coefficient)) (changed_terms change ts), reach-lone t.serial (change t.coefficient), reach-changed change ts)

reach-with_term : (change : ℤ → ℤ) (q : Term) (ps : List Term) → reach_of_terms (with_term change q ps) ≤ max (reach_of_serial q.serial) (reach_of_terms ps)
unfolding reach_of_terms with_term
reach-with_term change q [] = omega (arith, reach-lone q.serial (change q.coefficient))
reach-with_term change q (p ∷ ps) =
    let lone = lone_term q.serial (change q.coefficient) in
    let joint = joint_term p.serial (p.coefficient +ℤ change q.coefficient) in
    elim (nat_cmp p.serial q.serial) as (λ o. reach_of_terms (match_ordering o (lone ++ p ∷ ps) (joint ++ ps) (p ∷ with_term change q ps)) ≤ max (reach_of_serial q.serial) (max (reach_of_serial p.serial) (reach_of_terms ps))) [
      | Less ↦ omega (arith, reach-append lone (p ∷ ps), reach-lone q.serial (change q.coefficient))
      | Equal ↦ omega (arith, reach-append joint ps, reach-joint p.serial (p.coefficient +ℤ change q.coefficient))
      | Greater ↦ omega (arith, reach-with_term change q ps)
    ]

pub reach-sum : (change : ℤ → ℤ) (ps qs : List Term) → reach_of_terms (sum_terms change ps qs) ≤ max (reach_of_terms ps) (reach_of_terms qs)
unfolding reach_of_terms sum_terms
reach-sum change ps [] = omega arith
reach-sum change ps (q ∷ qs) = omega (arith, reach-with_term change q (sum_terms change ps qs), reach-sum change ps qs)

-- sums, products and quotients
abbrev pub Within : ℕ → Result LinearForm FormFault → Type 0
Within n answer = IfOk answer (λ p. reach_of_form p ≤ n)

pub ok_within : (n : ℕ) (answer outcome : Result LinearForm FormFault) (p : LinearForm) → answer ≡ Ok p → answer ≡ outcome → Within n outcome → reach_of_form p ≤ n
ok_within n answer outcome p ok e h = let P : Result LinearForm FormFault → Type 0 = λ r. Within n r in subst P (sym e ∙ ok) h

limits_by : (n : ℕ) (constant : ℤ) (ts : List Term) (large overflows : Bool) → reach_of_terms ts ≤ n
    → Within n (cond large (Err CoefficientTooLarge) (cond overflows (Ok (record { constant = constant; terms = ts })) (Err Overflow)))
limits_by n constant ts true overflows h = tt
limits_by n constant ts false true h = h
limits_by n constant ts false false h = tt

limits_within : (n : ℕ) (constant : ℤ) (ts : List Term) → reach_of_terms ts ≤ n → Within n (within_limits constant ts)
limits_within n constant ts h = limits_by n constant ts (list_any is_too_large ts) (nat_lt (unsigned_abs constant) (2 ^ 31)) h

changed_within : (n : ℕ) (change : ℤ → ℤ) (p : LinearForm) → reach_of_form p ≤ n → Within n (changed_form change p)
changed_within n change p hp = limits_within n (change p.constant) (changed_terms change p.terms) (omega (arith, reach-changed change p.terms))

module _ (n : ℕ) where
  pub sum_within : (f : ℤ) (p q : LinearForm) → reach_of_form p ≤ n → reach_of_form q ≤ n → Within n (sum_of f p q)
  sum_within f p q hp hq = limits_within n (p.constant +ℤ times_fraction f q.constant) (sum_terms (times_fraction f) p.terms q.terms) (omega (arith, reach-sum (times_fraction f) p.terms q.terms))

  pub product_within : (s : ℤ) (p : LinearForm) → reach_of_form p ≤ n → Within n (form_times_scaled s p)
  product_within s p hp = changed_within n (times_scaled s) p hp

  pub quotient_within : (s : ℤ) (p : LinearForm) → reach_of_form p ≤ n → Within n (form_over_scaled s p)
  quotient_within s p hp =
      elim (nat_eq (unsigned_abs s) 0) as (λ b. Within n (cond b (Err DivisionByZero) (changed_form (over_scaled s) p))) [
        | true ↦ tt
        | false ↦ changed_within n (over_scaled s) p hp
      ]

-- a form brought up to date
known_within : (states : States) (n serial : ℕ) → All (λ known. reach_of_known known ≤ n) states → reach_of_known (form_of states serial) ≤ n
known_within states n serial forms =
    elim (cases_lt (serial - 1) (length states)) as (λ _. reach_of_known (form_of states serial) ≤ n) [
      | inl h ↦ forms (serial - 1) None h
      | inr h ↦ rw (get_or_past states (serial - 1) None h) (omega arith)
    ]

with_form_within : (n : ℕ) (sum : LinearForm) (f : ℤ) (known : Option LinearForm) → reach_of_form sum ≤ n → reach_of_known known ≤ n → Within n (with_form sum f known)
with_form_within n sum f None h k = h
with_form_within n sum f (Some p) h k = sum_within n f sum p h k

fold_within : (states : States) (n : ℕ) (sum : Result LinearForm FormFault) (ts : List Term) → All (λ known. reach_of_known known ≤ n) states → Within n sum → Within n (fold (with_term_of states) sum ts)
fold_within states n sum [] forms h = h
fold_within states n (Err fault) (t ∷ ts) forms h = fold_within states n (Err fault) ts forms tt
fold_within states n (Ok p) (t ∷ ts) forms h =
    fold_within states n (with_form p t.coefficient (form_of states t.serial)) ts forms
    (with_form_within n p t.coefficient (form_of states t.serial) h (known_within states n t.serial forms))

pub reduce_within : (states : States) (n : ℕ) (p : LinearForm) → All (λ known. reach_of_known known ≤ n) states → reach_of_form p ≤ n → Within n (reduce_of states p)
reduce_within states n p forms h =
    fold_within states n (Ok (independent_part states p)) p.terms forms (omega (arith, reach-filter (λ t. is_none (form_of states t.serial)) p.terms))
