-- When an equation is redundant or inconsistent, and what a refusal leaves.
use Rattle.std.proofs.Common.{◌≡◌, ◌≤◌, ◌<◌, ◌↔◌, ℕ, ℤ, unsigned_abs, Bool, true, false, cond, leb, List, [], ◌∷◌, Option, refl, sym, ap, ◌∙◌}
use Rattle.std.proofs.lemmas.Bool.{le-leb, lt-leb, leb-true, leb-false}
use Rattle.mp_pool.specs.declared.Term.{Term}
use Rattle.mp_forms.specs.Forms.{LinearForm}
use Rattle.mp_solver.specs.declared.equated.Equated.{Equated}
use Rattle.mp_solver.specs.declared.equated.Equated.TheVariants.{Accepted, Redundant, Inconsistent, CoefficientTooLarge, Overflow, Limit}
use Rattle.mp_solver.specs.States.{States, Unknowns}
use Rattle.mp_solver.specs.Elimination.{pivot_of, judged, eliminate, eliminate_by, IsRedundant, IsInconsistent}

-- unknowns with the same states and names are the same
pub same_unknowns : (a b : Unknowns) → a.states ≡ b.states → a.names ≡ b.names → a ≡ b
same_unknowns a b states names =
    ap (λ (s : States). record { states = s; names = a.names }) states ∙ ap (λ (n : List (Option (List ℕ))). record { states = b.states; names = n }) names

module _ (states : States) (residual : LinearForm) (r : ℤ) where
  judged_redundant : (z : ℤ) (small : Bool) → leb (unsigned_abs z) 64 ≡ small → cond small (Redundant z) (Inconsistent z) ≡ Redundant r → (z ≡ r) × (unsigned_abs r ≤ 64)
  judged_redundant z true test is =
      let same : z ≡ r = cc in
      (same, rw (← same) (leb-true (unsigned_abs z) 64 test))
  judged_redundant z false test is = cc

  judged_inconsistent : (z : ℤ) (small : Bool) → leb (unsigned_abs z) 64 ≡ small → cond small (Redundant z) (Inconsistent z) ≡ Inconsistent r → (z ≡ r) × (64 < unsigned_abs r)
  judged_inconsistent z true test is = cc
  judged_inconsistent z false test is =
      let same : z ≡ r = cc in
      (same, rw (← same) (leb-false (unsigned_abs z) 64 test))

  abbrev limited : Bool → Bool → Bool → States → Equated × States
  limited a b c after = cond a (CoefficientTooLarge, states) (cond b (Overflow, states) (cond c (Limit, states) (Accepted, after)))

  -- an equation with a pivot is neither
  limited_redundant : {P : Type 0} (a b c : Bool) (after : States) → (limited a b c after).0 ≡ Redundant r → P
  limited_redundant true b c after is = cc
  limited_redundant false true c after is = cc
  limited_redundant false false true after is = cc
  limited_redundant false false false after is = cc

  limited_inconsistent : {P : Type 0} (a b c : Bool) (after : States) → (limited a b c after).0 ≡ Inconsistent r → P
  limited_inconsistent true b c after is = cc
  limited_inconsistent false true c after is = cc
  limited_inconsistent false false true after is = cc
  limited_inconsistent false false false after is = cc

  redundant_by : (terms : List Term) → residual.terms ≡ terms → (eliminate_by states residual (pivot_of terms)).0 ≡ Redundant r → IsRedundant residual r
  redundant_by [] none is =
      let z = judged_redundant residual.constant (leb (unsigned_abs residual.constant) 64) refl is in
      (none, z.0, z.1)
  redundant_by (t ∷ ts) some is = limited_redundant _ _ _ _ is

  inconsistent_by : (terms : List Term) → residual.terms ≡ terms → (eliminate_by states residual (pivot_of terms)).0 ≡ Inconsistent r → IsInconsistent residual r
  inconsistent_by [] none is =
      let z = judged_inconsistent residual.constant (leb (unsigned_abs residual.constant) 64) refl is in
      (none, z.0, z.1)
  inconsistent_by (t ∷ ts) some is = limited_inconsistent _ _ _ _ is

  judged_here : residual.terms ≡ [] → (eliminate states residual).0 ≡ judged residual.constant
  judged_here none = ap (λ (ts : List Term). (eliminate_by states residual (pivot_of ts)).0) none

  pub redundant-where : (answer : Equated) (new : States) → (answer, new) ≡ eliminate states residual → (answer ≡ Redundant r) ↔ IsRedundant residual r
  redundant-where answer new exact =
      let first : answer ≡ (eliminate states residual).0 = ap (λ (e : Equated × States). e.0) exact in (
        λ is. redundant_by residual.terms refl (sym first ∙ is),
        λ is. first ∙ judged_here is.0 ∙ rw (is.1, le-leb (unsigned_abs r) 64 is.2) refl,
      )

  pub inconsistent-where : (answer : Equated) (new : States) → (answer, new) ≡ eliminate states residual → (answer ≡ Inconsistent r) ↔ IsInconsistent residual r
  inconsistent-where answer new exact =
      let first : answer ≡ (eliminate states residual).0 = ap (λ (e : Equated × States). e.0) exact in (
        λ is. inconsistent_by residual.terms refl (sym first ∙ is),
        λ is. first ∙ judged_here is.0 ∙ rw (is.1, lt-leb (unsigned_abs r) 64 is.2) refl,
      )
