-- From one form that holds the pivot to the next: those between them stay as they are.
use Rattle.std.proofs.Common.{◌≡◌, ℕ, ◌+◌, ◌-◌, ◌<◌, ◌≤◌, Bool, false, List, [], ◌∷◌, Option, Some, None, zero, suc, length, get_or, refl, sym, ap, subst, inl, inr, arith}
use Rattle.std.proofs.lemmas.Bool.{cases_lt}
use Rattle.mp_forms.specs.Forms.{LinearForm}
use Rattle.mp_solver.specs.States.{States}
use Rattle.mp_solver.specs.Elimination.{replaced, replaced_term, term_count}
use Rattle.mp_solver.specs.Solved.{IsSolvedForm, IsSolved}
use Rattle.mp_solver.specs.Storage.Rows.{IsWithout, AreHolders}
use Rattle.mp_solver.specs.Storage.Tally.{IsTally, IsEnough, partly}
use Rattle.mp_solver.proofs.TermLists.{term_of-none}
use Rattle.mp_solver.proofs.RewriteLemmas.{partly-skip, partly-count}
use Rattle.mp_solver.proofs.SubstitutionLemmas.{IsTally-past, IsTally-none, IsTally-unchanged}
use Rattle.mp_solver.proofs.StepLemmas.{holds-at, small_form}

-- up to this form, the forms and the new form once more had so many terms at most
abbrev pub IsPeak : States → ℕ → LinearForm → ℕ → ℕ → Type 0
IsPeak states serial new i peak = (j : ℕ) → j ≤ i → term_count (partly states serial new j) + length new.terms ≤ peak

-- how far the loop over the rows has come
pub record IsVisit (states : States) (serial : ℕ) (new : LinearForm) (rows : List ℕ) (overflows : Bool) (unchanged added peak : ℕ) : Type 0 where
  pub from : ℕ
  pub tally : IsTally states serial new from overflows unchanged added
  pub holders : AreHolders states serial from rows
  pub peak_is : overflows ≡ false → added ≤ 4000000 → IsPeak states serial new from peak

-- a tally counts the terms at the form that it has come to
at_tally : (states : States) (serial : ℕ) (new : LinearForm) (i : ℕ) (overflows : Bool) (unchanged added : ℕ) → IsTally states serial new i overflows unchanged added
    → overflows ≡ false → added ≤ 4000000 → term_count (partly states serial new i) + length new.terms ≡ unchanged + added
at_tally states serial new i overflows unchanged added tally fits few =
    let count = tally.counted fits in
    let added_is = count.added_is in
    let total_is = count.total_is in
    omega (arith, added_is, total_is, few, partly-count states serial new i)

-- one form further
peak_by : (states : States) (serial : ℕ) (new : LinearForm) (i peak : ℕ) → IsPeak states serial new i peak
    → term_count (partly states serial new (i + 1)) + length new.terms ≤ peak → IsPeak states serial new (i + 1) peak
peak_by states serial new i peak before here j le =
    elim (cases_lt j (i + 1)) [
      | inl less ↦ before j (omega (arith, less))
      | inr past ↦
          let same : j ≡ i + 1 = omega (arith, le, past) in
          subst (λ k. term_count (partly states serial new k) + length new.terms ≤ peak) (sym same) here
    ]

pub peak-start : (states : States) (serial : ℕ) (new : LinearForm) (overflows : Bool) (unchanged added peak : ℕ) → IsTally states serial new 0 overflows unchanged added → peak ≡ unchanged + added
    → overflows ≡ false → added ≤ 4000000 → IsPeak states serial new 0 peak
peak-start states serial new overflows unchanged added peak tally peak_is fits few j le =
    let same : j ≡ 0 = omega (arith, le) in
    subst (λ k. term_count (partly states serial new k) + length new.terms ≤ peak) (sym same)
    (omega (arith, peak_is, at_tally states serial new 0 overflows unchanged added tally fits few))

-- the numbers after a form that changes or stays
pub peak-step : (states : States) (serial : ℕ) (new : LinearForm) (i : ℕ) (overflows : Bool) (added peak unchanged_then added_then peak_then : ℕ)
    → (overflows ≡ false → added ≤ 4000000 → IsPeak states serial new i peak) → IsTally states serial new (i + 1) overflows unchanged_then added_then
    → added ≤ added_then → peak ≤ peak_then → unchanged_then + added_then ≤ peak_then
    → overflows ≡ false → added_then ≤ 4000000 → IsPeak states serial new (i + 1) peak_then
peak-step states serial new i overflows added peak unchanged_then added_then peak_then before tally more higher enough fits few =
    peak_by states serial new i peak_then (λ j le. let was = before fits (omega (arith, more, few)) j le in omega (arith, was, higher))
    (omega (arith, enough, at_tally states serial new (i + 1) overflows unchanged_then added_then tally fits few))

pub peak-same : (states : States) (serial : ℕ) (new : LinearForm) (i : ℕ) (overflows : Bool) (unchanged added peak : ℕ)
    → (overflows ≡ false → added ≤ 4000000 → IsPeak states serial new i peak) → IsTally states serial new i overflows unchanged added → IsTally states serial new (i + 1) overflows unchanged added
    → overflows ≡ false → added ≤ 4000000 → IsPeak states serial new (i + 1) peak
peak-same states serial new i overflows unchanged added peak before tally next fits few =
    let was = before fits few i (omega arith) in
    let at = at_tally states serial new i overflows unchanged added tally fits few in
    let then = at_tally states serial new (i + 1) overflows unchanged added next fits few in
    peak_by states serial new i peak (before fits few) (omega (arith, was, at, then))

module _ (states : States) (solved : IsSolved states) (serial : ℕ) (new : LinearForm) (overflows : Bool) (unchanged added : ℕ) where
  abbrev IsTallyAt : ℕ → Type 0
  IsTallyAt i = IsTally states serial new i overflows unchanged added

  skip_by : (i : ℕ) → IsTallyAt i → IsWithout states serial i → i < length states → (s : Option LinearForm) → get_or states i None ≡ s → IsTallyAt (i + 1)
  skip_by i so_far without at None none = IsTally-none states serial new i overflows unchanged added so_far at none
  skip_by i so_far without at (Some form) some =
      let small = small_form states form (holds-at (IsSolvedForm states) states i form solved.forms some) in
      let same : replaced serial new form ≡ form = ap (replaced_term serial new form) (term_of-none serial form.terms (without form some)) in
      IsTally-unchanged states serial new i overflows unchanged added so_far at form some same small.0 small.1

  skip_one : (i : ℕ) → IsTallyAt i → IsWithout states serial i → IsTallyAt (i + 1)
  skip_one i so_far without =
      elim (cases_lt i (length states)) [
        | inl at ↦ skip_by i so_far without at (get_or states i None) refl
        | inr past ↦ IsTally-past states serial new i overflows unchanged added so_far past
      ]

  skip : (n i : ℕ) → IsTallyAt i → ((row : ℕ) → i ≤ row → row < i + n → IsWithout states serial row) → IsTallyAt (i + n)
  skip zero i so_far without = let same : i ≡ i + 0 = omega arith in subst IsTallyAt same so_far
  skip (suc n) i so_far without =
      let before = skip n i so_far (λ row le less. without row le (omega (arith, less))) in
      let one = skip_one (i + n) before (without (i + n) (omega arith) (omega arith)) in
      let same : (i + n) + 1 ≡ i + suc n = omega arith in
      subst IsTallyAt same one

  pub visit-at : {peak : ℕ} (row : ℕ) (rows : List ℕ) → IsVisit states serial new (row ∷ rows) overflows unchanged added peak → IsTallyAt row
  visit-at {peak} row rows visit =
      let le = visit.holders.0 in
      let same : visit.from + (row - visit.from) ≡ row = omega (arith, le) in
      subst IsTallyAt same (skip (row - visit.from) visit.from visit.tally (λ other from less. visit.holders.1 other from (omega (arith, le, less))))

  -- and the peak there
  pub peak-at : {peak : ℕ} (row : ℕ) (rows : List ℕ) → IsVisit states serial new (row ∷ rows) overflows unchanged added peak → overflows ≡ false → added ≤ 4000000 → IsPeak states serial new row peak
  peak-at {peak} row rows visit fits few j le =
      elim (cases_lt visit.from j) [
        | inl past ↦
            let same = partly-skip states serial new visit.from j (omega (arith, past)) (λ other from less. visit.holders.1 other from (omega (arith, le, less))) in
            subst (λ ss. term_count ss + length new.terms ≤ peak) same (visit.peak_is fits few visit.from (omega arith))
        | inr before ↦ visit.peak_is fits few j before
      ]

  -- no form stands at the row
  pub visit-none : {peak : ℕ} (row : ℕ) (rows : List ℕ) → get_or states row None ≡ None → IsVisit states serial new (row ∷ rows) overflows unchanged added peak
      → IsVisit states serial new rows overflows unchanged added peak
  visit-none {peak} row rows none visit = record {
    from = row + 1;
    tally = skip_one row (visit-at row rows visit) (λ p some. absurd cc);
    holders = visit.holders.2;
    peak_is = peak-same states serial new row overflows unchanged added peak (peak-at row rows visit) (visit-at row rows visit) (skip_one row (visit-at row rows visit) (λ p some. absurd cc));
  }

  -- all forms have been visited
  pub visit-all : {peak : ℕ} → IsVisit states serial new [] overflows unchanged added peak → (i : ℕ) × (length states ≤ i) × IsTallyAt i
  visit-all {peak} visit =
      (visit.from + length states, omega arith, skip (length states) visit.from visit.tally (λ row from less. visit.holders row from))

  pub visit-enough : {peak : ℕ} → IsVisit states serial new [] overflows unchanged added peak → overflows ≡ false → added ≤ 4000000 → IsEnough states serial new peak
  visit-enough {peak} visit fits few j =
      elim (cases_lt visit.from j) [
        | inl past ↦
            let same = partly-skip states serial new visit.from j (omega (arith, past)) (λ other from less. visit.holders other from) in
            subst (λ ss. term_count ss + length new.terms ≤ peak) same (visit.peak_is fits few visit.from (omega arith))
        | inr before ↦ visit.peak_is fits few j before
      ]
