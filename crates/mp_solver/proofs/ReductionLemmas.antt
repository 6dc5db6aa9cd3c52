-- How a form is brought up to date, term by term.
use Rattle.std.proofs.Common.{◌≡◌, ℕ, ◌+◌, ◌<◌, ◌≤◌, ◌^◌, Bool, true, false, cond, List, [], ◌∷◌, Some, None, Result, Ok, Err, length, get_or, take, drop, refl, sym, ap, ◌∙◌, arith}
use Rattle.std.specs.List.{fold, filter}
use Rattle.std.proofs.lemmas.List.{take-append-drop}
use Rattle.std.proofs.lemmas.List.Sums.{fold-append, fold_more}
use Rattle.std.proofs.lemmas.List.Elements.{All-filter}
use Rattle.mp_pool.specs.declared.Term.{Term}
use Rattle.mp_forms.specs.declared.fault.FormFault.{FormFault}
use Rattle.mp_pool.specs.Terms.{SerialsDecrease, IsCoefficient, AreTerms}
use Rattle.mp_forms.specs.Forms.{LinearForm, sum_of}
use Rattle.mp_solver.specs.States.{States, form_of}
use Rattle.mp_solver.specs.Reduction.{with_form, with_term_of}

SerialsDecrease-more : (m n : ℕ) (ts : List Term) → m ≤ n → SerialsDecrease m ts → SerialsDecrease n ts
SerialsDecrease-more m n [] le below = tt
SerialsDecrease-more m n (t ∷ ts) le below = (omega (arith, below.0), below.1)

SerialsDecrease-filter : (keep : Term → Bool) (n : ℕ) (ts : List Term) → SerialsDecrease n ts → SerialsDecrease n (filter keep ts)
SerialsDecrease-filter keep n [] below = tt
SerialsDecrease-filter keep n (t ∷ ts) below =
    let rest = SerialsDecrease-filter keep t.serial ts below.1 in
    elim (keep t) as (λ b. SerialsDecrease n (cond b (t ∷ filter keep ts) (filter keep ts))) [
      | true ↦ (below.0, rest)
      | false ↦ SerialsDecrease-more t.serial n (filter keep ts) (omega (arith, below.0)) rest
    ]

pub AreTerms-filter : (keep : Term → Bool) (ts : List Term) → AreTerms ts → AreTerms (filter keep ts)
AreTerms-filter keep ts are = record {
  serials = SerialsDecrease-filter keep (2 ^ 32) ts are.serials;
  coefficients = All-filter keep (λ t. IsCoefficient t.coefficient) ts are.coefficients;
}

module _ (states : States) (start : Result LinearForm FormFault) (ts : List Term) (i : ℕ) (sum : LinearForm) (so_far : fold (with_term_of states) start (take i ts) ≡ Ok sum) (d : Term) (within : i < length ts) where
  -- the next term's unknown is independent
  pub fold-independent : None ≡ form_of states (get_or ts i d).serial → fold (with_term_of states) start (take (i + 1) ts) ≡ Ok sum
  fold-independent independent =
      fold_more (with_term_of states) start ts i d within
      ∙ ap (λ s. with_term_of states s (get_or ts i d)) so_far
      ∙ ap (with_form sum (get_or ts i d).coefficient) (sym independent)

  -- or equals a form
  pub fold-dependent : (form : LinearForm) (next : Result LinearForm FormFault) → Some form ≡ form_of states (get_or ts i d).serial → next ≡ sum_of (get_or ts i d).coefficient sum form → fold (with_term_of states) start (take (i + 1) ts) ≡ next
  fold-dependent form next dependent sum_is =
      fold_more (with_term_of states) start ts i d within
      ∙ ap (λ s. with_term_of states s (get_or ts i d)) so_far
      ∙ ap (with_form sum (get_or ts i d).coefficient) (sym dependent)
      ∙ sym sum_is

fold-refused : (states : States) (ts : List Term) (fault : FormFault) → fold (with_term_of states) (Err fault) ts ≡ Err fault
fold-refused states [] fault = refl
fold-refused states (t ∷ ts) fault = fold-refused states ts fault

-- the first refusal decides
pub fold-refused_at : (states : States) (start : Result LinearForm FormFault) (ts : List Term) (i : ℕ) (fault : FormFault) →
    fold (with_term_of states) start (take i ts) ≡ Err fault → fold (with_term_of states) start ts ≡ Err fault
fold-refused_at states start ts i fault refused =
    ap (fold (with_term_of states) start) (sym (take-append-drop i ts))
    ∙ fold-append (with_term_of states) start (take i ts) (drop i ts)
    ∙ ap (λ s. fold (with_term_of states) s (drop i ts)) refused
    ∙ fold-refused states (drop i ts) fault
