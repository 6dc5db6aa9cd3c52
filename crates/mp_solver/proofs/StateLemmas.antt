-- The forms of systems, and what one more unknown leaves as it is.
use Rattle.std.proofs.Common.{◌≡◌, ℕ, ◌-◌, ◌<◌, ◌≤◌, List, [], ◌∷◌, ◌++◌, Option, Some, None, length, get_or, sym, ap, ◌∙◌, arith}
use Rattle.std.specs.List.{sum_by}
use Rattle.std.proofs.lemmas.List.{append-nil, length-append}
use Rattle.std.proofs.lemmas.List.Elements.{filter_map-append, All-weaker}
use Rattle.std.proofs.Math.ListN.{get_or-append}
use Rattle.mp_forms.specs.Forms.{LinearForm}
use Rattle.mp_solver.specs.States.{States, form_of, with_fresh, IsSerial}
use Rattle.mp_solver.specs.Elimination.{forms_in}
use Rattle.mp_solver.specs.Solved.{IsSolvedForm}
use Rattle.mp_solver.specs.Storage.Counts.{IsSystem}

pub length-forms_in : (states : States) → length (forms_in states) ≤ length states
length-forms_in [] = omega arith
length-forms_in (None ∷ states) = omega (arith, length-forms_in states)
length-forms_in (Some form ∷ states) = omega (arith, length-forms_in states)

pub forms_in-with_fresh : (states : States) → forms_in (with_fresh states) ≡ forms_in states
forms_in-with_fresh states = filter_map-append (λ form. form) states (None ∷ []) ∙ append-nil (forms_in states)

form_of-with_fresh : (states : States) (serial : ℕ) → IsSerial states serial → form_of (with_fresh states) serial ≡ form_of states serial
form_of-with_fresh states serial within = get_or-append states (None ∷ []) None (serial - 1) (omega (arith, within.0, within.1))

pub IsSolvedForm-with_fresh : (states : States) (p : LinearForm) → IsSolvedForm states p → IsSolvedForm (with_fresh states) p
IsSolvedForm-with_fresh states p solved =
    let longer = length-append states (None ∷ []) in
    record {
      terms = solved.terms;
      constant = solved.constant;
      over = λ i d lt. let within = solved.over i d lt in (within.0, omega (arith, within.1, longer));
      reduced = λ i d lt. form_of-with_fresh states (get_or p.terms i d).serial (solved.over i d lt) ∙ solved.reduced i d lt;
    }

pub IsSystem-with_fresh : (states : States) (names : List (Option (List ℕ))) (name : Option (List ℕ)) (dependent terms : ℕ) → length states < 1000000 → IsSystem states names dependent terms → IsSystem (with_fresh states) (names ++ name ∷ []) dependent terms
IsSystem-with_fresh states names name dependent terms room whole =
    let longer = length-append states (None ∷ []) in
    let more_names = length-append names (name ∷ []) in
    record {
      names_length = omega (arith, longer, more_names, whole.names_length);
      states_length = omega (arith, longer, room);
      dependent_count = whole.dependent_count ∙ ap length (sym (forms_in-with_fresh states));
      terms_count = whole.terms_count ∙ ap (sum_by (λ p. length p.terms)) (sym (forms_in-with_fresh states));
      solved = record {
        forms = rw (forms_in-with_fresh states) (All-weaker (IsSolvedForm states) (IsSolvedForm (with_fresh states)) (IsSolvedForm-with_fresh states) (forms_in states) whole.solved.forms);
        few_terms = rw (forms_in-with_fresh states) whole.solved.few_terms;
      };
    }
