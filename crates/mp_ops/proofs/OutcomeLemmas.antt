-- On outcomes: what an operator gives, where its operands were had.
use Rattle.std.proofs.Common.{◌≡◌, Result, Ok, Err, ap}
use Rattle.mp_forms.specs.Forms.{LinearForm}
use Rattle.mp_report.specs.declared.error.SourceError.{SourceError}
use Rattle.mp_values.specs.Outcome.{Outcome, then, lift}
use Rattle.mp_ops.specs.Operands.{number_or_error}
use Rattle.mp_ops.specs.Store.{Store}

pub joined_gives : {A B V : Type 0} (o : Outcome Store (A × B)) (x : A × B) (s : Store) (f : A → B → Result V SourceError) → o ≡ Ok (x, s)
    → then o (λ y. lift (f y.0 y.1)) ≡ lift (f x.0 x.1) s
joined_gives o x s f is = ap (λ o. then o (λ y. lift (f y.0 y.1))) is

-- a form that is refused makes no number
pub number_refused : (r : Result LinearForm SourceError) (e : SourceError) (s : Store) → lift r s ≡ Err (e, s) → lift (number_or_error r) s ≡ Err (e, s)
number_refused (Ok p) e s is = cc
number_refused (Err f) e s is = cc
