-- A definition is read by the items that are left, one after the other.
use Rattle.std.proofs.Common.{◌≡◌, ◌≢◌, List, [], ◌∷◌, Option, Some, None, Result, Ok, Err, true, false, Bool, refl, sym, ap, subst, ◌∙◌}
use Rattle.std.specs.Prelude.{nat_lt, if◌then◌else◌}
use Rattle.mp_report.specs.declared.error.SourceError.TheVariants as error
use Rattle.mp_values.specs.Outcome.{then, ◌>>=◌, OutcomeBy, Cause, Refused, OutOfSteps, stop_of, cause_of, error_of}
use Rattle.mp_values.specs.Outcome as act
use Rattle.mp_values.specs.declared.fault.Fault.{Fault}
use Rattle.mp_values.specs.declared.fault.Fault.TheVariants as fault
use Rattle.mp_values.specs.declared.stop.Stop.TheVariants as stop
use Rattle.mp_values.specs.declared.turn.Pending.{Pending}
use Rattle.mp_values.specs.declared.word.Definition.{Definition}
use Rattle.mp_values.specs.declared.word.Definition.TheVariants as definition
use Rattle.mp_macro.specs.Headings.{Reading}
use Rattle.mp_macro.specs.Definitions.{start, is_whole}
use Rattle.mp_acts.specs.Definitions.{group_symbols}
use Rattle.mp_rules.specs.Machine.{Machine, Outcome, Rule}
use Rattle.mp_expand.specs.Expansion.{Expansion}
use Rattle.mp_expand.specs.Steps.{take_first, take_from}
use Rattle.mp_rules.specs.Steps.{in_text, expanding, see}
use Rattle.mp_rules.specs.Definitions.{read_in, pending_read, taken_read, unless_whole, read_on, definition_read}
use Rattle.mp_expand.specs.declared.front.Front.TheVariants as front

-- what is left when the first of a text was taken
ok_is : {A C : Type 0} {x y : A} → ◌≡◌ {A = Result A C} (Ok x) (Ok y) → x ≡ y
ok_is e = cc

err_is_not : {A C : Type 0} {x : A} {c : C} → ◌≡◌ {A = Result A C} (Err c) (Ok x) → ⊥
err_is_not e = cc

some_is : {A : Type 0} {x y : A} → Some x ≡ Some y → x ≡ y
some_is e = cc

none_is_not : {A : Type 0} {x : A} → None ≡ Some x → ⊥
none_is_not e = cc

rest_by : (b : Bool) (x y : Pending) (s t u : Expansion)
    → ◌≡◌ {A = OutcomeBy Cause Expansion (Option Pending)} (if b then Ok (Some y, u) else Err (OutOfSteps, s)) (Ok (Some x, t)) → y ∷ u.text ≡ x ∷ t.text
rest_by true x y s t u e =
    let pair = ok_is e in
    ap (λ first. first ∷ u.text) (some_is (ap (λ p. p.0) pair)) ∙ ap (λ (p : Option Pending × Expansion). x ∷ p.1.text) pair
rest_by false x y s t u e = absurd (err_is_not e)

rest_from : (text : List Pending) (x : Pending) (s t : Expansion) → take_from text s ≡ Ok (Some x, t) → text ≡ x ∷ t.text
rest_from [] x s t e = absurd (none_is_not (ap (λ p. p.0) (ok_is e)))
rest_from (y ∷ rest) x s t e = rest_by (nat_lt s.steps s.budget) x y s t _ e

abbrev in_expander : {A : Type 0} → A × Machine → OutcomeBy Cause Expansion A
in_expander p = Ok (p.0, p.1.expander)

of_text : {A : Type 0} (o : OutcomeBy Cause Expansion A) (x : A) (s t : Machine) → in_text s o ≡ Ok (x, t) → o ≡ Ok (x, t.expander)
of_text {A = A} (Ok y) x s t e = ap (λ (p : A × Machine). in_expander p) (ok_is e)
of_text (Err y) x s t e = absurd (err_is_not e)

rest_is : (x : Pending) (s t : Machine) → expanding take_first s ≡ Ok (Some x, t) → s.expander.text ≡ x ∷ t.expander.text
unfolding take_first
rest_is x s t e = rest_from s.expander.text x s.expander t.expander (of_text (take_from s.expander.text s.expander) (Some x) s t e)

-- what is done with what was taken, by what is left behind it
abbrev on : List Pending → Reading → Option Pending → Rule Reading
on text r x = taken_read r x >>= (λ now. unless_whole (is_whole now) now (read_on text now))

-- a definition that is not whole is read on
goes_on : (b : Bool) (r : Reading) (more : Rule Reading) (s : Machine) → b ≡ false → unless_whole b r more s ≡ more s
goes_on b r more s e = ap (λ (b : Bool). unless_whole b r more s) e

module _ (s t : Machine) (r : Reading) where
  read_next : (now : Reading) (x : Pending) → expanding take_first s ≡ Ok (Some x, t) → pending_read x r t ≡ Ok (now, t)
      → read_on s.expander.text r s ≡ unless_whole (is_whole now) now (read_on t.expander.text now) t
  unfolding read_on
  read_next now x e f =
      let left : s.expander.text ≡ x ∷ t.expander.text = rest_is x s t e in
      subst (λ (text : List Pending). read_on text r s ≡ unless_whole (is_whole now) now (read_on t.expander.text now) t) (sym left)
      (ap (λ (o : Outcome (Option Pending)). (then) o (on t.expander.text r)) e ∙ ap (λ (o : Outcome Reading). (then) o (λ now. unless_whole (is_whole now) now (read_on t.expander.text now))) f)

  take_stops_on : (text : List Pending) (c : Cause) → expanding take_first s ≡ Err (c, t) → read_on text r s ≡ Err (c, t)
  unfolding read_on
  take_stops_on [] c e = ap (λ (o : Outcome (Option Pending)). (then) o (taken_read r)) e
  take_stops_on (x ∷ text) c e = ap (λ (o : Outcome (Option Pending)). (then) o (on text r)) e

  pub read_step : (now : Reading) (x : Pending) → is_whole r ≡ false → expanding take_first s ≡ Ok (Some x, t) → pending_read x r t ≡ Ok (now, t)
      → unless_whole (is_whole r) r (read_on s.expander.text r) s ≡ unless_whole (is_whole now) now (read_on t.expander.text now) t
  read_step now x more e f = goes_on (is_whole r) r (read_on s.expander.text r) s more ∙ read_next now x e f

  pub take_stops : (c : Cause) → is_whole r ≡ false → expanding take_first s ≡ Err (c, t) → unless_whole (is_whole r) r (read_on s.expander.text r) s ≡ Err (c, t)
  take_stops c more e = goes_on (is_whole r) r (read_on s.expander.text r) s more ∙ take_stops_on s.expander.text c e

  read_stops_on : (text : List Pending) (x : Option Pending) (c : Cause) → expanding take_first s ≡ Ok (x, t) → taken_read r x t ≡ Err (c, t) → read_on text r s ≡ Err (c, t)
  unfolding read_on
  read_stops_on [] x c e f = ap (λ (o : Outcome (Option Pending)). (then) o (taken_read r)) e ∙ f
  read_stops_on (y ∷ text) x c e f =
      ap (λ (o : Outcome (Option Pending)). (then) o (on text r)) e ∙ ap (λ (o : Outcome Reading). (then) o (λ now. unless_whole (is_whole now) now (read_on text now))) f

  pub read_stops : (x : Pending) (c : Cause) → is_whole r ≡ false → expanding take_first s ≡ Ok (Some x, t) → pending_read x r t ≡ Err (c, t)
      → unless_whole (is_whole r) r (read_on s.expander.text r) s ≡ Err (c, t)
  read_stops x c more e f = goes_on (is_whole r) r (read_on s.expander.text r) s more ∙ read_stops_on s.expander.text (Some x) c e f

  pub text_ends : is_whole r ≡ false → expanding take_first s ≡ Ok (None, t) → unless_whole (is_whole r) r (read_on s.expander.text r) s ≡ Err (Refused error.FileEndedInText, t)
  text_ends more e = goes_on (is_whole r) r (read_on s.expander.text r) s more ∙ read_stops_on s.expander.text None (Refused error.FileEndedInText) e refl

-- no definition is whole before its first item
pub read_begun : (w : Definition) (s : Machine)
    → definition_read (start w group_symbols) s
    ≡ unless_whole (is_whole (start w group_symbols)) (start w group_symbols) (read_on s.expander.text (start w group_symbols)) (see front.EndOfText s)
read_begun definition.Def s = refl
read_begun definition.Vardef s = refl
read_begun definition.Primarydef s = refl
read_begun definition.Secondarydef s = refl
read_begun definition.Tertiarydef s = refl

-- a fault of the reader stops the run
pub read_fault_stops : (s : Machine) (o : act.Outcome Reading (Unit {0})) (made : Fault) (after : Reading)
    → (made ≢ fault.NoMemory → o ≡ Err (error_of made, after)) → stop_of made ≢ stop.NoMemory → read_in s o ≡ Err (cause_of (stop_of made), s)
read_fault_stops s o (fault.Refused error) after is other = ap (read_in s) (is (λ e. cc))
read_fault_stops s o fault.NoMemory after is other = absurd (other refl)
