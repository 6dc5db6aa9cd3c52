-- On stops: a run that is out of steps has used up its budget, and none lacks a source.
use Rattle.std.proofs.Common.{◌≡◌, ◌≤◌, ℕ, List, arith, subst, Result, Ok, Err}
use Rattle.mp_values.specs.Outcome.{OutOfSteps, Unread, Yields, then}
use Rattle.mp_values.specs.declared.stop.Stop.{Stop}
use Rattle.mp_values.specs.declared.stop.Stop.TheVariants as stop
use Rattle.mp_rules.specs.Machine.{Machine, Outcome, Rule}
use Rattle.mp_rules.specs.Meaning.{the}
use Rattle.mp_rules.specs.Rules.{NextFront, Statements}
use Rattle.mp_rules.specs.Starts.{whole}
use Rattle.mp_rules.proofs.Agreement.{After, IsSpent}
use Rattle.mp_rules.proofs.Enough.{the_went}

abbrev IsSpentStop : {A : Type 0} → Outcome A → Type 0
IsSpentStop (Ok x) = Unit {0}
IsSpentStop (Err e) = IsSpent e.0 e.1

spent_after : {A : Type 0} (o : Outcome A) (P : A → Machine → Type 0) → After o P → IsSpentStop o
spent_after (Ok x) P went = tt
spent_after (Err e) P went = went

spent_then : {A B : Type 0} (o : Outcome A) (f : A → Rule B) → IsSpentStop o → ((x : A) (t : Machine) → IsSpentStop (f x t)) → IsSpentStop (then o f)
spent_then (Ok x) f first more = more x.0 x.1
spent_then (Err e) f first more = first

spent_whole : (s : Machine) → IsSpentStop (whole the s)
spent_whole s = spent_then (the NextFront s) (λ first. the Statements) (spent_after (the NextFront s) _ (the_went NextFront s)) (λ first t. spent_after (the Statements t) _ (the_went Statements t))

-- a function that reads the whole: where it is out of steps, and whether it lacks a file
pub run_spent : (s t : Machine) (result : Result (Unit {0}) Stop) → Yields result t (whole the s) → t.expander.steps ≤ t.expander.budget → result ≡ Err stop.OutOfSteps
    → t.expander.steps ≡ t.expander.budget
run_spent s t result gives within is =
    let stops : whole the s ≡ Err (OutOfSteps, t) = subst (λ (r : Result (Unit {0}) Stop). Yields r t (whole the s)) is gives (λ e. cc) in
    let spent : t.expander.budget ≤ t.expander.steps = subst (λ (o : Outcome (Unit {0})). IsSpentStop o) stops (spent_whole s) in
    omega arith

pub run_read : (s t : Machine) (result : Result (Unit {0}) Stop) → Yields result t (whole the s) → (name : List ℕ) → result ≡ Err (stop.Unread name) → ⊥
run_read s t result gives name is =
    let stops : whole the s ≡ Err (Unread name, t) = subst (λ (r : Result (Unit {0}) Stop). Yields r t (whole the s)) is gives (λ e. cc) in
    subst (λ (o : Outcome (Unit {0})). IsSpentStop o) stops (spent_whole s)
