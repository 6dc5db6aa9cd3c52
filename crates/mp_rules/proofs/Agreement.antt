-- On outcomes: when two of them are one, and how far they went.
use Rattle.std.proofs.Common.{◌≡◌, ◌≤◌, refl, subst, Ok, Err}
use Rattle.mp_values.specs.Outcome.{then, Cause, Refused, OutOfSteps, Unread}
use Rattle.mp_values.specs.Outcome as act
use Rattle.mp_acts.specs.State.{State}
use Rattle.mp_rules.specs.Machine.{Machine, Outcome, Rule, weight, left}
use Rattle.mp_rules.specs.Steps.{in_machine}

-- a run that is out of steps has used up its budget, and no rule asks for a file yet
abbrev pub IsSpent : Cause → Machine → Type 0
IsSpent (Refused error) t = Unit {0}
IsSpent OutOfSteps t = t.expander.budget ≤ t.expander.steps
IsSpent (Unread name) t = ⊥

-- at its end an outcome's answer and machine are such
abbrev pub After : {A : Type 0} → Outcome A → (A → Machine → Type 0) → Type 0
After (Ok x) P = P x.0 x.1
After (Err e) P = IsSpent e.0 e.1

-- two outcomes are one, and at its end the answer and the machine are such
pub record Agree {A : Type 0} (o p : Outcome A) (P : A → Machine → Type 0) : Type 0 where
  pub same : o ≡ p
  pub went : After o P

-- one after another
pub agree-then : {A B : Type 0} {o p : Outcome A} {P : A → Machine → Type 0} {Q : B → Machine → Type 0} {f g : A → Rule B} → Agree o p P
    → ((x : A) (t : Machine) → P x t → Agree (f x t) (g x t) Q) → Agree (then o f) (then p g) Q
agree-then {A = A} {B = B} {o = Ok x} {p = p} {P = P} {Q = Q} {f = f} {g = g} a k =
    let F : Outcome A → Type 0 = λ q. Agree (f x.0 x.1) (then q g) Q in
    subst F a.same (k x.0 x.1 a.went)
agree-then {A = A} {B = B} {o = Err e} {p = p} {P = P} {Q = Q} {f = f} {g = g} a k =
    let F : Outcome A → Type 0 = λ q. Agree (Err e) (then q g) Q in
    subst F a.same (record { same = refl; went = a.went })

pub weaker : {A : Type 0} {o p : Outcome A} {P Q : A → Machine → Type 0} → Agree o p P → ((x : A) (t : Machine) → P x t → Q x t) → Agree o p Q
weaker {o = Ok x} a k = record { same = a.same; went = k x.0 x.1 a.went }
weaker {o = Err e} a k = record { same = a.same; went = a.went }

pub stopped : {A : Type 0} (cause : Cause) (s : Machine) (P : A → Machine → Type 0) → IsSpent cause s → Agree {A = A} (Err (cause, s)) (Err (cause, s)) P
stopped cause s P spent = record { same = refl; went = spent }

pub given : {A : Type 0} (x : A) (s : Machine) (P : A → Machine → Type 0) → P x s → Agree (Ok (x, s)) (Ok (x, s)) P
given x s P here = record { same = refl; went = here }

-- so many fronts may be used as before, and the one in hand too
pub record AsMany (s t : Machine) : Type 0 where
  pub went : left t ≡ left s
  pub hand : weight t.front ≡ weight s.front

-- an act gets no front, and stops by an error of the source alone
pub acted : {A : Type 0} (o : act.Outcome State A) (s : Machine) → Agree (in_machine s o) (in_machine s o) (λ answer. AsMany s)
acted (Ok x) s = record { same = refl; went = record { went = refl; hand = refl } }
acted (Err x) s = record { same = refl; went = tt }
