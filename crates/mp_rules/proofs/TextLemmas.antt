-- On the text within a run: how far the expander goes.
use Rattle.std.proofs.Common.{◌≡◌, ◌≢◌, ◌≤◌, ◌+◌, ◌-◌, ℕ, List, Option, Result, Ok, Err, refl, ap, subst, arith}
use Rattle.std.specs.Prelude.{⊤, IfOk}
use Rattle.mp_values.specs.Outcome.{OutcomeBy, Yields, Cause, Refused, OutOfSteps, Unread}
use Rattle.mp_values.specs.declared.item.Item.{Item}
use Rattle.mp_values.specs.declared.macros.Macro.{Macro}
use Rattle.mp_values.specs.declared.stop.Stop.{Stop}
use Rattle.mp_values.specs.declared.turn.Pending.{Pending}
use Rattle.mp_acts.specs.Counts.{Counts, nothing, IsWithin}
use Rattle.mp_expand.specs.Expansion.{Expansion}
use Rattle.mp_expand.specs.Steps.{take_first, enter}
use Rattle.mp_expand.specs.Calls.{call}
use Rattle.mp_expand.specs.Advance.{advance, answered}
use Rattle.mp_expand.specs.Laws.{cost, cost_of_first, Pays, IsFree, IsRefused, GoesOn, MayFollow}
use Rattle.mp_expand.specs.Laws.{IsSpent as IsSpentText}
use Rattle.mp_expand.specs.declared.front.Front.{Front}
use Rattle.mp_expand.specs.declared.front.Front.TheVariants as front
use Rattle.mp_expand.specs.declared.step.Answer.{Answer}
use Rattle.mp_expand.specs.declared.step.Step.{Step}
use Rattle.mp_expand.specs.declared.step.Step.TheVariants as step
use Rattle.mp_expand.proofs.CountLemmas.{counted}
use Rattle.mp_rules.specs.Machine.{Machine, weight, coming, left, things}
use Rattle.mp_rules.specs.Promises.{used_by_step, Took, Advances, Answers, Calls, Acts}
use Rattle.mp_rules.specs.Reach.{reach_of_first, reach_of_step}
use Rattle.mp_rules.specs.Rules.{advancing}
use Rattle.mp_rules.specs.Steps.{in_text, expanding, answering}
use Rattle.mp_rules.proofs.Agreement.{IsSpent, After, Agree, AsMany}

-- THE EXPANDER

-- at its end
abbrev AfterText : {A : Type 0} → OutcomeBy Cause Expansion A → (A → Expansion → Type 0) → Type 0
AfterText (Ok x) P = P x.0 x.1
AfterText (Err e) P = IsSpentText e.0 e.1

-- so many steps are left, but for those that were taken
record FewerSteps (taken : ℕ) (s t : Expansion) : Type 0 where
  went : (t.budget - t.steps) + taken ≤ s.budget - s.steps

record AsManySteps (s t : Expansion) : Type 0 where
  steps : t.steps ≡ s.steps
  budget : t.budget ≡ s.budget

paid : {A : Type 0} (price : A → ℕ) (s : Expansion) (o : OutcomeBy Cause Expansion A) → Pays price s o → AfterText o (λ x. FewerSteps (price x) s)
paid price s (Ok x) p = record { went = p.1 }
paid price s (Err e) p = p.2

refused_spent : (c : Cause) (t : Expansion) → IsRefused c → IsSpentText c t
refused_spent (Refused error) t p = tt
refused_spent OutOfSteps t p = absurd p
refused_spent (Unread name) t p = absurd p

-- no steps were taken, and the answer is as Q says
record Freely {A : Type 0} (Q : A → Type 0) (s : Expansion) (x : A) (t : Expansion) : Type 0 where
  same : AsManySteps s t
  such : Q x

freed : {A : Type 0} (Q : A → Type 0) (s : Expansion) (o : OutcomeBy Cause Expansion A) → IsFree Q s o → AfterText o (Freely Q s)
freed Q s (Ok x) p = record { same = record { steps = p.1; budget = p.0 }; such = p.2 }
freed Q s (Err e) p = refused_spent e.0 e.1 p.2

-- a call that asks for more used a front
weight_used : (x : Front) → (x ≢ front.EndOfText) → 1 ≤ weight x
weight_used (front.Number n) p = omega arith
weight_used front.Text p = omega arith
weight_used front.Capsule p = omega arith
weight_used (front.Word symbol w) p = omega arith
weight_used (front.Tag symbol) p = omega arith
weight_used (front.Internal symbol k) p = omega arith
weight_used (front.Operator symbol) p = omega arith
weight_used (front.Left symbol pair) p = omega arith
weight_used (front.Right symbol pair) p = omega arith
weight_used front.EndOfText p = absurd (p refl)

may_use : (x : Front) (a : Step) → MayFollow x a → used_by_step a ≤ weight x
may_use x (step.Want w) p = weight_used x p
may_use x step.More p = omega arith
may_use x (step.Front y) p = omega arith
may_use x (step.Text bytes) p = omega arith
may_use x (step.Capsule v) p = omega arith

-- WITHIN A RUN

spent_in_text : (c : Cause) (s : Machine) (t : Expansion) → IsSpentText c t → IsSpent c (record s { expander = t })
spent_in_text (Refused error) s t p = tt
spent_in_text OutOfSteps s t p = p
spent_in_text (Unread name) s t p = p

after_text : {A : Type 0} (o : OutcomeBy Cause Expansion A) (s : Machine) (P : A → Expansion → Type 0) (Q : A → Machine → Type 0) → AfterText o P
    → ((x : A) (t : Expansion) → P x t → Q x (record s { expander = t })) → After (in_text s o) Q
after_text (Ok x) s P Q p f = f x.0 x.1 p
after_text (Err e) s P Q p f = spent_in_text e.0 s e.1 p

-- the first of the text was taken
pub record TookOne (x : Option Pending) (s t : Machine) : Type 0 where
  pub went : coming t + cost_of_first x ≤ coming s
  pub hand : t.front ≡ s.front

pub took : (s : Machine) → Agree (expanding take_first s) (expanding take_first s) (λ x. TookOne x s)
took s = record {
  same = refl;
  went = after_text (take_first s.expander) s _ (λ x. TookOne x s) (paid cost_of_first s.expander (take_first s.expander) (counted.taken s.expander)) (λ x t p. record { went = omega (arith, p.went); hand = refl });
}

-- one more item was taken
pub record Stepped (x : Step) (s t : Machine) : Type 0 where
  pub went : coming t + cost x ≤ coming s
  pub hand : t.front ≡ s.front

pub advanced : (s : Machine) → Agree (advancing s) (advancing s) (λ x. Stepped x s)
advanced s = record {
  same = refl;
  went = after_text (advance s.acts.symbols.names s.expander) s _ (λ x. Stepped x s) (paid cost s.expander (advance s.acts.symbols.names s.expander) (counted.advanced s.acts.symbols.names s.expander))
      (λ x t p. record { went = omega (arith, p.went); hand = refl });
}

-- a call was answered, with the front in hand
pub record UsedBy (x : Step) (s t : Machine) : Type 0 where
  pub went : left t + used_by_step x ≤ left s

pub answers : (a : Answer) (s : Machine) → Agree (answering a s) (answering a s) (λ x. UsedBy x s)
answers a s = record {
  same = refl;
  went = after_text (answered s.acts.symbols.names a s.front s.expander) (record s { front = front.EndOfText }) _ (λ x. UsedBy x s)
      (freed (MayFollow s.front) s.expander (answered s.acts.symbols.names a s.front s.expander) (counted.answered s.acts.symbols.names a s.front s.expander))
      (λ x t p. record { went = omega (arith, p.same.steps, p.same.budget, may_use s.front x p.such) });
}

as_many : (s : Machine) (t : Expansion) → AsManySteps s.expander t → AsMany s (record s { expander = t })
as_many s t p = record { went = rw (p.steps, p.budget) refl; hand = refl }

pub calls : (m : Macro) (got : List (List Item)) (s : Machine) → Agree (expanding (call m got) s) (expanding (call m got) s) (λ x. AsMany s)
calls m got s = record {
  same = refl;
  went = after_text (call m got s.expander) s _ (λ x. AsMany s) (freed GoesOn s.expander (call m got s.expander) (counted.called m got s.expander)) (λ x t p. as_many s t p.same);
}

pub entered : (s : Machine) → Agree (expanding enter s) (expanding enter s) (λ x. AsMany s)
entered s = record {
  same = refl;
  went = after_text (enter s.expander) s _ (λ x. AsMany s) (freed (λ entered. ⊤) s.expander (enter s.expander) (counted.entered s.expander)) (λ x t p. as_many s t p.same);
}

-- WHAT A FUNCTION LEAVES

in_text_yields : {A : Type 0} (s : Machine) (result : Result A Stop) (t : Expansion) (o : OutcomeBy Cause Expansion A) → Yields result t o
    → Yields result (record s { expander = t }) (in_text s o)
in_text_yields s (Ok x) t o gives = ap (in_text s) gives
in_text_yields s (Err made) t o gives = λ other. ap (in_text s) (gives other)

within_itself : (n : Counts) → IsWithin n n
within_itself n = record { unknowns = omega arith; slots = omega arith; symbols = omega arith; internals = omega arith }

paid_by : {A : Type 0} (price : A → ℕ) (result : Result A Stop) (s t : Expansion) (o : OutcomeBy Cause Expansion A) → Yields result t o → Pays price s o
    → IfOk result (λ x. (t.budget - t.steps) + price x ≤ s.budget - s.steps)
paid_by {A = A} price (Ok x) s t o gives p =
    let after : Pays price s (Ok (x, t)) = subst (λ (o : OutcomeBy Cause Expansion A). Pays price s o) gives p in
    after.1
paid_by price (Err made) s t o gives p = tt

took_left : {A : Type 0} (price : A → ℕ) (result : Result A Stop) (s : Machine) (t : Expansion) → IfOk result (λ x. (t.budget - t.steps) + price x ≤ s.expander.budget - s.expander.steps)
    → IfOk result (λ x. left (record s { expander = t }) + price x ≤ left s)
took_left price (Ok x) s t p = omega (arith, p)
took_left price (Err made) s t p = tt

-- one item taken as it stands
pub takes : (s : Machine) (t : Expansion) (result : Result (Option Pending) Stop) → Yields result t (take_first s.expander) → t.budget ≡ s.expander.budget
    → IfOk result (λ x. IsWithin (reach_of_first x) (things s)) → Took result s (record s { expander = t })
takes s t result gives kept given = record {
  meaning = in_text_yields s result t (take_first s.expander) gives;
  went = took_left cost_of_first result s t (paid_by cost_of_first result s.expander t (take_first s.expander) gives (counted.taken s.expander));
  kept = kept;
  files = refl;
  grown = within_itself (things s);
  within = given;
}

-- one more item
pub advances : (s : Machine) (t : Expansion) (result : Result Step Stop) → Yields result t (advance s.acts.symbols.names s.expander) → t.budget ≡ s.expander.budget
    → IfOk result (λ x. IsWithin (reach_of_step x) (things s)) → Advances result s (record s { expander = t })
advances s t result gives kept given = record {
  meaning = in_text_yields s result t (advance s.acts.symbols.names s.expander) gives;
  went = took_left cost result s t (paid_by cost result s.expander t (advance s.acts.symbols.names s.expander) gives (counted.advanced s.acts.symbols.names s.expander));
  kept = kept;
  files = refl;
  grown = within_itself (things s);
  within = given;
}

free_by : {A : Type 0} (Q : A → Type 0) (result : Result A Stop) (s t : Expansion) (o : OutcomeBy Cause Expansion A) → Yields result t o → IsFree Q s o
    → IfOk result (λ x. (t.budget ≡ s.budget) × (t.steps ≡ s.steps) × Q x)
free_by {A = A} Q (Ok x) s t o gives p =
    let after : IsFree Q s (Ok (x, t)) = subst (λ (o : OutcomeBy Cause Expansion A). IsFree Q s o) gives p in
    after
free_by Q (Err made) s t o gives p = tt

answered_left : (result : Result Step Stop) (s : Machine) (t : Expansion)
    → IfOk result (λ x. (t.budget ≡ s.expander.budget) × (t.steps ≡ s.expander.steps) × MayFollow s.front x)
    → IfOk result (λ x. left (record s { front = front.EndOfText; expander = t }) + used_by_step x ≤ left s)
answered_left (Ok x) s t p = omega (arith, p.0, p.1, may_use s.front x p.2)
answered_left (Err made) s t p = tt

-- an answer to a call
pub answers_call : (a : Answer) (s : Machine) (t : Expansion) (result : Result Step Stop) → Yields result t (answered s.acts.symbols.names a s.front s.expander)
    → t.budget ≡ s.expander.budget → IfOk result (λ x. IsWithin (reach_of_step x) (things s))
    → Answers a result s (record s { front = front.EndOfText; expander = t })
answers_call a s t result gives kept given = record {
  meaning = in_text_yields (record s { front = front.EndOfText }) result t (answered s.acts.symbols.names a s.front s.expander) gives;
  went = answered_left result s t (free_by (MayFollow s.front) result s.expander t (answered s.acts.symbols.names a s.front s.expander) gives (counted.answered s.acts.symbols.names a s.front s.expander));
  kept = kept;
  files = refl;
  grown = within_itself (things s);
  within = given;
}

free_left : {A : Type 0} (Q : A → Type 0) (result : Result A Stop) (s : Machine) (t : Expansion)
    → IfOk result (λ x. (t.budget ≡ s.expander.budget) × (t.steps ≡ s.expander.steps) × Q x) → IfOk result (λ x. left (record s { expander = t }) + 0 ≤ left s)
free_left Q (Ok x) s t p = omega (arith, p.0, p.1)
free_left Q (Err made) s t p = tt

nothing_given : (n : Counts) (result : Result (Unit {0}) Stop) → IfOk result (λ x. IsWithin nothing n)
nothing_given n (Ok x) = record { unknowns = omega arith; slots = omega arith; symbols = omega arith; internals = omega arith }
nothing_given n (Err made) = tt

-- a call of a macro
pub calls_macro : (m : Macro) (got : List (List Item)) (s : Machine) (t : Expansion) (result : Result Step Stop) → Yields result t (call m got s.expander)
    → t.budget ≡ s.expander.budget → IfOk result (λ x. IsWithin (reach_of_step x) (things s)) → Calls m got result s (record s { expander = t })
calls_macro m got s t result gives kept given = record {
  meaning = in_text_yields s result t (call m got s.expander) gives;
  went = free_left GoesOn result s t (free_by GoesOn result s.expander t (call m got s.expander) gives (counted.called m got s.expander));
  kept = kept;
  files = refl;
  grown = within_itself (things s);
  within = given;
}

-- one more primary
pub enters : (s : Machine) (t : Expansion) (result : Result (Unit {0}) Stop) → Yields result t (enter s.expander) → t.budget ≡ s.expander.budget
    → Acts (expanding enter) result s (record s { expander = t })
enters s t result gives kept = record {
  meaning = in_text_yields s result t (enter s.expander) gives;
  went = free_left (λ entered. ⊤) result s t (free_by (λ entered. ⊤) result s.expander t (enter s.expander) gives (counted.entered s.expander));
  kept = kept;
  files = refl;
  grown = within_itself (things s);
  within = nothing_given (things s) result;
}
