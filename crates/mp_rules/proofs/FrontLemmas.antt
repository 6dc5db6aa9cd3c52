-- On the next front: what goes on where nothing came of an item, or a call was answered.
use Rattle.std.proofs.Common.{◌≡◌, ap, ◌∙◌, Option, None, Ok}
use Rattle.mp_values.specs.Outcome.{then}
use Rattle.mp_expand.specs.declared.front.Front.{Front}
use Rattle.mp_expand.specs.declared.step.Step.{Step}
use Rattle.mp_expand.specs.declared.step.Step.TheVariants as step
use Rattle.mp_expand.specs.declared.step.Want.{Want}
use Rattle.mp_rules.specs.Machine.{Machine, Outcome}
use Rattle.mp_rules.specs.Meaning.{the}
use Rattle.mp_rules.specs.Rules.{NextFront, Asked, advancing, step_by, held_or_taken}
use Rattle.mp_rules.proofs.Cases.{next_front_is}

taken_is : (s : Machine) → s.held ≡ None → the NextFront s ≡ (then) (advancing s) (step_by the)
taken_is s free = next_front_is s ∙ ap (λ (held : Option Front). held_or_taken the held s) free

pub next_more : (s t : Machine) → s.held ≡ None → advancing s ≡ Ok (step.More, t) → the NextFront s ≡ the NextFront t
next_more s t free e = taken_is s free ∙ ap (λ (o : Outcome Step). (then) o (step_by the)) e

pub next_wanted : (s t u : Machine) (w : Want) → s.held ≡ None → advancing s ≡ Ok (step.Want w, t) → the (Asked w) t ≡ Ok (tt, u) → the NextFront s ≡ the NextFront u
next_wanted s t u w free e served =
    taken_is s free ∙ ap (λ (o : Outcome Step). (then) o (step_by the)) e ∙ ap (λ (o : Outcome (Unit {0})). (then) o (λ done. the NextFront)) served
