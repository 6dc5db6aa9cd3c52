-- On the sides of a chain: the last one gets the value first.
use Rattle.std.proofs.Common.{◌≡◌, ◌≤◌, List, [], ◌∷◌, ◌++◌, reverse, refl, ap, arith, Ok, Err}
use Rattle.std.proofs.lemmas.List.{reverse-append}
use Rattle.mp_values.specs.Outcome.{then}
use Rattle.mp_values.specs.Outcome as act
use Rattle.mp_values.specs.declared.value.Value.{Value}
use Rattle.mp_acts.specs.Counts.{nothing, most, greatest}
use Rattle.mp_acts.specs.State.{State}
use Rattle.mp_rules.specs.Machine.{Machine}
use Rattle.mp_rules.specs.Promises.{used_by_side}
use Rattle.mp_rules.specs.declared.chain_side.ChainSide.TheVariants as side
use Rattle.mp_rules.specs.Chains.{gets, settle, reach_of_side, reach_of_sides}
use Rattle.mp_rules.specs.Steps.{acting, in_machine}
use Rattle.mp_rules.specs.declared.chain_side.ChainSide.{ChainSide as Side}

reverse_last : (xs : List Side) (x : Side) → reverse (xs ++ x ∷ []) ≡ x ∷ reverse xs
reverse_last xs x = reverse-append xs (x ∷ [])

pub reach_last : (xs : List Side) (x : Side) → reach_of_sides (reverse (xs ++ x ∷ [])) ≡ most (reach_of_side x) (reach_of_sides (reverse xs))
unfolding greatest
reach_last xs x = ap reach_of_sides (reverse_last xs x)

again : {A : Type 0} (s : Machine) (a : State) (o : act.Outcome State A) → in_machine s o ≡ in_machine (record s { acts = a }) o
again s a (Ok x) = refl
again s a (Err e) = refl

acting-then : {A B : Type 0} (s : Machine) (o : act.Outcome State A) (f : A → act.Rule State B)
    → in_machine s ((then) o f) ≡ (then) (in_machine s o) (λ x. acting (f x))
acting-then s (Ok x) f = again s x.1 (f x.0 x.1)
acting-then s (Err e) f = refl

settle_step : (xs : List Side) (x : Side) (v : Value) (s : Machine) → acting (settle (x ∷ xs) v) s ≡ (then) (acting (gets x v) s) (λ done. acting (settle xs v))
unfolding settle
settle_step xs x v s = acting-then s (gets x v s.acts) (λ done. settle xs v)

pub settle_last : (xs : List Side) (x : Side) (v : Value) (s : Machine)
    → acting (settle (reverse (xs ++ x ∷ [])) v) s ≡ (then) (acting (gets x v) s) (λ done. acting (settle (reverse xs) v))
settle_last xs x v s = rw reverse_last (settle_step (reverse xs) x v s)

pub settle_none : (v : Value) (s : Machine) → acting (settle (reverse []) v) s ≡ Ok (tt, s)
unfolding settle
settle_none v s = refl

pub reverse_push : (xs : List Side) (x : Side) → reverse (xs ++ x ∷ []) ≡ x ∷ reverse xs
reverse_push xs x = reverse_last xs x

pub reach_none : reach_of_sides (reverse []) ≡ nothing
unfolding greatest
reach_none = refl

-- at most one front is used for certain
pub used_small : (x : Side) → used_by_side x ≤ 1
used_small (side.Target t) = omega arith
used_small (side.Value v) = omega arith
