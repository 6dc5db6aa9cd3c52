-- The store of a state, which is lent to operators: what is within the state is in its store, and the other way round.
use Rattle.std.proofs.Common.{◌≡◌, ℕ, ◌≤◌, List, Option, Some, None, Result, Ok, Err, length, refl, subst, sym, ap, arith}
use Rattle.std.specs.List.{All}
use Rattle.std.proofs.lemmas.List.Elements.{All-weaker}
use Rattle.mp_symbols.specs.Tables.{Table}
use Rattle.mp_solver.specs.States.{States}
use Rattle.mp_values.specs.Outcome.{Outcome, Rule, Gives}
use Rattle.mp_values.specs.declared.fault.Fault.{Fault}
use Rattle.mp_values.specs.declared.meaning.Meaning.{Meaning}
use Rattle.mp_values.specs.declared.value.Value.{Value}
use Rattle.mp_ops.specs.Store as store
use Rattle.mp_ops.specs.Store.{Store, IsIn, IsSlotIn}
use Rattle.mp_vartree.specs.Variables.{Variables}
use Rattle.mp_acts.specs.Counts.{IsWithin}
use Rattle.mp_acts.specs.Operators.{store_of, from_store, with_store}
use Rattle.mp_acts.specs.Reach.{reach, reach_of_slot, AreWithin}
use Rattle.mp_acts.specs.State.{State, counts, counts_of}

pub in_store : (v : Value) (s : State) (lent : Store) → lent ≡ store_of s → IsWithin (reach v) (counts s) → IsIn v lent
in_store v s lent e h = rw e (record { unknowns = h.unknowns; slots = h.slots })

pub in_state : (v : Value) (s : State) (lent : Store) → lent ≡ store_of s → IsIn v lent → IsWithin (reach v) (counts s)
in_state v s lent e h =
    let is : IsIn v (store_of s) = rw e at h in
    record { unknowns = is.unknowns; slots = is.slots; symbols = omega arith; internals = omega arith }

slot_is_in : (unknowns : States) (slots : List (Option Value)) (symbols : Table Meaning) (slot : Option Value)
    → IsWithin (reach_of_slot slot) (counts_of unknowns slots symbols) → IsSlotIn slot (record { unknowns = unknowns; slots = slots })
slot_is_in unknowns slots symbols None h = tt
slot_is_in unknowns slots symbols (Some v) h = record { unknowns = h.unknowns; slots = h.slots }

-- what speaks of nothing but what a state has makes a store that is whole
pub whole_store : (unknowns : States) (variables : Variables) (slots : List (Option Value)) (symbols : Table Meaning)
    → AreWithin unknowns variables slots symbols → store.IsWhole (record { unknowns = unknowns; slots = slots })
whole_store unknowns variables slots symbols is = record {
  few = is.few;
  forms = is.forms;
  filled = All-weaker (λ slot. IsWithin (reach_of_slot slot) (counts_of unknowns slots symbols)) (λ slot. IsSlotIn slot (record { unknowns = unknowns; slots = slots }))
      (slot_is_in unknowns slots symbols) slots is.filled;
}

-- what a call answers of the store is what the rule on the state does
pub given : {A : Type 0} (result : Result A Fault) (s : State) (lent : Store) (rule : Rule Store A) → lent ≡ store_of s → Gives result lent (rule lent) → Gives result s (with_store rule s)
given (Ok x) s lent rule e h = let is = rw e at h in ap (λ o. from_store o s) is
given (Err made) s lent rule e h = let is = rw e at h in λ some. ap (λ o. from_store o s) (is some)
