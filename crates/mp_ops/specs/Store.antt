-- What operators read beside their operands.
use Rattle.std.specs.Prelude.{ℕ, zero, suc, max, List, [], ◌∷◌, ◌≤◌, All, ⊤, Option, Some, None, length, unwrap_or, slice_get}
use Rattle.mp_pool.specs.declared.Term.{Term}
use Rattle.mp_forms.specs.Forms.{LinearForm}
use Rattle.mp_solver.specs.States.{States}
use Rattle.mp_solver.specs.declared.limits.TheConstants.{UNKNOWN_LIMIT}
use Rattle.mp_values.specs.declared.value.Value.{Value}
use Rattle.mp_values.specs.declared.value.Value.TheVariants.{Numeric, Unset}

pub record Store : Type 0 where
  -- what the equations so far say of the unknowns
  pub unknowns : States
  -- what each slot of a variable that was read without a value was filled with, if it was
  pub slots : List (Option Value)

-- HOW MANY UNKNOWNS AND SLOTS THERE MUST BE SO THAT A VALUE SPEAKS OF NONE BUT THEM

-- serials count from 1: no number of unknowns is enough for 0
abbrev pub reach_of_serial : ℕ → ℕ
reach_of_serial zero = 4294967296
reach_of_serial (suc n) = suc n

unfoldable pub reach_of_terms : List Term → ℕ
reach_of_terms [] = 0
reach_of_terms (t ∷ ts) = max (reach_of_serial t.serial) (reach_of_terms ts)

abbrev pub reach_of_form : LinearForm → ℕ
reach_of_form p = reach_of_terms p.terms

-- what is known of an unknown: nothing, or the form that it equals
abbrev pub reach_of_known : Option LinearForm → ℕ
reach_of_known None = 0
reach_of_known (Some p) = reach_of_form p

abbrev pub unknowns_reached : Value → ℕ
unknowns_reached (Numeric p) = reach_of_form p
unknowns_reached v = 0

-- slots count from 0
abbrev pub slots_reached : Value → ℕ
slots_reached (Unset kind slot) = suc slot
slots_reached v = 0

-- a value speaks of nothing but what the store has
pub record IsIn (v : Value) (s : Store) : Type 0 where
  pub unknowns : unknowns_reached v ≤ length s.unknowns
  pub slots : slots_reached v ≤ length s.slots

abbrev pub IsSlotIn : Option Value → Store → Type 0
IsSlotIn None s = ⊤
IsSlotIn (Some v) s = IsIn v s

-- what the store has speaks of nothing else, and there are no more unknowns than can be made
pub record IsWhole (s : Store) : Type 0 where
  pub few : length s.unknowns ≤ UNKNOWN_LIMIT
  pub forms : All (λ known. reach_of_known known ≤ length s.unknowns) s.unknowns
  pub filled : All (λ slot. IsSlotIn slot s) s.slots

-- SLOTS

-- what a slot was filled with, if it was; a number past the slots is that of an open one
abbrev pub slot_in : List (Option Value) → ℕ → Option Value
slot_in slots slot = unwrap_or (slice_get slots slot) None

-- a value with a slot is what the slot was filled with, as soon as it is
abbrev pub settled : List (Option Value) → Value → Value
settled slots (Unset kind slot) = unwrap_or (slot_in slots slot) (Unset kind slot)
settled slots v = v
