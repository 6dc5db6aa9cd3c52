-- A pool: slots, each free or holding a list of terms, and a number of cells, each of which holds one term or is spare.
use Rattle.std.specs.Prelude.{◌≡◌, ℕ, ◌+◌, ◌-◌, ◌≤◌, List, [], Option, Some, None, is_none, sum_by, count_by, length, slice_index_or, slice_set, unwrap_or}
use Rattle.mp_pool.specs.declared.Term.{Term}

pub record Pool : Type 0 where
  pub slots : List (Option (List Term))
  pub size : ℕ

-- what a slot holds: a list, or none where it is free or where there is no such slot
abbrev pub list_in : Pool → ℕ → Option (List Term)
list_in pool slot = slice_index_or pool.slots slot None

-- the terms in a slot
abbrev pub terms_in : Pool → ℕ → List Term
terms_in pool slot = unwrap_or (list_in pool slot) []

-- the pool with another list in that slot
abbrev pub with_list : Pool → ℕ → List Term → Pool
with_list pool slot terms = record pool { slots = slice_set pool.slots slot (Some terms) }

-- the pool with that slot free
abbrev pub without_list : Pool → ℕ → Pool
without_list pool slot = record pool { slots = slice_set pool.slots slot None }

abbrev pub length_in : Option (List Term) → ℕ
length_in None = 0
length_in (Some terms) = length terms

-- the number of terms in all lists
abbrev pub used : Pool → ℕ
used pool = sum_by length_in pool.slots

-- the number of cells that hold no term
abbrev pub spare : Pool → ℕ
spare pool = pool.size - used pool

-- the number of free slots
abbrev pub spare_lists : Pool → ℕ
spare_lists pool = count_by is_none pool.slots

-- more cells, and more slots, which are free
pub record IsGrown (old new : Pool) : Type 0 where
  pub lists : (slot : ℕ) → list_in new slot ≡ list_in old slot
  pub slots : length old.slots ≤ length new.slots
  pub size : old.size ≤ new.size
  pub used : used new ≡ used old
  pub free : spare_lists new + length old.slots ≡ spare_lists old + length new.slots
