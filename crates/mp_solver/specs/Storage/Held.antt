-- The forms of the dependent unknowns, as the code holds them: the constant of each, and its terms in a list of a pool.
use Rattle.std.specs.Prelude.{◌≡◌, ◌≤◌, ℕ, List, Option, None, Some, map, option_map, slice_index_or, IsSome}
use Rattle.mp_pool.specs.Pool.{Pool, list_in, terms_in, used}
use Rattle.mp_forms.specs.Forms.{LinearForm}
use Rattle.mp_solver.specs.declared.forms.Entry.{Entry}
use Rattle.mp_solver.specs.States.{States}
use Rattle.mp_solver.specs.Elimination.{term_count}

-- the form that an entry stands for
abbrev pub entry_form : Pool → Entry → LinearForm
entry_form pool entry = record { constant = entry.constant; terms = terms_in pool entry.list.slot }

abbrev pub states_of : Pool → List (Option Entry) → States
states_of pool entries = map (option_map (entry_form pool)) entries

-- the states that have the forms, and how many more terms and forms there is room for
pub record Held : Type 0 where
  pub states : States
  pub spare : ℕ
  pub lists : ℕ

-- each form has a list of its own, and no cell is in another list
pub record AreHeld (pool : Pool) (entries : List (Option Entry)) : Type 0 where
  pub there : (k : ℕ) (entry : Entry) → slice_index_or entries k None ≡ Some entry → IsSome (list_in pool entry.list.slot)
  pub apart : (j k : ℕ) (r s : Entry) → slice_index_or entries j None ≡ Some r → slice_index_or entries k None ≡ Some s → r.list.slot ≡ s.list.slot → j ≡ k
  pub used_is : used pool ≡ term_count (states_of pool entries)
  pub within : used pool ≤ pool.size
