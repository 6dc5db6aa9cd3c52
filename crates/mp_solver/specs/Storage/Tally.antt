-- How the pivot's new form replaces it, form by form, as the code counts it.
use Rattle.std.specs.Prelude.{◌≡◌, ℕ, ◌+◌, ◌≤◌, Bool, false, ◌||◌, ◌++◌, map, option_map, min, length, take, drop}
use Rattle.std.specs.List.{list_any}
use Rattle.mp_forms.specs.Forms.{LinearForm}
use Rattle.mp_solver.specs.declared.limits.TheConstants.{TERM_LIMIT}
use Rattle.mp_solver.specs.States.{States}
use Rattle.mp_solver.specs.Elimination.{replaced, forms_in, has_large_coefficient, has_large_constant, term_count}

-- how many terms there are, where the first so many forms are new: those of the forms that are unchanged, and those of
-- the new ones, which are counted to the limit alone
pub record IsCount (new : LinearForm) (unchanged added total : ℕ) : Type 0 where
  pub changed : ℕ
  pub added_is : added ≡ min (length new.terms + changed) (TERM_LIMIT + 1)
  pub total_is : unchanged + changed ≡ total

-- how far the replacement has come: to the form at i, with an overflow or none, and so many terms
pub record IsTally (states : States) (serial : ℕ) (new : LinearForm) (i : ℕ) (overflows : Bool) (unchanged added : ℕ) : Type 0 where
  pub small : list_any has_large_coefficient (forms_in (take i (map (option_map (replaced serial new)) states))) ≡ false
  pub overflow : overflows ≡ (has_large_constant new || list_any has_large_constant (forms_in (take i (map (option_map (replaced serial new)) states))))
  pub counted : overflows ≡ false → IsCount new unchanged added (term_count (take i (map (option_map (replaced serial new)) states)) + term_count (drop i states))
  pub rest : term_count (drop i states) ≤ unchanged
  pub few : unchanged ≤ TERM_LIMIT
  pub bounded : added ≤ (TERM_LIMIT + 1)

-- the states, where the first so many forms are new
abbrev pub partly : States → ℕ → LinearForm → ℕ → States
partly states serial new i = take i (map (option_map (replaced serial new)) states) ++ drop i states

-- so many cells hold all forms, and the new form once more, however far the replacement has come
abbrev pub IsEnough : States → ℕ → LinearForm → ℕ → Type 0
IsEnough states serial new size = (i : ℕ) → term_count (partly states serial new i) + length new.terms ≤ size

-- it has come to the end; the new form is held as it is, unless it overflows
pub record IsWholeTally (states : States) (serial : ℕ) (new form : LinearForm) (overflows : Bool) (unchanged added peak : ℕ) : Type 0 where
  pub end : ℕ
  pub whole : length states ≤ end
  pub tally : IsTally states serial new end overflows unchanged added
  pub form_is : overflows ≡ false → form ≡ new
  pub enough : overflows ≡ false → added ≤ TERM_LIMIT → IsEnough states serial new peak
