-- What was declared of a pattern, and the macros on the way along a name.
-- After Knuth, METAFONT: The Program, part 15.
use Rattle.std.specs.Prelude.{ℕ, suc, Bool, false, ◌||◌, List, [], ◌∷◌, Option, Some, None, is_some}
use Rattle.mp_values.specs.declared.macros.Macro.{Macro}
use Rattle.mp_values.specs.declared.value.Kind.{Kind}
use Rattle.mp_vartree.specs.declared.names.Shape.{Shape}
use Rattle.mp_vartree.specs.declared.entry.Declared.{Declared}
use Rattle.mp_vartree.specs.declared.entry.Declared.TheVariants as declared

-- the type that was declared
abbrev pub kind_in : Option Declared → Option Kind
kind_in None = None
kind_in (Some (declared.Typed kind)) = Some kind
kind_in (Some (declared.Macro m)) = None

-- the macro that was declared
abbrev pub macro_in : Option Declared → Option Macro
macro_in None = None
macro_in (Some (declared.Typed kind)) = None
macro_in (Some (declared.Macro m)) = Some m

-- a macro with the number of parts that name it, else another
abbrev pub or_else : Option Macro → ℕ → Option (Macro × ℕ) → Option (Macro × ℕ)
or_else (Some m) count other = Some (m, count)
or_else None count other = other

-- of the beginnings of a pattern, the shortest that is a macro's, behind so many parts
abbrev pub first_macro : (List Shape → Option Macro) → List Shape → ℕ → Option (Macro × ℕ)
first_macro at [] count = or_else (at []) count None
first_macro at (s ∷ ss) count = or_else (at []) count (first_macro (λ rest. at (s ∷ rest)) ss (suc count))

-- a shorter beginning of a pattern is a macro's
abbrev pub is_below_macro : (List Shape → Option Macro) → List Shape → Bool
is_below_macro at [] = false
is_below_macro at (s ∷ ss) = is_some (at []) || is_below_macro (λ rest. at (s ∷ rest)) ss
