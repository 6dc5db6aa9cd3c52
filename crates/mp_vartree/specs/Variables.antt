-- What is known of variables, and how the calls change it.
-- After Knuth, METAFONT: The Program, part 15.
use Rattle.std.specs.Prelude.{ℕ, suc, Bool, true, false, not, cond, List, [], ◌∷◌, ◌++◌, Option, Some, None, Result, Ok, Err, unwrap_or}
use Rattle.std.specs.FinMap.{find, put}
use Rattle.std.specs.FinMap.Entries.{where_key}
use Rattle.mp_values.specs.declared.macros.Macro.{Macro}
use Rattle.mp_values.specs.declared.value.Kind.{Kind}
use Rattle.mp_values.specs.declared.value.Kind.TheVariants.{Numeric}
use Rattle.mp_values.specs.declared.value.Value.{Value}
use Rattle.mp_vartree.specs.declared.names.Part.{Part}
use Rattle.mp_vartree.specs.declared.names.Shape.{Shape}
use Rattle.mp_vartree.specs.declared.answers.BadDeclaration.{BadDeclaration}
use Rattle.mp_vartree.specs.declared.answers.WrongType.{WrongType}
use Rattle.mp_vartree.specs.declared.answers.Found.{Found}
use Rattle.mp_vartree.specs.declared.answers.Found.TheVariants as found
use Rattle.mp_vartree.specs.declared.entry.Declared.{Declared}
use Rattle.mp_vartree.specs.declared.entry.Declared.TheVariants as declared
use Rattle.mp_vartree.specs.declared.entry.Variable.{Variable}
use Rattle.mp_vartree.specs.Names.{name_cmp, pattern_cmp, full_name, full_pattern, pattern_of, begins, is_meant, is_of_root}
use Rattle.mp_values.specs.Kinds.{kind_of, is_kind}
use Rattle.mp_vartree.specs.Unknowns.{unknowns_in}
use Rattle.mp_vartree.specs.Declarations.{kind_in, macro_in, first_macro, is_below_macro}
use Rattle.mp_vartree.specs.Serials.{increasing}

-- Each pattern and each full name stands once, in their order: a list of entries is a finite map. Of std's words `find`
-- reads what stands at a key, `put` puts something there, and `where_key` keeps the entries whose keys pass a test.
pub record Variables : Type 0 where
  -- how many roots were given
  pub roots : ℕ
  -- the patterns, each with its type or macro
  pub declarations : List (List Shape × Declared)
  -- the full names, each with its value
  pub variables : List (List Part × Variable)

abbrev pub no_variables : Variables
no_variables = record { roots = 0; declarations = []; variables = [] }

-- what is declared of a pattern
abbrev pub declared_at : Variables → List Shape → Option Declared
declared_at v pattern = find pattern_cmp pattern v.declarations

-- the declared type of a variable
abbrev pub type_of : Variables → ℕ → List Part → Option Kind
type_of v root name = kind_in (declared_at v (full_pattern root (pattern_of name)))

abbrev pub macro_at : Variables → ℕ → List Shape → Option Macro
macro_at v root pattern = macro_in (declared_at v (full_pattern root pattern))

abbrev pub found_by : Option (Macro × ℕ) → Option Variable → Found
found_by (Some m) held = found.Macro m.0 m.1
found_by None (Some x) = found.Value x.value
found_by None None = found.Nothing

-- the variable of a full name
abbrev pub variable_at : Variables → ℕ → List Part → Option Variable
variable_at v root name = find name_cmp (full_name root name) v.variables

-- the macro of the shortest beginning of a name that is a macro's name, and the number of parts in that
abbrev pub macro_of : Variables → ℕ → List Part → Option (Macro × ℕ)
macro_of v root name = first_macro (macro_at v root) (pattern_of name) 0

-- what a name stands for: a macro, or the value of a variable
abbrev pub find_of : Variables → ℕ → List Part → Found
find_of v root name = found_by (macro_of v root name) (variable_at v root name)

-- the root that was never given before
abbrev pub with_new_root : Variables → Variables
with_new_root v = record v { roots = suc v.roots }

abbrev pub with_declared : Variables → List Shape → Declared → Variables
with_declared v pattern d = record v { declarations = put pattern_cmp pattern d v.declarations }

-- without the variables whose names pass a test
abbrev pub without : Variables → (List Part → Bool) → Variables
without v test = record v { variables = where_key name_cmp (λ name. not (test name)) v.variables }

-- a change that is refused below a macro's name
abbrev pub unless_below : Variables → ℕ → List Shape → Variables → Result (Unit {0}) BadDeclaration × Variables
unless_below v root name new = cond (is_below_macro (macro_at v root) name) (Err (record {}), v) (Ok tt, new)

-- a pattern gets a type or a macro, and the variables that match it are forgotten, or also those below
abbrev pub define : Variables → ℕ → List Shape → Declared → Bool → Result (Unit {0}) BadDeclaration × Variables
define v root name d below = unless_below v root name (without (with_declared v (full_pattern root name) d) (is_meant below (full_pattern root name)))

-- the pattern gets a type, and exactly the variables that match it are forgotten
abbrev pub declare : Variables → ℕ → List Shape → Kind → Result (Unit {0}) BadDeclaration × Variables
declare v root name kind = define v root name (declared.Typed kind) false

-- the pattern gets a macro, and the variables at and below it are forgotten
abbrev pub define_macro : Variables → ℕ → List Shape → Macro → Result (Unit {0}) BadDeclaration × Variables
define_macro v root name m = define v root name (declared.Macro m) true

-- the type that a value must have to be stored: the declared one, else numeric
abbrev pub wanted_kind : Variables → ℕ → List Part → Kind
wanted_kind v root name = unwrap_or (type_of v root name) Numeric

abbrev pub with_variable : Variables → ℕ → List Part → Variable → Variables
with_variable v root name x = record v { variables = put name_cmp (full_name root name) x v.variables }

-- the variable gets a value, if that has its type
abbrev pub store_as : Bool → Variables → ℕ → List Part → Value → Result (Unit {0}) WrongType × Variables
store_as made v root name value =
    cond (is_kind (wanted_kind v root name) (kind_of value)) (Ok tt, with_variable v root name (record { value = value; made = made })) (Err (record {}), v)

abbrev pub store : Variables → ℕ → List Part → Value → Result (Unit {0}) WrongType × Variables
store = store_as false

-- the same, for a value whose unknowns were made for the variable
abbrev pub store_made : Variables → ℕ → List Part → Value → Result (Unit {0}) WrongType × Variables
store_made = store_as true

-- without the variables and declarations of a root
abbrev pub forget : Variables → ℕ → Variables
forget v root = record (without v (begins (full_pattern root []))) {
  declarations = where_key pattern_cmp (λ pattern. not (is_of_root root pattern)) v.declarations;
}

-- the unknowns that were made for a variable
abbrev pub made_for : Variable → List ℕ
made_for x = cond x.made (unknowns_in x.value) []

abbrev pub made_for_any : List (List Part × Variable) → List ℕ
made_for_any [] = []
made_for_any (e ∷ es) = made_for e.1 ++ made_for_any es

-- the unknowns that were made for the variables that match a pattern, or also for those below
abbrev pub made : Variables → ℕ → List Shape → Bool → List ℕ
made v root name below = increasing (made_for_any (where_key name_cmp (is_meant below (full_pattern root name)) v.variables))

abbrev pub made_for_one : Option Variable → List ℕ
made_for_one None = []
made_for_one (Some x) = made_for x

-- the unknowns that were made for one variable
abbrev pub made_at : Variables → ℕ → List Part → List ℕ
made_at v root name = increasing (made_for_one (variable_at v root name))
