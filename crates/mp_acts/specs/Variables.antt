-- Variables: their roots, their declarations, how they are read, and what is assigned.
-- After Knuth, METAFONT: The Program, parts 15 and 43; nameless unknowns, and slots in the place of rings, are this project's own.
use Rattle.std.specs.Prelude.{◌≡◌, ◌⊎◌, ℕ, pos, Bool, true, false, cond, nat_le, ◌&&◌, List, [], ◌∷◌, ◌++◌, Option, Some, None, Result, Ok, Err, length, codes}
use Rattle.std.specs.List.{fold}
use Rattle.std.specs.Option.{option_map}
use Rattle.mp_forms.specs.Forms.{LinearForm}
use Rattle.mp_solver.specs.States.{Unknowns, fresh_of, unnamed}
use Rattle.mp_solver.specs.declared.fresh.Fresh.{Fresh}
use Rattle.mp_solver.specs.declared.fresh.Fresh.TheVariants.{Made, Limit}
use Rattle.mp_solver.specs.Replay as event
use Rattle.mp_report.specs.declared.error.Cap.TheVariants as cap
use Rattle.mp_report.specs.declared.error.SourceError.TheVariants as error
use Rattle.mp_symbols.specs.Groups.{with_symbol, with_internal}
use Rattle.mp_values.specs.Outcome.{Outcome, Rule, ◌>>=◌, give, change}
use Rattle.mp_values.specs.Refusals.{wrong_type}
use Rattle.mp_values.specs.declared.macros.Level.{Level}
use Rattle.mp_values.specs.declared.macros.Level.TheVariants as level
use Rattle.mp_values.specs.declared.macros.Macro.{Macro}
use Rattle.mp_macro.specs.declared.defined.Defined.{Defined}
use Rattle.mp_values.specs.declared.meaning.Meaning.{Meaning}
use Rattle.mp_values.specs.declared.meaning.Meaning.TheVariants as meaning
use Rattle.mp_values.specs.declared.value.Kind.{Kind}
use Rattle.mp_values.specs.declared.value.Kind.TheVariants as kind
use Rattle.mp_values.specs.declared.value.Value.{Value}
use Rattle.mp_values.specs.declared.value.Value.TheVariants.{Boolean, Numeric, Text, Unset, Vacuous}
use Rattle.mp_values.specs.Kinds.{kind_of, is_kind}
use Rattle.mp_vartree.specs.Variables as variables
use Rattle.mp_vartree.specs.Variables.{Variables, variable_at, macro_of, wanted_kind, made, made_at}
use Rattle.mp_vartree.specs.declared.answers.BadDeclaration.{BadDeclaration}
use Rattle.mp_vartree.specs.declared.entry.Variable.{Variable}
use Rattle.mp_vartree.specs.declared.names.Part.{Part}
use Rattle.mp_vartree.specs.declared.names.Shape.{Shape}
use Rattle.mp_acts.specs.State.{State, symbol_meaning}
use Rattle.mp_acts.specs.Operators.{up_to_date, operand, known}
use Rattle.mp_acts.specs.Suffixes.{variable_name}
use Rattle.mp_acts.specs.declared.target.Target.{Target}
use Rattle.mp_acts.specs.declared.target.Target.TheVariants as target
use Rattle.mp_solver.specs.declared.limits.TheConstants.{UNKNOWN_LIMIT}

-- ROOTS

-- a symbol becomes the tag of variables that were never used before
abbrev pub with_new_root : State → ℕ → State
with_new_root s symbol = record s {
  variables = variables.with_new_root s.variables;
  symbols = with_symbol s.symbols symbol (meaning.Tag s.variables.roots);
}

-- the root of a symbol that means this
abbrev pub root_by : ℕ → Meaning → Rule State ℕ
root_by symbol (meaning.Tag root) s = Ok (root, s)
root_by symbol m s = Ok (s.variables.roots, with_new_root s symbol)

-- the root of a tag; what has none gets the next, and is a tag from then on
unfoldable pub root_of : ℕ → Rule State ℕ
root_of symbol s = root_by symbol (symbol_meaning s symbol) s

-- READING

-- the unknown itself, as a form
abbrev pub unknown_form : ℕ → LinearForm
unknown_form serial = record { constant = pos 0; terms = record { serial = serial; coefficient = pos 268435456 } ∷ [] }

-- a variable holds this; what unknowns are in it may have been made for it
abbrev pub with_variable : Bool → State → ℕ → List Part → Value → State
with_variable made s root name v = record s { variables = variables.with_variable s.variables root name (record { value = v; made = made }) }

abbrev pub read_anew : State → ℕ → List Part → Value → Outcome State Value
read_anew s root name v = Ok (v, with_variable true s root name v)

-- the state with one more unknown, whose making, of that name, is the newest event
abbrev pub with_unknown : State → List ℕ → Unknowns → State
with_unknown s name unknowns = record s { unknowns = unknowns; events = s.events ++ event.Fresh name ∷ [] }

-- what comes of a wish for one more unknown, which a variable is to be
abbrev pub made_unknown : State → ℕ → List Part → List ℕ → Fresh × Unknowns → Outcome State Value
made_unknown s root name text (Made serial, unknowns) = read_anew (with_unknown s text unknowns) root name (Numeric (unknown_form serial))
made_unknown s root name text (Limit, unknowns) = Err (error.Limit cap.Unknowns UNKNOWN_LIMIT, s)

-- a variable gets a new slot, which is open
abbrev pub made_slot : State → ℕ → List Part → Kind → Outcome State Value
made_slot s root name kind = read_anew (record s { slots = s.slots ++ None ∷ [] }) root name (Unset kind (length s.slots))

-- a number becomes a new unknown of the variable's name; what unknowns cannot stand for gets a slot
abbrev pub made_value : ℕ → ℕ → List Part → Kind → Rule State Value
made_value symbol root name kind.Numeric s = let text = variable_name s symbol name in made_unknown s root name text (fresh_of s.unknowns text)
made_value symbol root name kind.Boolean s = made_slot s root name kind.Boolean
made_value symbol root name kind.Text s = made_slot s root name kind.Text

abbrev pub value_of : ℕ → ℕ → List Part → Option Variable → Rule State Value
value_of symbol root name (Some x) s = Ok (x.value, s)
value_of symbol root name None s = made_value symbol root name (wanted_kind s.variables root name) s

-- the value of a variable of a root, whose tag that symbol is
unfoldable pub read : ℕ → ℕ → List Part → Rule State Value
read symbol root name s = value_of symbol root name (variable_at s.variables root name) s

-- what want of memory leaves of a reading: the state as it was, or one with an unknown of the variable's name, which no
-- value speaks of
abbrev pub IsReadInPart : ℕ → List Part → State → State → Type 0
IsReadInPart symbol name old new = (new ≡ old) ⊎ (new ≡ with_unknown old (variable_name old symbol name) (fresh_of old.unknowns (variable_name old symbol name)).1)

-- GIVING UP

-- serials count from 1
abbrev pub is_unknown : Unknowns → ℕ → Bool
is_unknown unknowns serial = nat_le 1 serial && nat_le serial (length unknowns.states)

-- an unknown loses its name; a number that is none of an unknown changes nothing
abbrev pub without_name : Unknowns → ℕ → Unknowns
without_name unknowns serial = cond (is_unknown unknowns serial) (unnamed unknowns serial) unknowns

unfoldable pub without_names : Unknowns → List ℕ → Unknowns
without_names unknowns serials = fold without_name unknowns serials

abbrev pub nameless : State → List ℕ → State
nameless s serials = record s { unknowns = without_names s.unknowns serials }

-- the state with these variables, of which unknowns were given up
abbrev pub giving_up : State → Variables → List ℕ → State
giving_up s variables serials = nameless (record s { variables = variables }) serials

-- the variables and declarations of a root are forgotten
unfoldable pub without_root : ℕ → State → State
without_root root s = giving_up s (variables.forget s.variables root) (made s.variables root [] true)

-- the states differ by variables and names of unknowns alone
abbrev pub IsForgetting : State → State → Type 0
IsForgetting old new = new ≡ record old { variables = new.variables; unknowns = record old.unknowns { names = new.unknowns.names } }

-- DECLARATIONS AND DEFINITIONS

abbrev pub is_tag : Meaning → Bool
is_tag (meaning.Tag root) = true
is_tag m = false

-- the root of a tag; for what has none it is the next one
abbrev pub root_in : State → Meaning → ℕ
root_in s (meaning.Tag root) = root
root_in s m = s.variables.roots

-- that root is used up
abbrev pub with_next_root : State → State
with_next_root s = record s { variables = variables.with_new_root s.variables }

-- a symbol is the tag of a root
abbrev pub with_tag : ℕ → ℕ → State → State
with_tag symbol root s = record s { symbols = with_symbol s.symbols symbol (meaning.Tag root) }

-- a symbol that meant this is the tag of its root from now on
abbrev pub tagged : ℕ → ℕ → Meaning → State → State
tagged symbol root (meaning.Tag old) s = with_tag symbol root s
tagged symbol root m s = with_tag symbol root (with_next_root s)

-- the symbol becomes a tag where the declaration is accepted; one that is refused leaves the state as it was
abbrev pub declared_by : ℕ → ℕ → Meaning → List ℕ → Result (Unit {0}) BadDeclaration × Variables → Rule State (Unit {0})
declared_by symbol root m serials (Ok x, variables) s = Ok (tt, tagged symbol root m (giving_up s variables serials))
declared_by symbol root m serials (Err refused, variables) s = Err (error.BadDeclaration, s)

abbrev pub declare_root : ℕ → List Shape → Kind → ℕ → Rule State (Unit {0})
declare_root symbol name kind root s = declared_by symbol root (symbol_meaning s symbol) (made s.variables root name false) (variables.declare s.variables root name kind) s

-- the variables of a pattern get a type, and lose their values
unfoldable pub declare : ℕ → List Shape → Kind → Rule State (Unit {0})
declare symbol name kind s = declare_root symbol name kind (root_in s (symbol_meaning s symbol)) s

abbrev pub define_root : ℕ → List Shape → Macro → ℕ → Rule State (Unit {0})
define_root symbol name m root s = declared_by symbol root (symbol_meaning s symbol) (made s.variables root name true) (variables.define_macro s.variables root name m) s

-- the variables of a pattern get a macro, and these and all below them lose their values
unfoldable pub define_variable : ℕ → List Shape → Macro → Rule State (Unit {0})
define_variable symbol name m s = define_root symbol name m (root_in s (symbol_meaning s symbol)) s

-- a symbol gets a macro
abbrev pub with_macro : ℕ → Macro → State → State
with_macro symbol m s = record s { symbols = with_symbol s.symbols symbol (meaning.Macro m) }

-- what a definition does, by how its macro is called
abbrev pub define_by : Level → Defined → Rule State (Unit {0})
define_by level.Plain d = change (with_macro d.symbol d.value)
define_by level.Variable d = define_variable d.symbol d.parts d.value
define_by level.Suffixed d = define_variable d.symbol d.parts d.value
define_by level.Primary d = change (with_macro d.symbol d.value)
define_by level.Secondary d = change (with_macro d.symbol d.value)
define_by level.Tertiary d = change (with_macro d.symbol d.value)

unfoldable pub define : Defined → Rule State (Unit {0})
define d = define_by d.value.level d

-- a name that begins with that of a macro is a call: of the shortest beginning that is a macro's
abbrev pub macro_named : State → ℕ → List Part → Option Macro
macro_named s root name = option_map (λ m. m.0) (macro_of s.variables root name)

-- ASSIGNMENTS

-- a value must have the type of the variable
abbrev pub of_type : ℕ → List Part → Value → Rule State (Unit {0})
of_type root name v s = cond (is_kind (wanted_kind s.variables root name) (kind_of v)) (Ok (tt, s)) (Err (wrong_type (codes ":="), s))

-- a number is brought up to date
abbrev pub current : Value → Rule State Value
current (Numeric p) = do
  q ← up_to_date p
  give (Numeric q)
current (Boolean b) = give (Boolean b)
current (Text bytes) = give (Text bytes)
current (Unset kind slot) = give (Unset kind slot)
current Vacuous = give Vacuous

-- the value of a variable is given up for another
abbrev pub replaced : State → ℕ → List Part → Value → State
replaced s root name v = giving_up s (with_variable false s root name v).variables (made_at s.variables root name)

abbrev pub assign_variable : ℕ → List Part → Value → Rule State (Unit {0})
assign_variable root name v = do
  typed ← of_type root name v
  new ← current v
  change (λ s. replaced s root name new)

abbrev pub assign_internal : ℕ → Value → Rule State (Unit {0})
assign_internal k v = do
  p ← operand (codes ":=") v
  value ← known (codes ":=") p
  change (λ s. record s { symbols = with_internal s.symbols k value })

-- a value is assigned to a variable, or to an internal, for which it must be a known number
unfoldable pub assign : Target → Value → Rule State (Unit {0})
assign (target.Variable root name) v = assign_variable root name v
assign (target.Internal k) v = assign_internal k v
