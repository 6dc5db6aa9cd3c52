-- How many things there must be so that a value, an item or a meaning speaks of none but them.
use Rattle.std.specs.Prelude.{ℕ, suc, List, ◌≤◌, All, Option, Some, None, length}
use Rattle.mp_symbols.specs.Tables.{Table}
use Rattle.mp_symbols.specs.declared.saved.Saved.{Saved}
use Rattle.mp_symbols.specs.declared.saved.Saved.TheVariants as saved
use Rattle.mp_solver.specs.States.{States}
use Rattle.mp_solver.specs.declared.fresh.Fresh.{Fresh}
use Rattle.mp_solver.specs.declared.fresh.Fresh.TheVariants.{Made, Limit}
use Rattle.mp_values.specs.declared.item.Item.{Item}
use Rattle.mp_values.specs.declared.item.Item.TheVariants as item
use Rattle.mp_values.specs.declared.macros.Macro.{Macro}
use Rattle.mp_values.specs.declared.meaning.Meaning.{Meaning}
use Rattle.mp_values.specs.declared.meaning.Meaning.TheVariants as meaning
use Rattle.mp_values.specs.declared.meaning.Delimiters.{Delimiters}
use Rattle.mp_values.specs.declared.value.Value.{Value}
use Rattle.mp_ops.specs.Store.{reach_of_serial, reach_of_known, unknowns_reached, slots_reached}
use Rattle.mp_vartree.specs.Variables.{Variables}
use Rattle.mp_vartree.specs.Laws.{held}
use Rattle.mp_vartree.specs.declared.entry.Declared.{Declared}
use Rattle.mp_vartree.specs.declared.entry.Declared.TheVariants as declared
use Rattle.mp_vartree.specs.declared.entry.Variable.{Variable}
use Rattle.mp_vartree.specs.declared.names.Part.{Part}
use Rattle.mp_vartree.specs.declared.names.Part.TheVariants as part
use Rattle.mp_acts.specs.Counts.{Counts, nothing, most, greatest, IsWithin}
use Rattle.mp_acts.specs.State.{counts_of}
use Rattle.mp_acts.specs.declared.target.Target.{Target}
use Rattle.mp_acts.specs.declared.target.Target.TheVariants as target
use Rattle.mp_solver.specs.declared.limits.TheConstants.{UNKNOWN_LIMIT}

-- VALUES, ITEMS AND MEANINGS

-- an unknown that was made
abbrev pub reach_of_fresh : Fresh → ℕ
reach_of_fresh (Made serial) = reach_of_serial serial
reach_of_fresh Limit = 0

-- numbers count from 0
abbrev pub one_symbol : ℕ → Counts
one_symbol symbol = record nothing { symbols = suc symbol }

abbrev pub one_internal : ℕ → Counts
one_internal k = record nothing { internals = suc k }

-- a value speaks of unknowns and slots alone
abbrev pub reach : Value → Counts
reach v = record nothing { unknowns = unknowns_reached v; slots = slots_reached v }

-- a capsule carries a value
abbrev pub reach_of_item : Item → Counts
reach_of_item (item.Symbol symbol) = one_symbol symbol
reach_of_item (item.Number n) = nothing
reach_of_item (item.Text bytes) = nothing
reach_of_item (item.Bad cause) = nothing
reach_of_item (item.Capsule v) = reach v
reach_of_item (item.Param number) = nothing
reach_of_item (item.LineEnd place) = nothing
reach_of_item item.FileEnd = nothing
reach_of_item item.EndOfText = nothing

abbrev pub reach_of_part : Part → Counts
reach_of_part (part.Sym symbol) = one_symbol symbol
reach_of_part (part.Sub units) = nothing

-- a variable that a value is assigned to is not named for it
abbrev pub reach_of_target : Target → Counts
reach_of_target (target.Variable root name) = nothing
reach_of_target (target.Internal k) = one_internal k

abbrev pub reach_of_pair : Delimiters → Counts
reach_of_pair pair = most (one_symbol pair.left) (one_symbol pair.right)

-- a macro speaks of what the items of its body do, which a call puts into the text
abbrev pub reach_of_macro : Macro → Counts
reach_of_macro m = greatest reach_of_item m.body

abbrev pub reach_of_meaning : Meaning → Counts
reach_of_meaning (meaning.Word w) = nothing
reach_of_meaning (meaning.Unbuilt name) = nothing
reach_of_meaning meaning.NewTag = nothing
reach_of_meaning (meaning.Tag root) = nothing
reach_of_meaning (meaning.Internal k) = one_internal k
reach_of_meaning (meaning.Left pair) = reach_of_pair pair
reach_of_meaning (meaning.Right pair) = reach_of_pair pair
reach_of_meaning (meaning.Macro m) = reach_of_macro m

-- WHAT A STATE HOLDS

-- what a variable holds, if it has a value
abbrev pub reach_of_variable : Option Variable → Counts
reach_of_variable None = nothing
reach_of_variable (Some x) = reach x.value

-- what was declared of variables
abbrev pub reach_of_declared : Declared → Counts
reach_of_declared (declared.Typed kind) = nothing
reach_of_declared (declared.Macro m) = reach_of_macro m

-- what stands in a slot
abbrev pub reach_of_slot : Option Value → Counts
reach_of_slot None = nothing
reach_of_slot (Some v) = reach v

-- what a group gives back
abbrev pub reach_of_saved : Saved Meaning → Counts
reach_of_saved saved.Boundary = nothing
reach_of_saved (saved.Meaning symbol old) = reach_of_meaning old
reach_of_saved (saved.Number k old) = nothing

-- the variables, the macros that were declared of them, the slots, the forms that unknowns equal, and the meanings of
-- symbols, now and when a group has ended, speak of what there is alone; there are no more unknowns than can be made, and
-- the parentheses and the words of groups have symbols
pub record AreWithin (unknowns : States) (variables : Variables) (slots : List (Option Value)) (symbols : Table Meaning) : Type 0 where
  pub few : length unknowns ≤ UNKNOWN_LIMIT
  pub words : 4 ≤ length symbols.names
  pub forms : All (λ known. reach_of_known known ≤ length unknowns) unknowns
  pub held : (name : List Part) → IsWithin (reach_of_variable (held variables name)) (counts_of unknowns slots symbols)
  pub macros : All (λ entry. IsWithin (reach_of_declared entry.1) (counts_of unknowns slots symbols)) variables.declarations
  pub filled : All (λ slot. IsWithin (reach_of_slot slot) (counts_of unknowns slots symbols)) slots
  pub meanings : All (λ entry. IsWithin (reach_of_meaning entry.1) (counts_of unknowns slots symbols)) symbols.names
  pub saved : All (λ entry. IsWithin (reach_of_saved entry) (counts_of unknowns slots symbols)) symbols.saved
