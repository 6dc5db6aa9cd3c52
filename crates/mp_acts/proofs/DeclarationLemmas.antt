-- What a declaration or a definition leaves that is accepted, and the symbols of a definition's items.
use Rattle.std.proofs.Common.{◌≡◌, ◌≤◌, ℕ, suc, true, false, List, Result, Ok, subst, ap, sym, ◌∙◌, arith}
use Rattle.std.specs.List.{All}
use Rattle.mp_vartree.specs.Variables.{Variables, made}
use Rattle.mp_vartree.specs.Variables as variables
use Rattle.mp_vartree.specs.declared.names.Shape.{Shape}
use Rattle.mp_vartree.specs.declared.answers.BadDeclaration.{BadDeclaration}
use Rattle.mp_values.specs.Outcome.{Outcome}
use Rattle.mp_values.specs.declared.item.Item.{Item}
use Rattle.mp_values.specs.declared.item.Item.TheVariants as item
use Rattle.mp_values.specs.declared.macros.Macro.{Macro}
use Rattle.mp_values.specs.declared.value.Kind.{Kind}
use Rattle.mp_macro.specs.Signs.{Table}
use Rattle.mp_macro.specs.Headings.{Reading}
use Rattle.mp_macro.specs.Definitions.{read}
use Rattle.mp_macro.specs.Numbered.{IsBelow}
use Rattle.mp_macro.specs.Contents.{HoldsAtMost, KeepsAtMost, BodiesHoldWhatIsRead}
use Rattle.mp_macro.specs.declared.reader.GroupSymbols.{GroupSymbols}
use Rattle.mp_acts.specs.Counts.{Counts, greatest, IsWithin}
use Rattle.mp_acts.specs.Definitions.{group_symbols}
use Rattle.mp_acts.specs.Reach.{reach_of_item}
use Rattle.mp_acts.specs.State.{State, symbol_meaning}
use Rattle.mp_acts.specs.Variables.{root_in, nameless, tagged, declared_by, declare_root, declare, define_root, define_variable}
use Rattle.mp_acts.proofs.WithinLemmas.{greatest_within, all_within}

abbrev here : State → Outcome State (Unit {0})
here t = Ok (tt, t)

abbrev done : ℕ → ℕ → List ℕ → State → Outcome State (Unit {0})
done symbol root serials t = Ok (tt, tagged symbol root (symbol_meaning t symbol) (nameless t serials))

accepted : (symbol root : ℕ) (s mid new : State) (serials : List ℕ) (answer : Result (Unit {0}) BadDeclaration × Variables)
    → (Ok tt, mid.variables) ≡ answer → mid ≡ record s { variables = mid.variables } → new ≡ tagged symbol root (symbol_meaning mid symbol) (nameless mid serials)
    → declared_by symbol root (symbol_meaning s symbol) serials answer s ≡ Ok (tt, new)
accepted symbol root s mid new serials answer e rest is =
    subst (λ (a : Result (Unit {0}) BadDeclaration × Variables). declared_by symbol root (symbol_meaning s symbol) serials a s ≡ Ok (tt, new)) e
    (ap (done symbol root serials) (sym rest) ∙ ap here (sym is))

module _ (symbol root : ℕ) (name : List Shape) (s mid new : State) (serials : List ℕ) (at : root ≡ root_in s (symbol_meaning s symbol))
    (rest : mid ≡ record s { variables = mid.variables }) (is : new ≡ tagged symbol root (symbol_meaning mid symbol) (nameless mid serials)) where
  pub declared : (kind : Kind) → serials ≡ made s.variables root name false → (Ok tt, mid.variables) ≡ variables.declare s.variables root name kind
      → declare symbol name kind s ≡ Ok (tt, new)
  unfolding declare
  declared kind listed e =
      subst (λ (r : ℕ). declare_root symbol name kind r s ≡ Ok (tt, new)) at
      (subst (λ (l : List ℕ). declared_by symbol root (symbol_meaning s symbol) l (variables.declare s.variables root name kind) s ≡ Ok (tt, new)) listed
      (accepted symbol root s mid new serials (variables.declare s.variables root name kind) e rest is))

  pub defined : (m : Macro) → serials ≡ made s.variables root name true → (Ok tt, mid.variables) ≡ variables.define_macro s.variables root name m
      → define_variable symbol name m s ≡ Ok (tt, new)
  unfolding define_variable
  defined m listed e =
      subst (λ (r : ℕ). define_root symbol name m r s ≡ Ok (tt, new)) at
      (subst (λ (l : List ℕ). declared_by symbol root (symbol_meaning s symbol) l (variables.define_macro s.variables root name m) s ≡ Ok (tt, new)) listed
      (accepted symbol root s mid new serials (variables.define_macro s.variables root name m) e rest is))

-- the symbol of an item is one of those that there are
pub is_below : (n : Counts) (x : Item) → IsWithin (reach_of_item x) n → IsBelow n.symbols x
is_below n (item.Symbol symbol) h = h.symbols
is_below n (item.Number value) h = tt
is_below n (item.Text bytes) h = tt
is_below n (item.Bad cause) h = tt
is_below n (item.Capsule v) h = tt
is_below n (item.Param number) h = tt
is_below n (item.LineEnd place) h = tt
is_below n item.FileEnd h = tt
is_below n item.EndOfText h = tt

-- what the body of a definition speaks of is there, once an item was read
module _ (hold : BodiesHoldWhatIsRead) (n : Counts) (table : Table) (x : Item) (r new : Reading) (enough : 4 ≤ n.symbols)
    (group : r.group ≡ group_symbols) (body : IsWithin (greatest reach_of_item r.body) n) (within : IsWithin (reach_of_item x) n)
    (is : read table x r ≡ Ok (tt, new)) where
  each : All (λ y. IsWithin (reach_of_item y) n) r.body
  each = all_within reach_of_item n r.body body

  held_by : (f : Item → ℕ) (m : ℕ) → KeepsAtMost f m r.group (read table x r) → HoldsAtMost f m r.group new
  held_by f m kept = subst (λ (o : Outcome Reading (Unit {0})). KeepsAtMost f m r.group o) is kept

  of_group : (symbol : GroupSymbols → ℕ) → suc (symbol group_symbols) ≤ n.symbols → suc (symbol r.group) ≤ n.symbols
  of_group symbol h = subst (λ (g : GroupSymbols). suc (symbol g) ≤ n.symbols) (sym group) h

  unknowns : HoldsAtMost (λ y. (reach_of_item y).unknowns) n.unknowns r.group new
  unknowns =
      held_by (λ y. (reach_of_item y).unknowns) n.unknowns
      (hold (λ y. (reach_of_item y).unknowns) n.unknowns table x r (λ number. omega arith) (omega arith) (omega arith) (λ k d h. (each k d h).unknowns) within.unknowns)

  slots : HoldsAtMost (λ y. (reach_of_item y).slots) n.slots r.group new
  slots =
      held_by (λ y. (reach_of_item y).slots) n.slots
      (hold (λ y. (reach_of_item y).slots) n.slots table x r (λ number. omega arith) (omega arith) (omega arith) (λ k d h. (each k d h).slots) within.slots)

  symbols : HoldsAtMost (λ y. (reach_of_item y).symbols) n.symbols r.group new
  symbols =
      let three : 3 ≤ n.symbols = omega (arith, enough) in
      held_by (λ y. (reach_of_item y).symbols) n.symbols
      (hold (λ y. (reach_of_item y).symbols) n.symbols table x r (λ number. omega arith) (of_group (λ g. g.begin) three) (of_group (λ g. g.end) enough)
      (λ k d h. (each k d h).symbols) within.symbols)

  internals : HoldsAtMost (λ y. (reach_of_item y).internals) n.internals r.group new
  internals =
      held_by (λ y. (reach_of_item y).internals) n.internals
      (hold (λ y. (reach_of_item y).internals) n.internals table x r (λ number. omega arith) (omega arith) (omega arith) (λ k d h. (each k d h).internals) within.internals)

  pub body_read : IsWithin (greatest reach_of_item new.body) n
  body_read =
      greatest_within reach_of_item n new.body
      (λ k d h. record { unknowns = unknowns.0 k d h; slots = slots.0 k d h; symbols = symbols.0 k d h; internals = internals.0 k d h })

  pub group_read : new.group ≡ group_symbols
  group_read = unknowns.1 ∙ group
