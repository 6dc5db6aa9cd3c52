-- What the items of a body are: those that were read, parameters, and the two symbols of a group.
use Rattle.std.specs.Prelude.{◌≡◌, ◌≤◌, ℕ, All, Ok, Err}
use Rattle.mp_values.specs.Outcome.{Outcome}
use Rattle.mp_values.specs.declared.item.Item.{Item}
use Rattle.mp_values.specs.declared.item.Item.TheVariants as item
use Rattle.mp_macro.specs.Signs.{Table}
use Rattle.mp_macro.specs.Headings.{Reading}
use Rattle.mp_macro.specs.Definitions.{read}
use Rattle.mp_macro.specs.declared.reader.GroupSymbols.{GroupSymbols}

-- by this measure all items of the body are at most the bound, and the symbols of the group are these
abbrev pub HoldsAtMost : (Item → ℕ) → ℕ → GroupSymbols → Reading → Type 0
HoldsAtMost f n group r = All (λ x. f x ≤ n) r.body × (r.group ≡ group)

-- so it is of what is left, be it of an item that was read or of one that was refused
abbrev pub KeepsAtMost : {A : Type 0} → (Item → ℕ) → ℕ → GroupSymbols → Outcome Reading A → Type 0
KeepsAtMost f n group (Ok done) = HoldsAtMost f n group done.1
KeepsAtMost f n group (Err refused) = HoldsAtMost f n group refused.1

-- where all that can come into a body is at most the bound, be it parameters, the symbols of the group or the item, and
-- what stands in it is so already, that which then stands in it is
abbrev pub BodiesHoldWhatIsRead : Type 0
BodiesHoldWhatIsRead =
    (f : Item → ℕ) (n : ℕ) (table : Table) (x : Item) (r : Reading)
    → ((number : ℕ) → f (item.Param number) ≤ n) → f (item.Symbol r.group.begin) ≤ n → f (item.Symbol r.group.end) ≤ n
    → All (λ x. f x ≤ n) r.body → f x ≤ n → KeepsAtMost f n r.group (read table x r)
