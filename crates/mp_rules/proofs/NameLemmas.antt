-- On names that are called: what a macro is told of its name.
use Rattle.std.proofs.Common.{◌≡◌, ◌<◌, ◌+◌, ℕ, zero, suc, Bool, true, false, List, [], ◌∷◌, ◌++◌, Option, Some, None, length, map, refl, ap, sym, subst, arith}
use Rattle.std.specs.Prelude.{take, drop, All, IfSome, if◌then◌else◌}
use Rattle.std.specs.Option.{option_map}
use Rattle.std.proofs.lemmas.List.Elements.{All-head, All-tail}
use Rattle.mp_values.specs.declared.macros.Level.{Level}
use Rattle.mp_values.specs.declared.macros.Macro.{Macro}
use Rattle.mp_values.specs.declared.meaning.Meaning.{Meaning}
use Rattle.mp_values.specs.declared.meaning.Meaning.TheVariants as meaning
use Rattle.mp_values.specs.declared.item.Item.{Item}
use Rattle.mp_values.specs.declared.item.Item.TheVariants as item
use Rattle.mp_vartree.specs.declared.names.Part.{Part}
use Rattle.mp_vartree.specs.declared.names.Part.TheVariants as part
use Rattle.mp_acts.specs.Counts.{Counts, nothing, greatest, IsWithin}
use Rattle.mp_values.specs.declared.value.Value.{Value}
use Rattle.mp_values.specs.declared.value.Value.TheVariants as value
use Rattle.mp_acts.specs.Reach.{reach, reach_of_item, reach_of_macro, reach_of_meaning, reach_of_part, one_symbol}
use Rattle.mp_expand.specs.Advance.{items_of, capsule}
use Rattle.mp_expand.specs.Fronts.{Table, meaning_of, joins_at, macro_at, operator_in}
use Rattle.mp_expand.specs.declared.front.Front.{Front}
use Rattle.mp_expand.specs.declared.front.Front.TheVariants as front
use Rattle.mp_expand.specs.declared.step.Answer.{Answer}
use Rattle.mp_expand.specs.declared.step.Answer.TheVariants as answer
use Rattle.mp_rules.specs.Reach.{reach_of_maybe_macro}
use Rattle.mp_rules.specs.Rules.{item_of_part, name_items, called_with}
use Rattle.mp_rules.proofs.ReachLemmas.{first_within, none_in, both_within, take_within, drop_within}

-- a value in place of an expression speaks of what the value does
capsule_within : (n : Counts) (v : Value) → IsWithin (reach v) n → IsWithin (greatest reach_of_item (item.Capsule v ∷ [])) n
unfolding greatest
capsule_within n v h = both_within (reach v) nothing n h (none_in n)

-- a name as items speaks of what its parts do
part_within : (n : Counts) (p : Part) → IsWithin (reach_of_part p) n → IsWithin (reach_of_item (item_of_part p)) n
part_within n (part.Sym symbol) h = h
part_within n (part.Sub units) h = none_in n

parts_within : (n : Counts) (parts : List Part) → IsWithin (greatest reach_of_part parts) n → IsWithin (greatest reach_of_item (map item_of_part parts)) n
unfolding greatest
parts_within n [] h = none_in n
parts_within n (p ∷ parts) h =
    let both = first_within reach_of_part n p parts h in
    both_within (reach_of_item (item_of_part p)) (greatest reach_of_item (map item_of_part parts)) n (part_within n p both.0) (parts_within n parts both.1)

name_within : (n : Counts) (symbol : ℕ) (parts : List Part) → IsWithin (one_symbol symbol) n → IsWithin (greatest reach_of_part parts) n
    → IsWithin (greatest reach_of_item (name_items symbol parts)) n
unfolding greatest
name_within n symbol parts a b = both_within (one_symbol symbol) (greatest reach_of_item (map item_of_part parts)) n a (parts_within n parts b)

symbol_within : (n : Counts) (symbol : ℕ) → symbol < n.symbols → IsWithin (one_symbol symbol) n
symbol_within n symbol h = record { unknowns = omega arith; slots = omega arith; symbols = omega (arith, h); internals = omega arith }

-- arguments of calls, one after the other
one_more : (n : Counts) (a : List Item) (more : List (List Item)) → IsWithin (greatest reach_of_item a) n → IsWithin (greatest (greatest reach_of_item) more) n
    → IsWithin (greatest (greatest reach_of_item) (a ∷ more)) n
unfolding greatest
one_more n a more h k = both_within (greatest reach_of_item a) (greatest (greatest reach_of_item) more) n h k

no_more : (n : Counts) → IsWithin (greatest (greatest reach_of_item) []) n
unfolding greatest
no_more n = none_in n

of_name_within : (n : Counts) (symbol : ℕ) (parts behind : List Part) → symbol < n.symbols → IsWithin (greatest reach_of_part parts) n
    → IsWithin (greatest reach_of_part behind) n → IsWithin (greatest (greatest reach_of_item) (called_with symbol parts behind)) n
of_name_within n symbol parts behind a b h =
    let name = name_within n symbol parts (symbol_within n symbol a) b in
    one_more n _ _ (take_within reach_of_item n (length parts) (name_items symbol parts) name)
    (one_more n _ _ (drop_within reach_of_item n (length parts) (name_items symbol parts) name) (one_more n _ [] (parts_within n behind h) (no_more n)))

take_all : (xs ys : List Item) → take (length xs) (xs ++ ys) ≡ xs
take_all [] ys = refl
take_all (x ∷ xs) ys = ap (λ more. x ∷ more) (take_all xs ys)

drop_all : (xs ys : List Item) → drop (length xs) (xs ++ ys) ≡ ys
drop_all [] ys = refl
drop_all (x ∷ xs) ys = drop_all xs ys

length_last : (xs : List Item) (x : Item) → length (xs ++ x ∷ []) ≡ length xs + 1
length_last [] x = refl
length_last (y ∷ xs) x = let more = length_last xs x in omega (arith, more)

length_map : (parts : List Part) → length (map item_of_part parts) ≡ length parts
length_map [] = refl
length_map (p ∷ parts) = ap suc (length_map parts)

-- what stands before the last part, that part, and what goes on behind it
pub split_at_last : (symbol : ℕ) (parts : List Part) (before : List Item) (last : Item) (behind : List Item) → before ++ last ∷ [] ≡ name_items symbol parts
    → before ∷ (last ∷ []) ∷ behind ∷ []
    ≡ take (length parts) (name_items symbol parts) ∷ drop (length parts) (name_items symbol parts) ∷ behind ∷ []
split_at_last symbol parts before last behind e =
    let count : length parts ≡ length before = omega (arith, length_last before last, length_map parts, ap length e) in
    rw (count, sym e, take_all before (last ∷ []), drop_all before (last ∷ [])) refl

pub called_within : (n : Counts) (symbol : ℕ) (parts behind : List Part) (arguments : List (List Item)) → arguments ≡ called_with symbol parts behind
    → symbol < n.symbols → IsWithin (greatest reach_of_part parts) n → IsWithin (greatest reach_of_part behind) n
    → IsWithin (greatest (greatest reach_of_item) arguments) n
called_within n symbol parts behind arguments is a b h = rw is (of_name_within n symbol parts behind a b h)

pub operands_within : (n : Counts) (left right : Value) (arguments : List (List Item)) → arguments ≡ capsule left ∷ capsule right ∷ [] → IsWithin (reach left) n
    → IsWithin (reach right) n → IsWithin (greatest (greatest reach_of_item) arguments) n
operands_within n left right arguments is a b =
    rw is (one_more n (capsule left) _ (capsule_within n left a) (one_more n (capsule right) [] (capsule_within n right b) (no_more n)))

-- what is answered speaks of what the operand does
pub value_within : (n : Counts) (v : Value) (a : Answer) → a ≡ answer.Value v → IsWithin (reach v) n → IsWithin (greatest reach_of_item (items_of a)) n
value_within n v a is h = rw is (capsule_within n v h)

-- a truth speaks of nothing
pub truth_within : (n : Counts) (truth : Bool) → IsWithin (greatest reach_of_item (items_of (answer.Truth truth))) n
truth_within n truth = capsule_within n (value.Boolean truth) (none_in n)

pub suffix_within : (n : Counts) (parts : List Part) (a : Answer) → a ≡ answer.Suffix (map item_of_part parts) → IsWithin (greatest reach_of_part parts) n
    → IsWithin (greatest reach_of_item (items_of a)) n
suffix_within n parts a is h = rw is (parts_within n parts h)

-- THE OPERATORS OF USERS

-- what a symbol means, by the table, speaks of what there is
meaning_within : (n : Counts) (table : Table) (symbol : ℕ) → All (λ entry. IsWithin (reach_of_meaning entry.1) n) table → IsWithin (reach_of_meaning (meaning_of table symbol)) n
meaning_within n [] symbol h = none_in n
meaning_within n (entry ∷ more) zero h = All-head (λ entry. IsWithin (reach_of_meaning entry.1) n) entry more h
meaning_within n (entry ∷ more) (suc symbol) h = meaning_within n more symbol (All-tail (λ entry. IsWithin (reach_of_meaning entry.1) n) entry more h)

chosen_within : (n : Counts) (b : Bool) (k : Macro) → IsWithin (reach_of_macro k) n → IsWithin (reach_of_maybe_macro (if b then Some k else None)) n
chosen_within n true k h = h
chosen_within n false k h = none_in n

macro_within : (n : Counts) (l : Level) (m : Meaning) → IsWithin (reach_of_meaning m) n → IsWithin (reach_of_maybe_macro (macro_at l m)) n
macro_within n l (meaning.Word w) h = none_in n
macro_within n l (meaning.Unbuilt name) h = none_in n
macro_within n l meaning.NewTag h = none_in n
macro_within n l (meaning.Tag root) h = none_in n
macro_within n l (meaning.Internal k) h = none_in n
macro_within n l (meaning.Left pair) h = none_in n
macro_within n l (meaning.Right pair) h = none_in n
macro_within n l (meaning.Macro k) h = chosen_within n (joins_at l k.level) k h

pub operator_within : (n : Counts) (table : Table) (l : Level) (x : Front) → All (λ entry. IsWithin (reach_of_meaning entry.1) n) table
    → IsWithin (reach_of_maybe_macro (operator_in table l x)) n
operator_within n table l (front.Operator symbol) h = macro_within n l (meaning_of table symbol) (meaning_within n table symbol h)
operator_within n table l (front.Number u) h = none_in n
operator_within n table l front.Text h = none_in n
operator_within n table l front.Capsule h = none_in n
operator_within n table l (front.Word symbol w) h = none_in n
operator_within n table l (front.Tag symbol) h = none_in n
operator_within n table l (front.Internal symbol k) h = none_in n
operator_within n table l (front.Left symbol pair) h = none_in n
operator_within n table l (front.Right symbol pair) h = none_in n
operator_within n table l front.EndOfText h = none_in n

pub some_within : {A : Type 0} (n : Counts) (f : A → Macro) (r : Option A) (m : Option Macro) → option_map f r ≡ m → IsWithin (reach_of_maybe_macro m) n
    → IfSome r (λ a. IsWithin (reach_of_macro (f a)) n)
some_within n f (Some a) m e h = subst (λ (m : Option Macro). IsWithin (reach_of_maybe_macro m) n) (sym e) h
some_within n f None m e h = tt
