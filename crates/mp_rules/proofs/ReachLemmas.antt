-- On what lists speak of by number.
use Rattle.std.proofs.Common.{◌≡◌, ℕ, zero, suc, List, [], ◌∷◌, ◌++◌, refl, ap, ◌∙◌, arith}
use Rattle.std.specs.Prelude.{take, drop}
use Rattle.mp_acts.specs.Counts.{Counts, nothing, most, greatest, IsWithin}

pub first_within : {A : Type 0} (f : A → Counts) (n : Counts) (x : A) (xs : List A) → IsWithin (greatest f (x ∷ xs)) n → IsWithin (f x) n × IsWithin (greatest f xs) n
unfolding greatest
first_within f n x xs h = (
  record { unknowns = omega (arith, h.unknowns); slots = omega (arith, h.slots); symbols = omega (arith, h.symbols); internals = omega (arith, h.internals) },
  record { unknowns = omega (arith, h.unknowns); slots = omega (arith, h.slots); symbols = omega (arith, h.symbols); internals = omega (arith, h.internals) },
)

same_counts : (u s y i v t z j : ℕ) → u ≡ v → s ≡ t → y ≡ z → i ≡ j
    → ◌≡◌ {A = Counts} (record { unknowns = u; slots = s; symbols = y; internals = i }) (record { unknowns = v; slots = t; symbols = z; internals = j })
same_counts u s y i v t z j e f g h = cc

most_nothing : (a : Counts) → most a nothing ≡ most nothing a
most_nothing a = same_counts _ _ _ _ _ _ _ _ (omega arith) (omega arith) (omega arith) (omega arith)

most_assoc : (a b c : Counts) → most a (most b c) ≡ most (most a b) c
most_assoc a b c = same_counts _ _ _ _ _ _ _ _ (omega arith) (omega arith) (omega arith) (omega arith)

pub none_in : (n : Counts) → IsWithin nothing n
none_in n = record { unknowns = omega arith; slots = omega arith; symbols = omega arith; internals = omega arith }

pub both_within : (a b n : Counts) → IsWithin a n → IsWithin b n → IsWithin (most a b) n
both_within a b n h k = record {
  unknowns = omega (arith, h.unknowns, k.unknowns);
  slots = omega (arith, h.slots, k.slots);
  symbols = omega (arith, h.symbols, k.symbols);
  internals = omega (arith, h.internals, k.internals);
}

-- a part of a list speaks of no more than the list
pub take_within : {A : Type 0} (f : A → Counts) (n : Counts) (k : ℕ) (xs : List A) → IsWithin (greatest f xs) n → IsWithin (greatest f (take k xs)) n
unfolding greatest
take_within f n zero xs h = none_in n
take_within f n (suc k) [] h = h
take_within f n (suc k) (x ∷ xs) h =
    let both = first_within f n x xs h in
    both_within (f x) (greatest f (take k xs)) n both.0 (take_within f n k xs both.1)

pub drop_within : {A : Type 0} (f : A → Counts) (n : Counts) (k : ℕ) (xs : List A) → IsWithin (greatest f xs) n → IsWithin (greatest f (drop k xs)) n
drop_within f n zero xs h = h
drop_within f n (suc k) [] h = h
drop_within f n (suc k) (x ∷ xs) h = drop_within f n k xs (first_within f n x xs h).1

pub greatest_none : {A : Type 0} (f : A → Counts) → greatest f [] ≡ nothing
unfolding greatest
greatest_none f = refl

pub greatest_push : {A : Type 0} (f : A → Counts) (xs : List A) (x : A) → greatest f (xs ++ x ∷ []) ≡ most (greatest f xs) (f x)
unfolding greatest
greatest_push f [] x = most_nothing (f x)
greatest_push f (y ∷ ys) x = ap (most (f y)) (greatest_push f ys x) ∙ most_assoc (f y) (greatest f ys) (f x)
