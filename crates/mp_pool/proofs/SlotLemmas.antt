-- The slots of a pool, from the chains that hold their lists.
use Rattle.std.proofs.Common.{◌≡◌, ℕ, ◌+◌, ◌<◌, ◌≤◌, Bool, true, false, not, cond, List, [], ◌∷◌, Option, Some, None, zero, suc, length, get_or, drop, refl, sym, ap, ◌∙◌, subst, arith, inl, inr}
use Rattle.std.specs.List.{sum_by, count_by}
use Rattle.std.specs.Option.{is_none, IsSome, unwrap_or}
use Rattle.std.proofs.lemmas.Bool.{cases_lt}
use Rattle.std.proofs.lemmas.List.{get_or_past, drop_more, drop_all}
use Rattle.std.proofs.lemmas.List.Sums.{sum_by-cons}
use Rattle.mp_pool.specs.declared.Term.{Term}
use Rattle.mp_pool.specs.Pool.{Pool, list_in, terms_in, spare, length_in}
use Rattle.mp_pool.specs.Storage.Chains.{chain_of}
use Rattle.mp_pool.specs.Storage.Slots.{slots_from, is_taken, IsPool}

abbrev Chains : Type 0
Chains = List (List Term)

pub length-slots_from : (chains : Chains) (k : ℕ) (taken : List Bool) → length (slots_from chains k taken) ≡ length taken
length-slots_from chains k [] = refl
length-slots_from chains k (t ∷ ts) = ap suc (length-slots_from chains (suc k) ts)

pub get_or-slots_from : (chains : Chains) (k : ℕ) (taken : List Bool) (slot : ℕ) → get_or (slots_from chains k taken) slot None ≡ cond (is_taken taken slot) (Some (chain_of chains (k + slot))) None
get_or-slots_from chains k [] slot = refl
get_or-slots_from chains k (t ∷ ts) zero = ap (λ (i : ℕ). cond t (Some (chain_of chains i)) None) {x = k} {y = k + 0} (omega arith)
get_or-slots_from chains k (t ∷ ts) (suc slot) =
    get_or-slots_from chains (suc k) ts slot ∙ ap (λ (i : ℕ). cond (is_taken ts slot) (Some (chain_of chains i)) None) {x = suc k + slot} {y = k + suc slot} (omega arith)

free_cond : (t : Bool) (terms : List Term) → ◌≡◌ {A = ℕ} (cond (is_none (cond t (Some terms) None)) 1 0) (cond (not t) 1 0)
free_cond true terms = refl
free_cond false terms = refl

-- the free slots are those that are not taken
pub count-slots_from : (chains : Chains) (k : ℕ) (taken : List Bool) → count_by is_none (slots_from chains k taken) ≡ count_by not taken
count-slots_from chains k [] = refl
count-slots_from chains k (t ∷ ts) =
    let first = sum_by-cons (λ (s : Option (List Term)). cond (is_none s) 1 0) (cond t (Some (chain_of chains k)) None) (slots_from chains (suc k) ts) in
    let other = sum_by-cons (λ (b : Bool). cond (not b) 1 0) t ts in
    let rest = count-slots_from chains (suc k) ts in
    let same = free_cond t (chain_of chains k) in
    omega (arith, first, other, rest, same)

length_cond : (t : Bool) (terms : List Term) → (t ≡ false → terms ≡ []) → length_in (cond t (Some terms) None) ≡ length terms
length_cond true terms none = refl
length_cond false terms none = sym (ap length (none refl))

abbrev total : Chains → ℕ
total chains = sum_by (λ (ts : List Term). length ts) chains

-- the cells of the chains from k on are those that the slots use
pub used-slots_from : (chains : Chains) (k : ℕ) (taken : List Bool) → length chains ≤ k + length taken → ((slot : ℕ) → is_taken taken slot ≡ false → chain_of chains (k + slot) ≡ []) →
    total (drop k chains) ≡ sum_by length_in (slots_from chains k taken)
used-slots_from chains k [] few empty = ap total (drop_all k chains (omega (arith, few)))
used-slots_from chains k (t ∷ ts) few empty =
    let here : t ≡ false → chain_of chains k ≡ [] = λ is. ap (chain_of chains) {x = k} {y = k + 0} (omega arith) ∙ empty 0 is in
    let later : (slot : ℕ) → is_taken ts slot ≡ false → chain_of chains (suc k + slot) ≡ [] = λ slot is. ap (chain_of chains) {x = suc k + slot} {y = k + suc slot} (omega arith) ∙ empty (suc slot) is in
    let rest = used-slots_from chains (suc k) ts (omega (arith, few)) later in
    let more = sum_by-cons length_in (cond t (Some (chain_of chains k)) None) (slots_from chains (suc k) ts) in
    let first = length_cond t (chain_of chains k) here in
    elim (cases_lt k (length chains)) [
      | inl within ↦
          let split = ap total (drop_more chains k [] within) in
          let cons = sum_by-cons (λ (xs : List Term). length xs) (chain_of chains k) (drop (k + 1) chains) in
          let same : total (drop (suc k) chains) ≡ total (drop (k + 1) chains) = ap (λ (i : ℕ). total (drop i chains)) {x = suc k} {y = k + 1} (omega arith) in
          omega (arith, split, cons, same, rest, more, first)
      | inr past ↦
          let none = ap length (get_or_past chains k [] past) in
          let gone = ap total (drop_all k chains past) in
          let gone' = ap total (drop_all (suc k) chains (omega (arith, past))) in
          omega (arith, none, gone, gone', rest, more, first)
    ]

split_three : (chains : Chains) → total chains ≡ length (chain_of chains 0) + (length (chain_of chains 1) + (length (chain_of chains 2) + total (drop 3 chains)))
split_three [] = refl
split_three (a ∷ []) = omega (arith, sum_by-cons (λ (xs : List Term). length xs) a [])
split_three (a ∷ b ∷ []) = omega (arith, sum_by-cons (λ (xs : List Term). length xs) a (b ∷ []), sum_by-cons (λ (xs : List Term). length xs) b [])
split_three (a ∷ b ∷ c ∷ rest) =
    omega (arith, sum_by-cons (λ (xs : List Term). length xs) a (b ∷ c ∷ rest), sum_by-cons (λ (xs : List Term). length xs) b (c ∷ rest), sum_by-cons (λ (xs : List Term). length xs) c rest)

-- each cell is spare or used
pub spare_and_used : (chains : Chains) (taken : List Bool) (vacant : List ℕ) (room : ℕ) → IsPool chains taken vacant room → length (chain_of chains 0) + sum_by length_in (slots_from chains 3 taken) ≡ total chains
spare_and_used chains taken vacant room is =
    let three = split_three chains in
    let rest = used-slots_from chains 3 taken is.none is.empty in
    let one = ap length is.done in
    let two = ap length is.seen in
    omega (arith, three, rest, one, two)

taken_cond : (b : Bool) (terms : List Term) → IsSome (cond b (Some terms) None) → b ≡ true
taken_cond true terms some = refl
taken_cond false terms some = absurd cc

-- a slot with a list is taken
pub taken_is : (chains : Chains) (taken : List Bool) (slot : ℕ) → IsSome (get_or (slots_from chains 3 taken) slot None) → is_taken taken slot ≡ true
taken_is chains taken slot some = taken_cond (is_taken taken slot) (chain_of chains (3 + slot)) (subst IsSome (get_or-slots_from chains 3 taken slot) some)

pub slot_in : (taken : List Bool) (slot : ℕ) → is_taken taken slot ≡ true → slot < length taken
slot_in taken slot is =
    elim (cases_lt slot (length taken)) [ inl within ↦ within | inr past ↦ let none = get_or_past taken slot false past in absurd cc ]

pub list_is : (chains : Chains) (taken : List Bool) (slot : ℕ) → is_taken taken slot ≡ true → get_or (slots_from chains 3 taken) slot None ≡ Some (chain_of chains (3 + slot))
list_is chains taken slot is = get_or-slots_from chains 3 taken slot ∙ ap (λ (b : Bool). cond b (Some (chain_of chains (3 + slot))) None) is

-- its chain is one of the chains
pub chain_in : (chains : Chains) (taken : List Bool) (vacant : List ℕ) (room slot : ℕ) → IsPool chains taken vacant room → is_taken taken slot ≡ true → 3 + slot < length chains
chain_in chains taken vacant room slot is there =
    let within = slot_in taken slot there in
    let same = is.some (omega (arith, within)) in
    omega (arith, within, same)

-- what a pool shows of a list
pub held : (chains : Chains) (taken : List Bool) (pool : Pool) (slot : ℕ) → record { slots = slots_from chains 3 taken; size = total chains } ≡ pool → IsSome (list_in pool slot) →
    (is_taken taken slot ≡ true) × (terms_in pool slot ≡ chain_of chains (3 + slot))
held chains taken pool slot seen some =
    let there = taken_is chains taken slot (subst (λ (p : Pool). IsSome (list_in p slot)) (sym seen) some) in
    (there, ap (λ (p : Pool). terms_in p slot) (sym seen) ∙ ap (λ (o : Option (List Term)). unwrap_or o []) (list_is chains taken slot there))

pub spare_seen : (chains : Chains) (taken : List Bool) (vacant : List ℕ) (room : ℕ) (pool : Pool) → record { slots = slots_from chains 3 taken; size = total chains } ≡ pool → IsPool chains taken vacant room → spare pool ≡ length (chain_of chains 0)
spare_seen chains taken vacant room pool seen is =
    let both = spare_and_used chains taken vacant room is in
    ap spare (sym seen) ∙ omega (arith, both)
