-- The forms in a pool: what writing one list makes of the states.
use Rattle.std.proofs.Common.{◌≡◌, ◌≢◌, ℕ, ◌+◌, ◌<◌, ◌≤◌, ℤ, ◌+ℤ◌, unsigned_abs, true, false, Bool, cond, not, eqb, ltb, List, [], ◌∷◌, ◌++◌, Option, Some, None, zero, suc, length, get_or, set, refl, sym, ap, ◌∙◌, subst, inl, inr, ◌⊎◌, arith}
use Rattle.std.specs.List.{sum_by}
use Rattle.std.specs.Prelude.{unwrap_or}
use Rattle.std.specs.Option.{option_map, is_none, IsSome}
use Rattle.std.proofs.lemmas.Bool.{cases_lt, cases_eq, ne_eqb}
use Rattle.std.proofs.lemmas.List.{length-append, get_or_past, get_or-set_same, get_or-set_other, get_or_default, length-set, length-map, same_lists}
use Rattle.std.proofs.lemmas.List.Sums.{sum_by-set, sum_by-cons}
use Rattle.std.proofs.lemmas.List.Elements.{All-head}
use Rattle.mp_pool.specs.declared.Term.{Term}
use Rattle.mp_pool.specs.declared.list.List.{List as SlotList}
use Rattle.std.specs.Ordering.{nat_cmp, match_ordering}
use Rattle.std.specs.declared.cmp.Ordering.TheVariants.{Less, Equal, Greater}
use Rattle.mp_pool.specs.Terms.{without, term_of, joint_term, lone_term, with_term, sum_terms}
use Rattle.mp_pool.specs.Pool.{Pool, list_in, terms_in, with_list, used, spare, spare_lists, length_in}
use Rattle.mp_forms.specs.Forms.{LinearForm}
use Rattle.mp_solver.specs.declared.forms.Entry.{Entry}
use Rattle.mp_solver.specs.States.{States}
use Rattle.mp_solver.specs.Elimination.{replaced, replaced_term, forms_in, term_count}
use Rattle.mp_solver.specs.Storage.Rows.{terms_in as terms_at}
use Rattle.mp_solver.specs.Storage.Held.{entry_form, states_of, AreHeld}
use Rattle.mp_solver.proofs.EliminationLemmas.{absent}
use Rattle.mp_solver.proofs.StateLemmas.{forms_in-with_fresh}

-- the form at a row
pub state_at : (pool : Pool) (entries : List (Option Entry)) (k : ℕ) → get_or (states_of pool entries) k None ≡ option_map (entry_form pool) (get_or entries k None)
state_at pool [] k = refl
state_at pool (e ∷ es) zero = refl
state_at pool (e ∷ es) (suc k) = state_at pool es k

-- a form in place of another, or of none
pub term_count-put : (states : States) (k : ℕ) (new : LinearForm) → k < length states → term_count (set states k (Some new)) + length (terms_at (get_or states k None)) ≡ term_count states + length new.terms
term_count-put [] k new within = absurd (omega (arith, within))
term_count-put (None ∷ ss) zero new within = let first = sum_by-cons (λ p. length p.terms) new (forms_in ss) in omega (arith, first)
term_count-put (Some p ∷ ss) zero new within =
    let first = sum_by-cons (λ p. length p.terms) new (forms_in ss) in
    let was = sum_by-cons (λ p. length p.terms) p (forms_in ss) in
    omega (arith, first, was)
term_count-put (None ∷ ss) (suc k) new within = term_count-put ss k new (omega (arith, within))
term_count-put (Some p ∷ ss) (suc k) new within =
    let first = sum_by-cons (λ p. length p.terms) p (forms_in ss) in
    let now = sum_by-cons (λ p. length p.terms) p (forms_in (set ss k (Some new))) in
    let rest = term_count-put ss k new (omega (arith, within)) in
    omega (arith, first, now, rest)

get_or-more : {X : Type 0} (xs : List X) (d : X) (i : ℕ) → get_or (xs ++ d ∷ []) i d ≡ get_or xs i d
get_or-more [] d zero = refl
get_or-more [] d (suc i) = refl
get_or-more (x ∷ xs) d zero = refl
get_or-more (x ∷ xs) d (suc i) = get_or-more xs d i

states-more : (pool : Pool) (entries : List (Option Entry)) → states_of pool (entries ++ None ∷ []) ≡ states_of pool entries ++ None ∷ []
states-more pool [] = refl
states-more pool (e ∷ es) = ap (λ ss. option_map (entry_form pool) e ∷ ss) (states-more pool es)

-- one more row without a form
pub AreHeld-more : (pool : Pool) (entries : List (Option Entry)) → AreHeld pool entries → AreHeld pool (entries ++ None ∷ [])
AreHeld-more pool entries held = record {
  there = λ k entry at. held.there k entry (sym (get_or-more entries None k) ∙ at);
  apart = λ j k r s at_j at_k. held.apart j k r s (sym (get_or-more entries None j) ∙ at_j) (sym (get_or-more entries None k) ∙ at_k);
  used_is = held.used_is ∙ sym (ap term_count (states-more pool entries) ∙ ap (sum_by (λ p. length p.terms)) (forms_in-with_fresh (states_of pool entries)));
  within = held.within;
}

-- a slot with a list is one of the slots
pub slot_within : (pool : Pool) (slot : ℕ) → IsSome (list_in pool slot) → slot < length pool.slots
slot_within pool slot some =
    elim (cases_lt slot (length pool.slots)) [
      | inl within ↦ within
      | inr past ↦ let none = subst (λ (x : Option (List Term)). IsSome x) (get_or_past pool.slots slot None past) some in absurd cc
    ]

length_held : (list : Option (List Term)) → length_in list ≡ length (unwrap_or list [])
length_held None = refl
length_held (Some ts) = refl

-- a list is written
pub record IsPut (pool new : Pool) (slot : ℕ) (ts : List Term) : Type 0 where
  pub here : list_in new slot ≡ Some ts
  pub others : (other : ℕ) → other ≢ slot → list_in new other ≡ list_in pool other
  pub used_is : used new + length (terms_in pool slot) ≡ used pool + length ts
  pub size : new.size ≡ pool.size
  pub slots : length new.slots ≡ length pool.slots

pub put : (pool : Pool) (slot : ℕ) (ts : List Term) → slot < length pool.slots → IsPut pool (with_list pool slot ts) slot ts
put pool slot ts within =
    let sum = sum_by-set length_in pool.slots slot (Some ts) None within in
    let was = length_held (list_in pool slot) in
    record {
      here = get_or-set_same pool.slots slot (Some ts) None within;
      others = λ other apart. get_or-set_other pool.slots slot other (Some ts) None apart;
      used_is = omega (arith, sum, was);
      size = refl;
      slots = length-set pool.slots slot (Some ts);
    }

pub put_again : (pool mid new : Pool) (slot : ℕ) (ts us : List Term) → IsPut pool mid slot ts → IsPut mid new slot us → IsPut pool new slot us
put_again pool mid new slot ts us one two =
    let here = ap (λ (x : Option (List Term)). length_in x) one.here ∙ refl in
    let was = length_held (list_in mid slot) in
    record {
      here = two.here;
      others = λ other apart. two.others other apart ∙ one.others other apart;
      used_is = omega (arith, one.used_is, two.used_is, here, was);
      size = two.size ∙ one.size;
      slots = two.slots ∙ one.slots;
    }

-- the term of an unknown that does not occur
pub without-none : (serial : ℕ) (ts : List Term) → term_of serial ts ≡ None → without serial ts ≡ ts
without-none serial [] none = refl
without-none serial (t ∷ ts) none =
    let each = absent serial (t ∷ ts) none in
    let other = All-head (λ t. t.serial ≢ serial) t ts each in
    let rest_none : term_of serial ts ≡ None = sym (ap (λ (b : Bool). cond b (Some t) (term_of serial ts)) (ne_eqb t.serial serial other)) ∙ none in
    ap (λ (b : Bool). cond (not b) (t ∷ without serial ts) (without serial ts)) (ne_eqb t.serial serial other)
    ∙ ap (λ (us : List Term). t ∷ us) (without-none serial ts rest_none)

-- one row has another form, whose list was written; no other form has that list
module _ (pool new : Pool) (entries : List (Option Entry)) (held : AreHeld pool entries) (k : ℕ) (within : k < length entries) (entry : Entry) (ts : List Term) (is : IsPut pool new entry.list.slot ts)
    (alone : (j : ℕ) (other : Entry) → get_or entries j None ≡ Some other → other.list.slot ≡ entry.list.slot → j ≡ k) (was : length (terms_in pool entry.list.slot) ≡ length (terms_at (get_or (states_of pool entries) k None))) where
  abbrev q : LinearForm
  q = record { constant = entry.constant; terms = ts }

  abbrev after : List (Option Entry)
  after = set entries k (Some entry)

  form_here : entry_form new entry ≡ q
  form_here = ap (λ (x : Option (List Term)). record { constant = entry.constant; terms = unwrap_or x [] }) is.here

  same_by : (j : ℕ) → j ≢ k → (e : Option Entry) → get_or entries j None ≡ e → option_map (entry_form new) e ≡ option_map (entry_form pool) e
  same_by j apart None at = refl
  same_by j apart (Some e) at =
      ap (λ (x : Option (List Term)). Some (record { constant = e.constant; terms = unwrap_or x [] })) (is.others e.list.slot (λ same. apart (alone j e at same)))

  long : length (states_of new after) ≡ length entries
  long = length-map after (option_map (entry_form new)) ∙ length-set entries k (Some entry)

  long_before : length (states_of pool entries) ≡ length entries
  long_before = length-map entries (option_map (entry_form pool))

  pub states-put : states_of new after ≡ set (states_of pool entries) k (Some q)
  states-put = same_lists _ _ (long ∙ sym (length-set (states_of pool entries) k (Some q) ∙ long_before))
      (λ j d h.
      let in_states : k < length (states_of pool entries) = omega (arith, within, long_before) in
      sym (get_or_default (states_of new after) j None d h)
      ∙ state_at new after j
      ∙ elim (cases_eq j k) [
        | inl same ↦
            ap (option_map (entry_form new)) (ap (λ (x : ℕ). get_or after x None) same ∙ get_or-set_same entries k (Some entry) None within)
            ∙ ap (λ (p : LinearForm). Some p) form_here
            ∙ sym (ap (λ (x : ℕ). get_or (set (states_of pool entries) k (Some q)) x None) same ∙ get_or-set_same (states_of pool entries) k (Some q) None in_states)
        | inr apart ↦
            ap (option_map (entry_form new)) (get_or-set_other entries k j (Some entry) None apart)
            ∙ same_by j apart (get_or entries j None) refl
            ∙ sym (state_at pool entries j)
            ∙ sym (get_or-set_other (states_of pool entries) k j (Some q) None apart)
      ]
      ∙ get_or_default (set (states_of pool entries) k (Some q)) j None d (omega (arith, h, long, length-set (states_of pool entries) k (Some q), long_before)))

  count-put : term_count (states_of new after) + length (terms_in pool entry.list.slot) ≡ term_count (states_of pool entries) + length ts
  count-put =
      let in_states : k < length (states_of pool entries) = omega (arith, within, long_before) in
      let counted = term_count-put (states_of pool entries) k q in_states in
      let same = ap term_count states-put in
      omega (arith, counted, same, was)

  there_by : (j : ℕ) (e : Entry) → get_or after j None ≡ Some e → IsSome (list_in new e.list.slot)
  there_by j e at =
      elim (cases_eq j k) [
        | inl same ↦
            let here : Some entry ≡ Some e = sym (ap (λ (x : ℕ). get_or after x None) same ∙ get_or-set_same entries k (Some entry) None within) ∙ at in
            let is_it : entry ≡ e = cc in
            subst (λ (x : Entry). IsSome (list_in new x.list.slot)) is_it (subst (λ (x : Option (List Term)). IsSome x) (sym is.here) refl)
        | inr apart ↦
            let before : get_or entries j None ≡ Some e = sym (get_or-set_other entries k j (Some entry) None apart) ∙ at in
            subst (λ (x : Option (List Term)). IsSome x) (sym (is.others e.list.slot (λ same. apart (alone j e before same)))) (held.there j e before)
      ]

  entry_by : (j : ℕ) (e : Entry) → get_or after j None ≡ Some e → ((j ≡ k) × (entry ≡ e)) ⊎ ((j ≢ k) × (get_or entries j None ≡ Some e))
  entry_by j e at =
      elim (cases_eq j k) [
        | inl same ↦
            let here : Some entry ≡ Some e = sym (ap (λ (x : ℕ). get_or after x None) same ∙ get_or-set_same entries k (Some entry) None within) ∙ at in
            inl (same, cc)
        | inr apart ↦ inr (apart, sym (get_or-set_other entries k j (Some entry) None apart) ∙ at)
      ]

  apart_by : (i j : ℕ) (r s : Entry) → get_or after i None ≡ Some r → get_or after j None ≡ Some s → r.list.slot ≡ s.list.slot → i ≡ j
  apart_by i j r s at_i at_j same =
      elim (entry_by i r at_i) [
        | inl here ↦
            elim (entry_by j s at_j) [
              | inl there ↦ here.0 ∙ sym there.0
              | inr there ↦ absurd (there.0 (alone j s there.1 (sym same ∙ ap (λ (x : Entry). x.list.slot) (sym here.1))))
            ]
        | inr here ↦
            elim (entry_by j s at_j) [
              | inl there ↦ absurd (here.0 (alone i r here.1 (same ∙ ap (λ (x : Entry). x.list.slot) (sym there.1))))
              | inr there ↦ held.apart i j r s here.1 there.1 same
            ]
      ]

  pub AreHeld-put : length ts ≤ spare pool + length (terms_in pool entry.list.slot) → AreHeld new after
  AreHeld-put room = record {
    there = there_by;
    apart = apart_by;
    used_is = omega (arith, is.used_is, count-put, held.used_is);
    within = omega (arith, is.used_is, is.size, held.within, room);
  }

  pub cells-put : length ts ≤ spare pool + length (terms_in pool entry.list.slot) → spare new + term_count (states_of new after) ≡ spare pool + term_count (states_of pool entries)
  cells-put room = omega (arith, is.used_is, is.size, count-put, held.used_is, held.within, room)

-- a new form
module _ (pool made new : Pool) (entries : List (Option Entry)) (held : AreHeld pool entries) (k : ℕ) (within : k < length (states_of pool entries)) (none : get_or (states_of pool entries) k None ≡ None) (entry : Entry) (ts : List Term)
    (free : list_in pool entry.list.slot ≡ None) (slot_in : entry.list.slot < length pool.slots) (made_is : made ≡ with_list pool entry.list.slot [])
    (new_is : new ≡ with_list made entry.list.slot (terms_in made entry.list.slot ++ ts)) (room : length ts ≤ spare pool) where
  emptied : IsPut pool made entry.list.slot []
  emptied = subst (λ (p : Pool). IsPut pool p entry.list.slot []) (sym made_is) (put pool entry.list.slot [] slot_in)

  filled : IsPut made new entry.list.slot ts
  filled =
      let empty : terms_in made entry.list.slot ≡ [] = ap (λ (x : Option (List Term)). unwrap_or x []) emptied.here in
      let is : new ≡ with_list made entry.list.slot ts = new_is ∙ ap (λ (us : List Term). with_list made entry.list.slot (us ++ ts)) empty in
      subst (λ (p : Pool). IsPut made p entry.list.slot ts) (sym is) (put made entry.list.slot ts (omega (arith, slot_in, emptied.slots)))

  inserted : IsPut pool new entry.list.slot ts
  inserted = put_again pool made new entry.list.slot [] ts emptied filled

  row_in : k < length entries
  row_in = omega (arith, within, length-map entries (option_map (entry_form pool)))

  nowhere : (j : ℕ) (other : Entry) → get_or entries j None ≡ Some other → other.list.slot ≡ entry.list.slot → j ≡ k
  nowhere j other at same =
      let some = held.there j other at in
      let here = subst (λ (x : Option (List Term)). IsSome x) (ap (list_in pool) same ∙ free) some in
      absurd cc

  nothing : length (terms_in pool entry.list.slot) ≡ length (terms_at (get_or (states_of pool entries) k None))
  nothing = ap (λ (x : Option (List Term)). length (unwrap_or x [])) free ∙ sym (ap (λ (x : Option LinearForm). length (terms_at x)) none)

  enough : length ts ≤ spare pool + length (terms_in pool entry.list.slot)
  enough = omega (arith, room)

  pub AreHeld-insert : AreHeld new (set entries k (Some entry))
  AreHeld-insert = AreHeld-put pool new entries held k row_in entry ts inserted nowhere nothing enough

  pub states-insert : states_of new (set entries k (Some entry)) ≡ set (states_of pool entries) k (Some (record { constant = entry.constant; terms = ts }))
  states-insert = states-put pool new entries held k row_in entry ts inserted nowhere nothing

  pub cells-insert : spare new + term_count (states_of new (set entries k (Some entry))) ≡ spare pool + term_count (states_of pool entries)
  cells-insert = cells-put pool new entries held k row_in entry ts inserted nowhere nothing enough

-- a form in place of another
module _ (pool mid new : Pool) (entries : List (Option Entry)) (held : AreHeld pool entries) (k : ℕ) (old entry : Entry) (at : get_or entries k None ≡ Some old) (same_list : entry.list ≡ old.list) (ts us : List Term)
    (mid_is : mid ≡ with_list pool old.list.slot ts) (new_is : new ≡ with_list mid old.list.slot us) (room : length us ≤ spare pool + length (terms_in pool old.list.slot)) where
  slot_same : entry.list.slot ≡ old.list.slot
  slot_same = ap (λ (l : SlotList). l.slot) same_list

  slot_here : old.list.slot < length pool.slots
  slot_here = slot_within pool old.list.slot (held.there k old at)

  mid_put : IsPut pool mid old.list.slot ts
  mid_put = subst (λ (p : Pool). IsPut pool p old.list.slot ts) (sym mid_is) (put pool old.list.slot ts slot_here)

  rewritten : IsPut pool new entry.list.slot us
  rewritten =
      let two : IsPut mid new old.list.slot us = subst (λ (p : Pool). IsPut mid p old.list.slot us) (sym new_is) (put mid old.list.slot us (omega (arith, slot_here, mid_put.slots))) in
      subst (λ (x : ℕ). IsPut pool new x us) (sym slot_same) (put_again pool mid new old.list.slot ts us mid_put two)

  row_here : k < length entries
  row_here =
      elim (cases_lt k (length entries)) [ inl inside ↦ inside | inr past ↦ let none = sym (get_or_past entries k None past) ∙ at in absurd cc ]

  only_here : (j : ℕ) (other : Entry) → get_or entries j None ≡ Some other → other.list.slot ≡ entry.list.slot → j ≡ k
  only_here j other at_j same = held.apart j k other old at_j at (same ∙ slot_same)

  was_here : length (terms_in pool entry.list.slot) ≡ length (terms_at (get_or (states_of pool entries) k None))
  was_here = ap (λ (x : ℕ). length (terms_in pool x)) slot_same ∙ sym (ap (λ (x : Option LinearForm). length (terms_at x)) (state_at pool entries k ∙ ap (option_map (entry_form pool)) at))

  enough_here : length us ≤ spare pool + length (terms_in pool entry.list.slot)
  enough_here = let same = ap (λ (x : ℕ). length (terms_in pool x)) slot_same in omega (arith, room, same)

  pub AreHeld-replace : AreHeld new (set entries k (Some entry))
  AreHeld-replace = AreHeld-put pool new entries held k row_here entry us rewritten only_here was_here enough_here

  pub states-replace : states_of new (set entries k (Some entry)) ≡ set (states_of pool entries) k (Some (record { constant = entry.constant; terms = us }))
  states-replace = states-put pool new entries held k row_here entry us rewritten only_here was_here

  pub cells-replace : spare new + term_count (states_of new (set entries k (Some entry))) ≡ spare pool + term_count (states_of pool entries)
  cells-replace = cells-put pool new entries held k row_here entry us rewritten only_here was_here enough_here

set-get : {X : Type 0} (xs : List X) (d : X) (k : ℕ) (e : X) → get_or xs k d ≡ e → set xs k e ≡ xs
set-get [] d k e at = refl
set-get (x ∷ xs) d zero e at = ap (λ y. y ∷ xs) (sym at)
set-get (x ∷ xs) d (suc k) e at = ap (λ ys. x ∷ ys) (set-get xs d k e at)

pub set-state : (states : States) (k : ℕ) (e : Option LinearForm) → get_or states k None ≡ e → set states k e ≡ states
set-state states k e at = set-get states None k e at

some_is : (x : Option (List Term)) → IsSome x → x ≡ Some (unwrap_or x [])
some_is None some = absurd cc
some_is (Some ts) some = refl

-- a list that is written as it was
pub put_same : (pool : Pool) (slot : ℕ) → IsSome (list_in pool slot) → with_list pool slot (terms_in pool slot) ≡ pool
put_same pool slot some = ap (λ (xs : List (Option (List Term))). record { slots = xs; size = pool.size }) (set-get pool.slots None slot (Some (terms_in pool slot)) (some_is (list_in pool slot) some))

pub terms_put : (pool mid : Pool) (slot : ℕ) (ts : List Term) → IsSome (list_in pool slot) → mid ≡ with_list pool slot ts → terms_in mid slot ≡ ts
terms_put pool mid slot ts some is = ap (λ (p : Pool). terms_in p slot) is ∙ ap (λ (x : Option (List Term)). unwrap_or x []) (put pool slot ts (slot_within pool slot some)).here

-- the spare cells, once terms were taken out
pub spare_put : (pool mid : Pool) (slot : ℕ) (ts : List Term) → IsSome (list_in pool slot) → mid ≡ with_list pool slot ts → length ts ≤ length (terms_in pool slot) → spare pool ≤ spare mid
spare_put pool mid slot ts some is fewer =
    let changed = put pool slot ts (slot_within pool slot some) in
    let same = ap spare is in
    omega (arith, changed.used_is, changed.size, fewer, same)

abbrev free_one : Option (List Term) → ℕ
free_one s = cond (is_none s) 1 0

counts_none : (x : Option (List Term)) → IsSome x → free_one x ≡ 0
counts_none None some = absurd cc
counts_none (Some ts) some = refl

-- the free slots, once a list was written
pub lists_put : (pool mid : Pool) (slot : ℕ) (ts : List Term) → IsSome (list_in pool slot) → mid ≡ with_list pool slot ts → spare_lists mid ≡ spare_lists pool
lists_put pool mid slot ts some is =
    let sum = sum_by-set free_one pool.slots slot (Some ts) None (slot_within pool slot some) in
    let was = counts_none (list_in pool slot) some in
    ap spare_lists is ∙ omega (arith, sum, was)

pub still_there : (pool mid : Pool) (slot : ℕ) (ts : List Term) → IsSome (list_in pool slot) → mid ≡ with_list pool slot ts → IsSome (list_in mid slot)
still_there pool mid slot ts some is = subst (λ (p : Pool). IsSome (list_in p slot)) (sym is) (subst (λ (x : Option (List Term)). IsSome x) (sym (put pool slot ts (slot_within pool slot some)).here) refl)

-- the unknown does not occur: nothing was changed
pub untouched : (pool mid : Pool) (slot serial : ℕ) → IsSome (list_in pool slot) → mid ≡ with_list pool slot (without serial (terms_in pool slot)) → term_of serial (terms_in pool slot) ≡ None → mid ≡ pool
untouched pool mid slot serial some is none = is ∙ ap (with_list pool slot) (without-none serial (terms_in pool slot) none) ∙ put_same pool slot some

pub unchanged : (states : States) (row serial : ℕ) (new p : LinearForm) → get_or states row None ≡ Some p → term_of serial p.terms ≡ None → set states row (option_map (replaced serial new) (get_or states row None)) ≡ states
unchanged states row serial new p at none =
    ap (λ s. set states row (option_map (replaced serial new) s)) at
    ∙ ap (λ (q : LinearForm). set states row (Some q)) (ap (replaced_term serial new p) none)
    ∙ set-state states row (Some p) at

pub form_at : (pool : Pool) (entries : List (Option Entry)) (states : States) (row : ℕ) (entry : Entry) → states_of pool entries ≡ states → get_or entries row None ≡ Some entry → get_or states row None ≡ Some (entry_form pool entry)
form_at pool entries states row entry same at = ap (λ ss. get_or ss row None) (sym same) ∙ state_at pool entries row ∙ ap (option_map (entry_form pool)) at

length-term_from : (b : Bool) (t : Term) → length (cond b [] (t ∷ [])) ≤ 1
length-term_from true t = omega arith
length-term_from false t = omega arith

module _ (change : ℤ → ℤ) where
  length-with_term : (q : Term) (ts : List Term) → length (with_term change q ts) ≤ 1 + length ts
  unfolding with_term
  length-with_term q [] = length-term_from _ _
  length-with_term q (t ∷ ts) =
      let lone = lone_term q.serial (change q.coefficient) in
      let joint = joint_term t.serial (t.coefficient +ℤ change q.coefficient) in
      elim (nat_cmp t.serial q.serial) as (λ o. length (match_ordering o (lone ++ t ∷ ts) (joint ++ ts) (t ∷ with_term change q ts)) ≤ 1 + suc (length ts)) [
        | Less ↦ omega (arith, length-append lone (t ∷ ts), length-term_from (ltb (unsigned_abs (change q.coefficient)) 1343) (record { serial = q.serial; coefficient = change q.coefficient }))
        | Equal ↦ omega (arith, length-append joint ts, length-term_from (ltb (unsigned_abs (t.coefficient +ℤ change q.coefficient)) 2685) (record { serial = t.serial; coefficient = t.coefficient +ℤ change q.coefficient }))
        | Greater ↦ omega (arith, length-with_term q ts)
      ]

  pub length-sum_terms : (ps qs : List Term) → length (sum_terms change ps qs) ≤ length ps + length qs
  unfolding sum_terms
  length-sum_terms ps [] = omega arith
  length-sum_terms ps (q ∷ qs) = omega (arith, length-with_term q (sum_terms change ps qs), length-sum_terms ps qs)

length_cond : (b : Bool) (t : Term) (rest : List Term) (n : ℕ) → length rest ≤ n → length (cond b (t ∷ rest) rest) ≤ suc n
length_cond true t rest n le = omega (arith, le)
length_cond false t rest n le = omega (arith, le)

pub length-without : (serial : ℕ) (ts : List Term) → length (without serial ts) ≤ length ts
length-without serial [] = omega arith
length-without serial (t ∷ ts) = length_cond (not (eqb t.serial serial)) t (without serial ts) (length ts) (length-without serial ts)
