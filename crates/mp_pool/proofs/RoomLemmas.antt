-- More cells and chains of a pool.
use Rattle.std.proofs.Common.{length-set, ◌≡◌, ℕ, suc, ◌+◌, ◌<◌, ◌≤◌, ◌^◌, max, Bool, true, false, not, cond, List, [], ◌∷◌, ◌++◌, Option, Some, None, length, get_or, set, refl, sym, ap, ◌∙◌, subst, arith, inl, inr}
use Rattle.std.proofs.lemmas.Bool.{cases_lt}
use Rattle.std.proofs.lemmas.List.{length-append, get_or_past}
use Rattle.std.proofs.lemmas.List.Sums.{sum_by-set, sum_by-append}
use Rattle.std.proofs.Math.ListN.{get_or-append}
use Rattle.std.proofs.Math.Seq.{get_or-append_seam}
use Rattle.mp_pool.specs.declared.Term.{Term}
use Rattle.mp_pool.specs.Terms.{AreTerms}
use Rattle.std.specs.Option.{is_none}
use Rattle.mp_pool.specs.Pool.{Pool, list_in, length_in, used, spare_lists, IsGrown}
use Rattle.mp_pool.specs.Storage.Chains.{chain_of, no_term}
use Rattle.mp_pool.specs.Storage.Frames.{OnlyTwo}
use Rattle.mp_pool.specs.Storage.Slots.{slots_from, IsPool}
use Rattle.mp_pool.proofs.Growing.{get_or-default}
use Rattle.mp_pool.proofs.PoolLemmas.{total, total_same, AreTerms-none}

abbrev Chains : Type 0
Chains = List (List Term)

-- one more chain changes nothing of the others
pub chain_of-more : (chains more : Chains) (k : ℕ) → more ≡ chains ++ [] ∷ [] → chain_of more k ≡ chain_of chains k
chain_of-more chains more k is = ap (λ (v : Chains). chain_of v k) is ∙ get_or-default chains [] k

pub length-more : (chains more : Chains) → more ≡ chains ++ [] ∷ [] → length more ≡ length chains + 1
length-more chains more is = ap length is ∙ length-append chains ([] ∷ [])

pub total-more : (chains more : Chains) → more ≡ chains ++ [] ∷ [] → total more ≡ total chains
total-more chains more is = let sum = sum_by-append (λ (ts : List Term). length ts) chains ([] ∷ []) in let first = ap total is in omega (arith, sum, first)

-- a cell that was loaded, and is spare then
module _ (old mid new : Chains) (within : 3 ≤ length old) (none : chain_of old 1 ≡ []) (loaded : mid ≡ set old 1 (no_term ∷ [])) (only : OnlyTwo mid new 1 0) (cells : length (chain_of new 1) + length (chain_of new 0) ≡ length (chain_of mid 1) + length (chain_of mid 0)) where
  mid_length : length mid ≡ length old
  mid_length = ap length loaded ∙ simp length-set refl

  pub total_loaded : total new ≡ total old + 1
  total_loaded =
      let h = sum_by-set (λ (ts : List Term). length ts) old 1 (no_term ∷ []) [] (omega (arith, within)) in
      let first = ap total loaded in
      let empty = ap length none in
      let same = total_same mid new 1 0 (omega (arith, within, mid_length)) (omega (arith, within, mid_length)) (λ e. omega (arith, e)) only cells in
      omega (arith, h, first, empty, same)

-- slots whose chains are the same
pub slots-same : (old new : Chains) (k : ℕ) (taken : List Bool) → 3 ≤ k → ((j : ℕ) → 3 ≤ j → chain_of new j ≡ chain_of old j) → slots_from new k taken ≡ slots_from old k taken
slots-same old new k [] le same = refl
slots-same old new k (t ∷ ts) le same =
    ap (λ (c : List Term). cond t (Some c) None ∷ slots_from new (suc k) ts) (same k le)
    ∙ ap (λ (s : List (Option (List Term))). cond t (Some (chain_of old k)) None ∷ s) (slots-same old new (suc k) ts (omega (arith, le)) same)

module _ (old new : Chains) (taken : List Bool) (vacant : List ℕ) (room : ℕ) (is : IsPool old taken vacant room) (longer : length old ≤ length new) (shorter : length new ≤ max (length old) 3) (same : (k : ℕ) → 1 ≤ k → chain_of new k ≡ chain_of old k) where
  -- the same lists, with more spare cells
  pub IsPool-grown : IsPool new taken vacant room
  IsPool-grown = record {
    some = λ more. let three = is.some more in omega (arith, three, longer, shorter);
    none = let none = is.none in omega (arith, none, shorter);
    done = same 1 (omega arith) ∙ is.done;
    seen = same 2 (omega arith) ∙ is.seen;
    terms = λ slot within. subst AreTerms (sym (same (3 + slot) (omega arith))) (is.terms slot within);
    empty = λ slot free. same (3 + slot) (omega arith) ∙ is.empty slot free;
    vacancies = is.vacancies;
    enough = is.enough;
    few = is.few;
  }

  pub slots-grown : slots_from new 3 taken ≡ slots_from old 3 taken
  slots-grown = slots-same old new 3 taken (omega arith) (λ j le. same j (omega (arith, le)))

  pub view-grown : (pool : Pool) → record { slots = slots_from old 3 taken; size = total old } ≡ pool → record { slots = slots_from new 3 taken; size = total new } ≡ record pool { size = total new }
  view-grown pool seen =
      ap (λ (slots : List (Option (List Term))). record { slots = slots; size = total new }) slots-grown
      ∙ ap (λ (p : Pool). record p { size = total new }) seen

module _ (old new : Chains) (taken : List Bool) (vacant : List ℕ) (room : ℕ) (is : IsPool old taken vacant room) (longer : length old ≤ length new) (shorter : length new ≤ max (length old) 3) (same : (k : ℕ) → 1 ≤ k → chain_of new k ≡ chain_of old k) (pool : Pool) (seen : record { slots = slots_from old 3 taken; size = total old } ≡ pool) where
  pub view-more : total new ≡ total old + 1 → record { slots = slots_from new 3 taken; size = total new } ≡ record pool { size = pool.size + 1 }
  view-more one =
      view-grown old new taken vacant room is longer shorter same pool seen
      ∙ ap (λ (n : ℕ). record pool { size = n }) (one ∙ ap (λ (p : Pool). p.size + 1) seen)

  pub view-same : total new ≡ total old → record { slots = slots_from new 3 taken; size = total new } ≡ pool
  view-same none =
      view-grown old new taken vacant room is longer shorter same pool seen
      ∙ ap (λ (n : ℕ). record pool { size = n }) (none ∙ ap (λ (p : Pool). p.size) seen)

slots-more : (chains : Chains) (k : ℕ) (taken : List Bool) → slots_from chains k (taken ++ false ∷ []) ≡ slots_from chains k taken ++ None ∷ []
slots-more chains k [] = refl
slots-more chains k (t ∷ ts) = ap (λ (s : List (Option (List Term))). cond t (Some (chain_of chains k)) None ∷ s) (slots-more chains (suc k) ts)

-- one more slot, which is free
module _ (old mid new : Chains) (taken : List Bool) (vacant : List ℕ) (room : ℕ) (is : IsPool old taken vacant room) (three : 3 ≤ length mid) (longer : length old ≤ length mid) (shorter : length mid ≤ max (length old) 3) (same : (k : ℕ) → chain_of mid k ≡ chain_of old k) (more : new ≡ mid ++ [] ∷ []) where
  same_chain : (k : ℕ) → chain_of new k ≡ chain_of old k
  same_chain k = chain_of-more mid new k more ∙ same k

  long : length new ≡ 3 + length taken + 1
  long =
      let one = length-more mid new more in
      elim (cases_lt 0 (length taken)) [
        | inl some ↦ let old_is = is.some some in omega (arith, one, old_is, longer, shorter)
        | inr none ↦ let most = is.none in omega (arith, one, none, most, three, shorter)
      ]

  long_taken : length (taken ++ false ∷ []) ≡ length taken + 1
  long_taken = length-append taken (false ∷ [])

  long_vacant : length (vacant ++ length taken ∷ []) ≡ length vacant + 1
  long_vacant = length-append vacant (length taken ∷ [])

  old_at : (i d : ℕ) → i < length vacant → get_or (vacant ++ length taken ∷ []) i d ≡ get_or vacant i d
  old_at i d i_in = get_or-append vacant (length taken ∷ []) d i i_in

  new_at : (d : ℕ) → get_or (vacant ++ length taken ∷ []) (length vacant) d ≡ length taken
  new_at d = get_or-append_seam vacant (length taken) [] d

  below : (i d : ℕ) → i < length vacant → get_or vacant i d < length taken
  below i d i_in =
      elim (cases_lt (get_or vacant i d) (length taken)) [
        | inl within ↦ within
        | inr past ↦ let free = is.vacancies.free i d i_in in let none = get_or_past taken (get_or vacant i d) true past in let both = sym free ∙ none in absurd cc
      ]

  pub IsPool-listed : (now : ℕ) → length taken + 1 ≤ now → length taken + 1 ≤ 2 ^ 32 → IsPool new (taken ++ false ∷ []) (vacant ++ length taken ∷ []) now
  IsPool-listed now enough few = record {
    some = λ _. omega (arith, long, long_taken);
    none = omega (arith, long, long_taken);
    done = same_chain 1 ∙ is.done;
    seen = same_chain 2 ∙ is.seen;
    terms = λ slot within.
        elim (cases_lt slot (length taken)) [
          | inl before ↦ subst AreTerms (sym (same_chain (3 + slot))) (is.terms slot before)
          | inr past ↦ subst AreTerms (sym (same_chain (3 + slot) ∙ is.empty slot (get_or_past taken slot false past))) AreTerms-none
        ];
    empty = λ slot free. same_chain (3 + slot) ∙ is.empty slot (sym (get_or-default taken false slot) ∙ free);
    vacancies = record {
      free = λ i d i_in.
          elim (cases_lt i (length vacant)) [
            | inl before ↦
                ap (λ (k : ℕ). get_or (taken ++ false ∷ []) k true) (old_at i d before)
                ∙ get_or-append taken (false ∷ []) true (get_or vacant i d) (below i d before) ∙ is.vacancies.free i d before
            | inr past ↦
                let at : i ≡ length vacant = omega (arith, past, i_in, long_vacant) in
                ap (λ (k : ℕ). get_or (taken ++ false ∷ []) k true) (ap (λ (x : ℕ). get_or (vacant ++ length taken ∷ []) x d) at ∙ new_at d)
                ∙ get_or-append_seam taken false [] true
          ];
      apart = λ i j d i_in j_in e.
          elim (cases_lt i (length vacant)) [
            | inl i_before ↦
                elim (cases_lt j (length vacant)) [
                  | inl j_before ↦ is.vacancies.apart i j d i_before j_before (sym (old_at i d i_before) ∙ e ∙ old_at j d j_before)
                  | inr j_past ↦
                      let at : j ≡ length vacant = omega (arith, j_past, j_in, long_vacant) in
                      let there = sym (old_at i d i_before) ∙ e ∙ ap (λ (x : ℕ). get_or (vacant ++ length taken ∷ []) x d) at ∙ new_at d in
                      absurd (omega (arith, there, below i d i_before))
                ]
            | inr i_past ↦
                let i_at : i ≡ length vacant = omega (arith, i_past, i_in, long_vacant) in
                elim (cases_lt j (length vacant)) [
                  | inl j_before ↦
                      let there = sym (old_at j d j_before) ∙ sym e ∙ ap (λ (x : ℕ). get_or (vacant ++ length taken ∷ []) x d) i_at ∙ new_at d in
                      absurd (omega (arith, there, below j d j_before))
                  | inr j_past ↦ omega (arith, i_at, j_past, j_in, long_vacant)
                ]
          ];
      count = let sum = sum_by-append (λ (b : Bool). cond (not b) 1 0) taken (false ∷ []) in let count = is.vacancies.count in omega (arith, sum, count, long_vacant);
    };
    enough = omega (arith, enough, long_taken);
    few = omega (arith, few, long_taken);
  }

  pub view-listed : total mid ≡ total old → (pool : Pool) → record { slots = slots_from old 3 taken; size = total old } ≡ pool → record { slots = slots_from new 3 (taken ++ false ∷ []); size = total new } ≡ record pool { slots = pool.slots ++ None ∷ [] }
  view-listed cells pool seen =
      ap (λ (slots : List (Option (List Term))). record { slots = slots; size = total new })
      (slots-more new 3 taken ∙ ap (λ (s : List (Option (List Term))). s ++ None ∷ []) (slots-same old new 3 taken (omega arith) (λ j le. same_chain j)))
      ∙ ap (λ (n : ℕ). record { slots = slots_from old 3 taken ++ None ∷ []; size = n }) (total-more mid new more ∙ cells)
      ∙ ap (λ (p : Pool). record p { slots = p.slots ++ None ∷ [] }) seen

-- how a pool grows
pub IsGrown-same : (old : Pool) → IsGrown old old
IsGrown-same old = record { lists = λ slot. refl; slots = omega arith; size = omega arith; used = refl; free = refl }

pub IsGrown-cell : (old now next : Pool) → IsGrown old now → next ≡ record now { size = now.size + 1 } → IsGrown old next
IsGrown-cell old now next grown is = rw is (record { lists = grown.lists; slots = grown.slots; size = let size = grown.size in omega (arith, size); used = grown.used; free = grown.free })

pub used-listed : (now next : Pool) → next ≡ record now { slots = now.slots ++ None ∷ [] } → (used next ≡ used now) × (spare_lists next ≡ spare_lists now + 1) × (length next.slots ≡ length now.slots + 1)
used-listed now next is =
    let sum = sum_by-append length_in now.slots (None ∷ []) in
    let count = sum_by-append (λ (s : Option (List Term)). cond (is_none s) 1 0) now.slots (None ∷ []) in
    let long = length-append now.slots (None ∷ []) in
    rw is (omega (arith, sum), omega (arith, count), long)

pub IsGrown-list : (old now next : Pool) → IsGrown old now → next ≡ record now { slots = now.slots ++ None ∷ [] } → IsGrown old next
IsGrown-list old now next grown is =
    let more = used-listed now next is in
    let free = grown.free in
    let slots = grown.slots in
    let size = grown.size in
    let same = ap (λ (p : Pool). p.size) is in
    record {
      lists = λ slot. ap (λ (p : Pool). list_in p slot) is ∙ get_or-default now.slots None slot ∙ grown.lists slot;
      slots = omega (arith, slots, more.2);
      size = omega (arith, size, same);
      used = more.0 ∙ grown.used;
      free = omega (arith, free, more.1, more.2);
    }
