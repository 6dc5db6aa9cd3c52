-- A pool after one of its lists has changed.
use Rattle.std.proofs.Common.{◌≡◌, ◌≢◌, ℕ, zero, suc, ◌+◌, ◌<◌, ◌≤◌, Bool, true, false, not, cond, List, [], ◌∷◌, ◌++◌, Option, Some, None, length, get_or, set, refl, sym, ap, ◌∙◌, subst, arith, inl, inr}
use Rattle.std.specs.List.{sum_by}
use Rattle.std.proofs.lemmas.Bool.{cases_eq, cases_lt}
use Rattle.std.proofs.lemmas.List.{length-append, get_or_past, get_or-set_same, get_or-set_other, get_or_default, length-set, same_lists}
use Rattle.std.proofs.lemmas.List.Elements.{All-nil}
use Rattle.std.proofs.lemmas.List.Sums.{sum_by-set, count_by-le-length}
use Rattle.std.proofs.Math.ListN.{get_or-append}
use Rattle.std.proofs.Math.Seq.{get_or-append_seam}
use Rattle.mp_pool.specs.declared.Term.{Term}
use Rattle.mp_pool.specs.Terms.{AreTerms, IsCoefficient}
use Rattle.mp_pool.specs.Pool.{Pool, list_in, with_list, without_list}
use Rattle.mp_pool.specs.Storage.Chains.{chain_of}
use Rattle.mp_pool.specs.Storage.Frames.{OnlyTwo}
use Rattle.mp_pool.specs.Storage.Slots.{slots_from, is_taken, IsPool}
use Rattle.mp_pool.proofs.SlotLemmas.{length-slots_from, get_or-slots_from, slot_in, chain_in}

abbrev Chains : Type 0
Chains = List (List Term)

abbrev pub total : Chains → ℕ
total chains = sum_by (λ (ts : List Term). length ts) chains

get_any : (chains other : Chains) (k : ℕ) (d : List Term) → k < length chains → k < length other → chain_of chains k ≡ chain_of other k → get_or chains k d ≡ get_or other k d
get_any chains other k d one two same = sym (get_or_default chains k [] d one) ∙ same ∙ get_or_default other k [] d two

-- two chains have changed, and hold as many cells as before
module _ (old new : Chains) (a b : ℕ) (a_in : a < length old) (b_in : b < length old) (apart : a ≢ b) (only : OnlyTwo old new a b) where
  abbrev written : Chains
  written = set (set old a (chain_of new a)) b (chain_of new b)

  written_at : (k : ℕ) → chain_of written k ≡ chain_of new k
  written_at k =
      elim (cases_eq k b) [
        | inl same ↦ subst (λ (x : ℕ). chain_of written x ≡ chain_of new x) (sym same) (get_or-set_same (set old a (chain_of new a)) b (chain_of new b) [] (simp length-set b_in))
        | inr not_b ↦
            get_or-set_other (set old a (chain_of new a)) b k (chain_of new b) [] not_b
            ∙ elim (cases_eq k a) [
              | inl same ↦ subst (λ (x : ℕ). chain_of (set old a (chain_of new a)) x ≡ chain_of new x) (sym same) (get_or-set_same old a (chain_of new a) [] a_in)
              | inr not_a ↦ get_or-set_other old a k (chain_of new a) [] not_a ∙ sym (only.others k not_a not_b)
            ]
      ]

  long : length written ≡ length old
  long = length-set (set old a (chain_of new a)) b (chain_of new b) ∙ length-set old a (chain_of new a)

  written_is : written ≡ new
  written_is = same_lists written new (long ∙ sym only.count)
      (λ k d h. get_any written new k d h (omega (arith, h, long, only.count)) (written_at k))

  pub total_same : length (chain_of new a) + length (chain_of new b) ≡ length (chain_of old a) + length (chain_of old b) → total new ≡ total old
  total_same cells =
      let first = sum_by-set (λ (ts : List Term). length ts) old a (chain_of new a) [] a_in in
      let still : b < length (set old a (chain_of new a)) = simp length-set b_in in
      let second = sum_by-set (λ (ts : List Term). length ts) (set old a (chain_of new a)) b (chain_of new b) [] still in
      let other = ap length (get_or-set_other old a b (chain_of new a) [] (λ e. apart (sym e))) in
      let is = ap total written_is in
      omega (arith, first, second, other, is, cells)

-- one list has changed, by cells that were spare or are so now
pub record IsListed (old new : Chains) (slot : ℕ) (terms : List Term) : Type 0 where
  pub only : OnlyTwo old new 0 (3 + slot)
  pub list : chain_of new (3 + slot) ≡ terms
  pub cells : length (chain_of new 0) + length (chain_of new (3 + slot)) ≡ length (chain_of old 0) + length (chain_of old (3 + slot))

module _ (old new : Chains) (taken : List Bool) (vacant : List ℕ) (room : ℕ) (is : IsPool old taken vacant room) (slot : ℕ) (there : is_taken taken slot ≡ true) (terms : List Term) (now : IsListed old new slot terms) where
  apart_slots : (other : ℕ) → other ≢ slot → chain_of new (3 + other) ≡ chain_of old (3 + other)
  apart_slots other apart = now.only.others (3 + other) (λ e. omega (arith, e)) (λ e. apart (omega (arith, e)))

  total_is : total new ≡ total old
  total_is =
      let within = chain_in old taken vacant room slot is there in
      total_same old new 0 (3 + slot) (omega (arith, within)) within (λ e. omega (arith, e)) now.only now.cells

  pub IsPool-list : AreTerms terms → IsPool new taken vacant room
  IsPool-list are = record {
    some = λ more. now.only.count ∙ is.some more;
    none = let none = is.none in omega (arith, none, now.only.count);
    done = now.only.others 1 (λ e. omega (arith, e)) (λ e. omega (arith, e)) ∙ is.done;
    seen = now.only.others 2 (λ e. omega (arith, e)) (λ e. omega (arith, e)) ∙ is.seen;
    terms = λ other within.
        elim (cases_eq other slot) [
          | inl same ↦ subst (λ (x : ℕ). AreTerms (chain_of new (3 + x))) (sym same) (subst AreTerms (sym now.list) are)
          | inr apart ↦ subst AreTerms (sym (apart_slots other apart)) (is.terms other within)
        ];
    empty = λ other free.
        elim (cases_eq other slot) [
          | inl same ↦ let both = sym free ∙ ap (is_taken taken) same ∙ there in absurd cc
          | inr apart ↦ apart_slots other apart ∙ is.empty other free
        ];
    vacancies = is.vacancies;
    enough = is.enough;
    few = is.few;
  }

  slots_is : slots_from new 3 taken ≡ set (slots_from old 3 taken) slot (Some terms)
  slots_is = same_lists _ _ (length-slots_from new 3 taken ∙ sym (length-set (slots_from old 3 taken) slot (Some terms) ∙ length-slots_from old 3 taken))
      (λ k d h.
      let within : k < length taken = omega (arith, h, length-slots_from new 3 taken) in
      let in_old : k < length (slots_from old 3 taken) = omega (arith, within, length-slots_from old 3 taken) in
      sym (get_or_default (slots_from new 3 taken) k None d h)
      ∙ get_or-slots_from new 3 taken k
      ∙ elim (cases_eq k slot) [
        | inl same ↦
            ap (λ (x : ℕ). cond (is_taken taken x) (Some (chain_of new (3 + x))) None) same
            ∙ ap (λ (b : Bool). cond b (Some (chain_of new (3 + slot))) None) there
            ∙ ap (λ (ts : List Term). Some ts) now.list
            ∙ sym (ap (λ (x : ℕ). get_or (set (slots_from old 3 taken) slot (Some terms)) x d) same ∙ get_or-set_same (slots_from old 3 taken) slot (Some terms) d (subst (λ (x : ℕ). x < length (slots_from old 3 taken)) same in_old))
        | inr apart ↦
            ap (λ (ts : List Term). cond (is_taken taken k) (Some ts) None) (apart_slots k apart)
            ∙ sym (get_or-slots_from old 3 taken k)
            ∙ get_or_default (slots_from old 3 taken) k None d in_old
            ∙ sym (get_or-set_other (slots_from old 3 taken) slot k (Some terms) d apart)
      ])

  pub view-list : (pool : Pool) → record { slots = slots_from old 3 taken; size = total old } ≡ pool → record { slots = slots_from new 3 taken; size = total new } ≡ with_list pool slot terms
  view-list pool seen =
      ap (λ (slots : List (Option (List Term))). record { slots = slots; size = total new }) slots_is
      ∙ ap (λ (n : ℕ). record { slots = set (slots_from old 3 taken) slot (Some terms); size = n }) total_is
      ∙ ap (λ (p : Pool). with_list p slot terms) seen

set_twice : {X : Type 0} (xs : List X) (k : ℕ) (a b : X) → set (set xs k a) k b ≡ set xs k b
set_twice [] zero a b = refl
set_twice [] (suc k) a b = refl
set_twice (x ∷ xs) zero a b = refl
set_twice (x ∷ xs) (suc k) a b = ap (λ ys. x ∷ ys) (set_twice xs k a b)

-- a slot that is taken anew, or given back
module _ (chains : Chains) (taken : List Bool) (slot : ℕ) (within : slot < length taken) (now : Bool) where
  taken_same : is_taken (set taken slot now) slot ≡ now
  taken_same = get_or-set_same taken slot now false within

  taken_other : (other : ℕ) → other ≢ slot → is_taken (set taken slot now) other ≡ is_taken taken other
  taken_other other apart = get_or-set_other taken slot other now false apart

  pub slots-set : slots_from chains 3 (set taken slot now) ≡ set (slots_from chains 3 taken) slot (cond now (Some (chain_of chains (3 + slot))) None)
  slots-set = same_lists _ _
      (length-slots_from chains 3 (set taken slot now) ∙ length-set taken slot now
      ∙ sym (length-set (slots_from chains 3 taken) slot (cond now (Some (chain_of chains (3 + slot))) None) ∙ length-slots_from chains 3 taken))
      (λ k d h.
      let k_in : k < length taken = omega (arith, h, length-slots_from chains 3 (set taken slot now), length-set taken slot now) in
      let in_old : k < length (slots_from chains 3 taken) = omega (arith, k_in, length-slots_from chains 3 taken) in
      let item : Option (List Term) = cond now (Some (chain_of chains (3 + slot))) None in
      sym (get_or_default (slots_from chains 3 (set taken slot now)) k None d h)
      ∙ get_or-slots_from chains 3 (set taken slot now) k
      ∙ elim (cases_eq k slot) [
        | inl same ↦
            ap (λ (x : ℕ). cond (is_taken (set taken slot now) x) (Some (chain_of chains (3 + x))) None) same
            ∙ ap (λ (b : Bool). cond b (Some (chain_of chains (3 + slot))) None) taken_same
            ∙ sym (ap (λ (x : ℕ). get_or (set (slots_from chains 3 taken) slot item) x d) same ∙ get_or-set_same (slots_from chains 3 taken) slot item d (subst (λ (x : ℕ). x < length (slots_from chains 3 taken)) same in_old))
        | inr apart ↦
            ap (λ (b : Bool). cond b (Some (chain_of chains (3 + k))) None) (taken_other k apart)
            ∙ sym (get_or-slots_from chains 3 taken k)
            ∙ get_or_default (slots_from chains 3 taken) k None d in_old
            ∙ sym (get_or-set_other (slots_from chains 3 taken) slot k item d apart)
      ])

-- the last free slot is taken
module _ (chains : Chains) (taken : List Bool) (vacant rest : List ℕ) (slot room : ℕ) (is : IsPool chains taken vacant room) (last : vacant ≡ rest ++ slot ∷ []) where
  longer : length vacant ≡ length rest + 1
  longer = ap length last ∙ length-append rest (slot ∷ [])

  slot_at : (d : ℕ) → get_or vacant (length rest) d ≡ slot
  slot_at d = ap (λ (v : List ℕ). get_or v (length rest) d) last ∙ get_or-append_seam rest slot [] d

  rest_at : (i d : ℕ) → i < length rest → get_or vacant i d ≡ get_or rest i d
  rest_at i d i_in = ap (λ (v : List ℕ). get_or v i d) last ∙ get_or-append rest (slot ∷ []) d i i_in

  pub slot_free : get_or taken slot true ≡ false
  slot_free = ap (λ (k : ℕ). get_or taken k true) (sym (slot_at 0)) ∙ is.vacancies.free (length rest) 0 (omega (arith, longer))

  pub vacant_in : slot < length taken
  vacant_in = elim (cases_lt slot (length taken)) [ inl within ↦ within | inr past ↦ let none = get_or_past taken slot true past in let both = sym slot_free ∙ none in absurd cc ]

  not_taken : is_taken taken slot ≡ false
  not_taken = get_or_default taken slot false true vacant_in ∙ slot_free

  pub chain_empty : chain_of chains (3 + slot) ≡ []
  chain_empty = is.empty slot not_taken

  pub IsPool-make : (left : ℕ) → length taken ≤ left → IsPool chains (set taken slot true) rest left
  IsPool-make left enough =
      let same = length-set taken slot true in
      record {
        some = λ more. is.some (omega (arith, more, same)) ∙ ap (λ (n : ℕ). 3 + n) (sym same);
        none = let none = is.none in omega (arith, none, same);
        done = is.done;
        seen = is.seen;
        terms = λ other within. is.terms other (omega (arith, within, same));
        empty = λ other free.
            elim (cases_eq other slot) [
              | inl at ↦ let both = sym free ∙ ap (is_taken (set taken slot true)) at ∙ taken_same chains taken slot vacant_in true in absurd cc
              | inr apart ↦ is.empty other (sym (taken_other chains taken slot vacant_in true other apart) ∙ free)
            ];
        vacancies = record {
          free = λ i d i_in.
              let apart : get_or rest i d ≢ slot = λ e. let at = is.vacancies.apart i (length rest) d (omega (arith, i_in, longer)) (omega (arith, longer)) (rest_at i d i_in ∙ e ∙ sym (slot_at d)) in omega (arith, at, i_in) in
              get_or-set_other taken slot (get_or rest i d) true true apart ∙ ap (λ (k : ℕ). get_or taken k true) (sym (rest_at i d i_in)) ∙ is.vacancies.free i d (omega (arith, i_in, longer));
          apart = λ i j d i_in j_in e. is.vacancies.apart i j d (omega (arith, i_in, longer)) (omega (arith, j_in, longer)) (rest_at i d i_in ∙ e ∙ sym (rest_at j d j_in));
          count =
              let h = sum_by-set (λ (b : Bool). cond (not b) 1 0) taken slot true false vacant_in in
              let old = ap (λ (b : Bool). cond {A = ℕ} (not b) 1 0) not_taken in
              let count = is.vacancies.count in
              omega (arith, h, old, count, longer);
        };
        enough = omega (arith, enough, same);
        few = let few = is.few in omega (arith, few, same);
      }

-- a slot whose list is empty is given back
module _ (chains : Chains) (taken : List Bool) (vacant : List ℕ) (slot room : ℕ) (is : IsPool chains taken vacant room) (there : is_taken taken slot ≡ true) (none_left : chain_of chains (3 + slot) ≡ []) where
  given_in : slot < length taken
  given_in = slot_in taken slot there

  not_vacant : (i d : ℕ) → i < length vacant → get_or vacant i d ≢ slot
  not_vacant i d i_in e =
      let free = is.vacancies.free i d i_in in
      let at = ap (λ (k : ℕ). get_or taken k true) (sym e) ∙ free in
      let both = sym (get_or_default taken slot false true given_in ∙ at) ∙ there in
      cc

  -- so not all slots are free
  pub fewer_vacant : length vacant < length taken
  fewer_vacant =
      let h = sum_by-set (λ (b : Bool). cond (not b) 1 0) taken slot false false given_in in
      let old = ap (λ (b : Bool). cond {A = ℕ} (not b) 1 0) there in
      let most = count_by-le-length not (set taken slot false) in
      let count = is.vacancies.count in
      omega (arith, h, old, most, count, length-set taken slot false)

  pub IsPool-free : IsPool chains (set taken slot false) (vacant ++ slot ∷ []) room
  IsPool-free =
      let same = length-set taken slot false in
      let long = length-append vacant (slot ∷ []) in
      let old_at : (i d : ℕ) → i < length vacant → get_or (vacant ++ slot ∷ []) i d ≡ get_or vacant i d = λ i d i_in. get_or-append vacant (slot ∷ []) d i i_in in
      let new_at : (d : ℕ) → get_or (vacant ++ slot ∷ []) (length vacant) d ≡ slot = λ d. get_or-append_seam vacant slot [] d in
      record {
        some = λ more. is.some (omega (arith, more, same)) ∙ ap (λ (n : ℕ). 3 + n) (sym same);
        none = let none = is.none in omega (arith, none, same);
        done = is.done;
        seen = is.seen;
        terms = λ other within. is.terms other (omega (arith, within, same));
        empty = λ other free.
            elim (cases_eq other slot) [
              | inl at ↦ ap (λ (k : ℕ). chain_of chains (3 + k)) at ∙ none_left
              | inr apart ↦ is.empty other (sym (taken_other chains taken slot given_in false other apart) ∙ free)
            ];
        vacancies = record {
          free = λ i d i_in.
              elim (cases_lt i (length vacant)) [
                | inl before ↦
                    ap (λ (k : ℕ). get_or (set taken slot false) k true) (old_at i d before)
                    ∙ get_or-set_other taken slot (get_or vacant i d) false true (not_vacant i d before) ∙ is.vacancies.free i d before
                | inr past ↦
                    let at : i ≡ length vacant = omega (arith, past, i_in, long) in
                    ap (λ (k : ℕ). get_or (set taken slot false) k true) (ap (λ (x : ℕ). get_or (vacant ++ slot ∷ []) x d) at ∙ new_at d)
                    ∙ get_or-set_same taken slot false true given_in
              ];
          apart = λ i j d i_in j_in e.
              elim (cases_lt i (length vacant)) [
                | inl i_before ↦
                    elim (cases_lt j (length vacant)) [
                      | inl j_before ↦ is.vacancies.apart i j d i_before j_before (sym (old_at i d i_before) ∙ e ∙ old_at j d j_before)
                      | inr j_past ↦
                          let at : j ≡ length vacant = omega (arith, j_past, j_in, long) in
                          absurd (not_vacant i d i_before (sym (old_at i d i_before) ∙ e ∙ ap (λ (x : ℕ). get_or (vacant ++ slot ∷ []) x d) at ∙ new_at d))
                    ]
                | inr i_past ↦
                    let i_at : i ≡ length vacant = omega (arith, i_past, i_in, long) in
                    elim (cases_lt j (length vacant)) [
                      | inl j_before ↦ absurd (not_vacant j d j_before (sym (old_at j d j_before) ∙ sym e ∙ ap (λ (x : ℕ). get_or (vacant ++ slot ∷ []) x d) i_at ∙ new_at d))
                      | inr j_past ↦ omega (arith, i_at, j_past, j_in, long)
                    ]
              ];
          count =
              let h = sum_by-set (λ (b : Bool). cond (not b) 1 0) taken slot false false given_in in
              let old = ap (λ (b : Bool). cond {A = ℕ} (not b) 1 0) there in
              let count = is.vacancies.count in
              omega (arith, h, old, count, long);
        };
        enough = let enough = is.enough in omega (arith, enough, same);
        few = let few = is.few in omega (arith, few, same);
      }

pub AreTerms-none : AreTerms []
AreTerms-none = record { serials = tt; coefficients = All-nil (λ (t : Term). IsCoefficient t.coefficient) }

-- a list that is cleared and given back
module _ (old new : Chains) (taken : List Bool) (vacant : List ℕ) (room : ℕ) (is : IsPool old taken vacant room) (slot : ℕ) (there : is_taken taken slot ≡ true) (now : IsListed old new slot []) where
  cleared : IsPool new taken vacant room
  cleared = IsPool-list old new taken vacant room is slot there [] now AreTerms-none

  pub room_left : length vacant < room
  room_left = let enough = cleared.enough in omega (arith, enough, fewer_vacant new taken vacant slot room cleared there now.list)

  pub IsPool-freed : IsPool new (set taken slot false) (vacant ++ slot ∷ []) room
  IsPool-freed = IsPool-free new taken vacant slot room cleared there now.list

  pub view-freed : (pool : Pool) → record { slots = slots_from old 3 taken; size = total old } ≡ pool → record { slots = slots_from new 3 (set taken slot false); size = total new } ≡ without_list pool slot
  view-freed pool seen =
      ap (λ (slots : List (Option (List Term))). record { slots = slots; size = total new })
      (slots-set new taken slot (slot_in taken slot there) false
      ∙ ap (λ (slots : List (Option (List Term))). set slots slot None) (slots_is old new taken vacant room is slot there [] now)
      ∙ set_twice (slots_from old 3 taken) slot (Some []) None)
      ∙ ap (λ (n : ℕ). record { slots = set (slots_from old 3 taken) slot None; size = n }) (total_is old new taken vacant room is slot there [] now)
      ∙ ap (λ (p : Pool). without_list p slot) seen

-- a slot that was free is taken
module _ (chains : Chains) (taken : List Bool) (vacant rest : List ℕ) (slot room : ℕ) (is : IsPool chains taken vacant room) (last : vacant ≡ rest ++ slot ∷ []) (pool : Pool) (seen : record { slots = slots_from chains 3 taken; size = total chains } ≡ pool) where
  pub made_free : list_in pool slot ≡ None
  made_free =
      ap (λ (p : Pool). list_in p slot) (sym seen) ∙ get_or-slots_from chains 3 taken slot
      ∙ ap (λ (b : Bool). cond b (Some (chain_of chains (3 + slot))) None) (not_taken chains taken vacant rest slot room is last)

  pub made_in : slot < length pool.slots
  made_in =
      let within = vacant_in chains taken vacant rest slot room is last in
      let same = ap (λ (p : Pool). length p.slots) (sym seen) ∙ length-slots_from chains 3 taken in
      omega (arith, within, same)

  pub view-made : record { slots = slots_from chains 3 (set taken slot true); size = total chains } ≡ with_list pool slot []
  view-made =
      ap (λ (slots : List (Option (List Term))). record { slots = slots; size = total chains })
      (slots-set chains taken slot (vacant_in chains taken vacant rest slot room is last) true
      ∙ ap (λ (ts : List Term). set (slots_from chains 3 taken) slot (Some ts)) (chain_empty chains taken vacant rest slot room is last))
      ∙ ap (λ (p : Pool). with_list p slot []) seen
