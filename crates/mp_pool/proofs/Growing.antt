-- One more chain, and one more cell.
use Rattle.std.proofs.Common.{◌≡◌, ◌≢◌, ◌<◌, ℕ, ◌+◌, ◌^◌, [], ◌∷◌, ◌++◌, List, zero, suc, length, get_or, set, refl, sym, ap, ◌∙◌, subst, arith, inl, inr}
use Rattle.std.specs.List.{sum_by}
use Rattle.std.proofs.lemmas.Bool.{cases_eq, cases_lt}
use Rattle.std.proofs.lemmas.List.{get_or-map, get_or-set_same, get_or-set_other, get_or_past, length-set, length-map, length-append, map-append, same_lists}
use Rattle.std.proofs.lemmas.List.Sums.{sum_by-set, sum_by-append, sum_by-cons}
use Rattle.mp_pool.specs.declared.Term.{Term}
use Rattle.mp_pool.specs.declared.cells.Cell.{Cell}
use Rattle.mp_pool.specs.declared.cells.Ends.{Ends}
use Rattle.mp_pool.specs.Storage.Chains.{no_term, no_cell, no_ends, cell_at, ends_at, terms_of, chains_of, location_from, location, cells_in, IsSound}
use Rattle.mp_pool.proofs.Shifting.{location-frame, terms-frame}
use Rattle.mp_pool.proofs.Seen.{length-terms}

pub get_or-default : {X : Type 0} (xs : List X) (d : X) (i : ℕ) → get_or (xs ++ d ∷ []) i d ≡ get_or xs i d
get_or-default [] d zero = refl
get_or-default [] d (suc i) = refl
get_or-default (x ∷ xs) d zero = refl
get_or-default (x ∷ xs) d (suc i) = get_or-default xs d i

-- the cells are those that the chains hold
pub total_seen : (cells : List Cell) (chains : List Ends) → sum_by (λ (ts : List Term). length ts) (chains_of cells chains) ≡ cells_in chains
total_seen cells [] = refl
total_seen cells (e ∷ es) =
    let first = sum_by-cons (λ (ts : List Term). length ts) (terms_of cells e) (chains_of cells es) in
    let more = sum_by-cons (λ (x : Ends). x.length) e es in
    let is = length-terms cells e.length e.first in
    omega (arith, first, more, is, total_seen cells es)

-- a chain with a cell is one of the chains
chain_in : (chains : List Ends) (c i : ℕ) → i < (ends_at chains c).length → c < length chains
chain_in chains c i some =
    elim (cases_lt c (length chains)) [ inl within ↦ within | inr past ↦ let none = ap (λ (e : Ends). e.length) (get_or_past chains c no_ends past) in absurd (omega (arith, some, none)) ]

module _ (cells : List Cell) (chains : List Ends) (sound : IsSound cells chains) where
  ends_more : (c : ℕ) → ends_at (chains ++ no_ends ∷ []) c ≡ ends_at chains c
  ends_more c = get_or-default chains no_ends c

  -- one more chain, without cells
  pub sound_more : IsSound cells (chains ++ no_ends ∷ [])
  sound_more = record {
    within = λ c i c_in i_in.
        let some = subst (λ (e : Ends). i < e.length) (ends_more c) i_in in
        subst (λ (e : Ends). location_from cells i e.first < length cells) (sym (ends_more c)) (sound.within c i (chain_in chains c i some) some);
    last = λ c c_in n is.
        let some : (ends_at chains c).length ≡ suc n = sym (ap (λ (e : Ends). e.length) (ends_more c)) ∙ is in
        ap (λ (e : Ends). e.last) (ends_more c) ∙ sound.last c (chain_in chains c n (omega (arith, some))) n some
        ∙ sym (ap (λ (e : Ends). location_from cells n e.first) (ends_more c));
    apart = λ c i d j c_in d_in i_in j_in same.
        let i_some = subst (λ (e : Ends). i < e.length) (ends_more c) i_in in
        let j_some = subst (λ (e : Ends). j < e.length) (ends_more d) j_in in
        sound.apart c i d j (chain_in chains c i i_some) (chain_in chains d j j_some) i_some j_some
        (sym (ap (λ (e : Ends). location_from cells i e.first) (ends_more c)) ∙ same ∙ ap (λ (e : Ends). location_from cells j e.first) (ends_more d));
    total = let more = sum_by-append (λ (e : Ends). e.length) chains (no_ends ∷ []) in omega (arith, more, sound.total);
    few = sound.few;
  }

  pub chains_more : chains_of cells (chains ++ no_ends ∷ []) ≡ chains_of cells chains ++ [] ∷ []
  chains_more = map-append (terms_of cells) chains (no_ends ∷ [])

  module _ (k : ℕ) (k_in : k < length chains) (empty : (ends_at chains k).length ≡ 0) (few : length cells + 1 < 2 ^ 32) where
    abbrev after : List Cell
    after = cells ++ no_cell ∷ []

    abbrev ends : Ends
    ends = record { first = length cells; last = length cells; length = 1 }

    abbrev left : List Ends
    left = set chains k ends

    cell_same : (j : ℕ) → cell_at after j ≡ cell_at cells j
    cell_same j = get_or-default cells no_cell j

    location_same : (i j : ℕ) → location_from after i j ≡ location_from cells i j
    location_same i j = location-frame cells after i j (λ m h. ap (λ (c : Cell). c.next) (cell_same (location_from cells m j)))

    longer : length after ≡ length cells + 1
    longer = length-append cells (no_cell ∷ [])

    ends_here : ends_at left k ≡ ends
    ends_here = get_or-set_same chains k ends no_ends k_in

    ends_other : (c : ℕ) → c ≢ k → ends_at left c ≡ ends_at chains c
    ends_other c other = get_or-set_other chains k c ends no_ends other

    location_other : (c i : ℕ) → c ≢ k → location after left c i ≡ location cells chains c i
    location_other c i other = ap (λ (e : Ends). location_from after i e.first) (ends_other c other) ∙ location_same i (ends_at chains c).first

    -- the new cell is the only one of its chain
    location_here : (i : ℕ) → i < (ends_at left k).length → (i ≡ 0) × (location after left k i ≡ length cells)
    location_here i i_in =
        let one : (ends_at left k).length ≡ 1 = ap (λ (e : Ends). e.length) ends_here in
        let is : i ≡ 0 = omega (arith, i_in, one) in
        (is, ap (λ (m : ℕ). location_from after m (ends_at left k).first) is ∙ ap (λ (e : Ends). e.first) ends_here)

    other_in : (c i : ℕ) → c ≢ k → i < (ends_at left c).length → i < (ends_at chains c).length
    other_in c i other i_in = subst (λ (e : Ends). i < e.length) (ends_other c other) i_in

    below : (c i : ℕ) → c ≢ k → i < (ends_at left c).length → location after left c i < length cells
    below c i other i_in =
        let some = other_in c i other i_in in
        rw (location_other c i other) (sound.within c i (chain_in chains c i some) some)

    -- one more cell, in a chain that had none
    pub sound_loaded : IsSound after left
    sound_loaded = record {
      within = λ c i c_in i_in.
          elim (cases_eq c k) [
            | inl same ↦
                let here = location_here i (subst (λ (x : ℕ). i < (ends_at left x).length) same i_in) in
                subst (λ (x : ℕ). location after left x i < length after) (sym same) (omega (arith, here.1, longer))
            | inr other ↦ omega (arith, below c i other i_in, longer)
          ];
      last = λ c c_in n is.
          elim (cases_eq c k) [
            | inl same ↦
                let there : (ends_at left k).length ≡ suc n = subst (λ (x : ℕ). (ends_at left x).length ≡ suc n) same is in
                let here = location_here n (omega (arith, there)) in
                subst (λ (x : ℕ). (ends_at left x).last ≡ location after left x n) (sym same) (ap (λ (e : Ends). e.last) ends_here ∙ sym here.1)
            | inr other ↦
                let some : (ends_at chains c).length ≡ suc n = sym (ap (λ (e : Ends). e.length) (ends_other c other)) ∙ is in
                ap (λ (e : Ends). e.last) (ends_other c other) ∙ sound.last c (chain_in chains c n (omega (arith, some))) n some ∙ sym (location_other c n other)
          ];
      apart = λ c i d j c_in d_in i_in j_in same.
          elim (cases_eq c k) [
            | inl c_is ↦
                let here = location_here i (subst (λ (x : ℕ). i < (ends_at left x).length) c_is i_in) in
                let i_there : location after left c i ≡ length cells = subst (λ (x : ℕ). location after left x i ≡ length cells) (sym c_is) here.1 in
                elim (cases_eq d k) [
                  | inl d_is ↦
                      let there = location_here j (subst (λ (x : ℕ). j < (ends_at left x).length) d_is j_in) in
                      (c_is ∙ sym d_is, here.0 ∙ sym there.0)
                  | inr d_other ↦ let less = below d j d_other j_in in absurd (omega (arith, less, i_there, same))
                ]
            | inr c_other ↦
                let less = below c i c_other i_in in
                elim (cases_eq d k) [
                  | inl d_is ↦
                      let there = location_here j (subst (λ (x : ℕ). j < (ends_at left x).length) d_is j_in) in
                      let j_there : location after left d j ≡ length cells = subst (λ (x : ℕ). location after left x j ≡ length cells) (sym d_is) there.1 in
                      absurd (omega (arith, less, j_there, same))
                  | inr d_other ↦
                      let i_some = other_in c i c_other i_in in
                      let j_some = other_in d j d_other j_in in
                      sound.apart c i d j (chain_in chains c i i_some) (chain_in chains d j j_some) i_some j_some (sym (location_other c i c_other) ∙ same ∙ location_other d j d_other)
                ]
          ];
      total =
          let h = sum_by-set (λ (e : Ends). e.length) chains k ends no_ends k_in in
          omega (arith, h, empty, sound.total, longer);
      few = omega (arith, longer, few);
    }

    terms_here : terms_of after (ends_at left k) ≡ no_term ∷ []
    terms_here = ap (terms_of after) ends_here ∙ ap (λ (c : Cell). c.term ∷ []) (cell_same (length cells) ∙ get_or_past cells (length cells) no_cell (omega arith))

    terms_other : (c : ℕ) → c ≢ k → terms_of after (ends_at left c) ≡ terms_of cells (ends_at chains c)
    terms_other c other =
        ap (terms_of after) (ends_other c other)
        ∙ terms-frame cells after (ends_at chains c).length (ends_at chains c).first (λ j. ap (λ (c : Cell). c.term) (cell_same j)) (λ j h. ap (λ (c : Cell). c.next) (cell_same (location_from cells j (ends_at chains c).first)))

    pub chains_loaded : chains_of after left ≡ set (chains_of cells chains) k (no_term ∷ [])
    chains_loaded = same_lists _ _ (simp (length-set, length-map))
        (λ c d h.
        let c_in : c < length left = simp length-map at h in
        let c_old : c < length chains = simp length-set at c_in in
        get_or-map (terms_of after) left c no_ends d c_in
        ∙ elim (cases_eq c k) [
          | inl same ↦
              ap (λ (x : ℕ). terms_of after (ends_at left x)) same ∙ terms_here
              ∙ sym (ap (λ (x : ℕ). get_or (set (chains_of cells chains) k (no_term ∷ [])) x d) same ∙ get_or-set_same _ k _ d (simp length-map k_in))
          | inr other ↦ terms_other c other ∙ sym (get_or-set_other _ k c _ d other ∙ get_or-map (terms_of cells) chains c no_ends d c_old)
        ])
