-- The first cell of a chain is written.
use Rattle.std.proofs.Common.{◌≡◌, ◌≢◌, ◌<◌, ℕ, ◌-◌, ◌∷◌, List, arith, refl, ap, sym, ◌∙◌, drop, length, get_or, set, suc, zero, inl, inr}
use Rattle.std.proofs.lemmas.Bool.{cases_eq}
use Rattle.std.proofs.lemmas.List.{get_or-map, get_or-set_same, get_or-set_other, length-set, length-map, same_lists}
use Rattle.mp_pool.specs.declared.Term.{Term}
use Rattle.mp_pool.specs.declared.cells.Cell.{Cell}
use Rattle.mp_pool.specs.declared.cells.Ends.{Ends}
use Rattle.mp_pool.specs.Storage.Chains.{cell_at, ends_at, terms_from, terms_of, chains_of, location_from, location, no_ends, IsSound, IsWritten}
use Rattle.mp_pool.proofs.Shifting.{location-frame}

pub terms-same : (cells after : List Cell) (n k : ℕ) → ((j : ℕ) → (cell_at after j).next ≡ (cell_at cells j).next) →
    ((j : ℕ) → j < n → (cell_at after (location_from cells j k)).term ≡ (cell_at cells (location_from cells j k)).term) → terms_from after n k ≡ terms_from cells n k
terms-same cells after zero k nexts terms = refl
terms-same cells after (suc n) k nexts terms =
    ap (λ (t : Term). t ∷ terms_from after n (cell_at after k).next) (terms 0 (omega arith))
    ∙ ap (λ (x : ℕ). (cell_at cells k).term ∷ terms_from after n x) (nexts k)
    ∙ ap (λ (ts : List Term). (cell_at cells k).term ∷ ts) (terms-same cells after n (cell_at cells k).next nexts (λ j h. terms (suc j) (omega arith)))

module _ (cells after : List Cell) (chains : List Ends) (at : ℕ) (at_in : at < length chains) (term : Term)
    (sound : IsSound cells chains) (w : IsWritten cells after (ends_at chains at).first term) where
  pub location_same : (c i : ℕ) → location after chains c i ≡ location cells chains c i
  location_same c i = location-frame cells after i (ends_at chains c).first (λ j h. w.nexts _)

  pub sound_written : IsSound after chains
  sound_written = record {
    within = λ c i c_in i_in. let e = location_same c i in let l = w.same_cells in rw (e, l) (sound.within c i c_in i_in);
    last = λ c c_in n is. sound.last c c_in n is ∙ sym (location_same c n);
    total = sound.total ∙ sym w.same_cells;
    few = let l = w.same_cells in let n = sound.few in omega arith;
    apart = λ c i d j c_in d_in i_in j_in same. sound.apart c i d j c_in d_in i_in j_in (sym (location_same c i) ∙ same ∙ location_same d j);
  }

  pub terms_apart : (c : ℕ) → c < length chains → c ≢ at → 0 < (ends_at chains at).length → terms_of after (ends_at chains c) ≡ terms_of cells (ends_at chains c)
  terms_apart c c_in not_at some =
      terms-same cells after (ends_at chains c).length (ends_at chains c).first w.nexts
      (λ j h. w.terms _ (λ is. not_at (sound.apart c j at 0 c_in at_in h some is).0))

  pub terms_written_at : (n : ℕ) → (ends_at chains at).length ≡ suc n → terms_of after (ends_at chains at) ≡ term ∷ drop 1 (terms_of cells (ends_at chains at))
  terms_written_at n is =
      let first = (ends_at chains at).first in
      ap (λ (m : ℕ). terms_from after m first) is
      ∙ ap (λ (t : Term). t ∷ terms_from after n (cell_at after first).next) w.written
      ∙ ap (λ (x : ℕ). term ∷ terms_from after n x) (w.nexts first)
      ∙ ap (λ (ts : List Term). term ∷ ts) (terms-same cells after n (cell_at cells first).next w.nexts
      (λ j h. w.terms _ (λ same. let a = sound.apart at (suc j) at 0 at_in at_in (omega arith) (omega arith) same in omega arith)))
      ∙ ap (λ (m : ℕ). term ∷ drop 1 (terms_from cells m first)) (sym is)

  pub chains_written : 0 < (ends_at chains at).length → chains_of after chains ≡ set (chains_of cells chains) at (term ∷ drop 1 (terms_of cells (ends_at chains at)))
  chains_written some = same_lists _ _ (simp (length-set, length-map))
      (λ k d h. let k_in : k < length chains = simp length-map at h in
      get_or-map (terms_of after) chains k no_ends d k_in
      ∙ elim (cases_eq k at) [
        | inl e ↦ ap (λ (x : ℕ). terms_of after (ends_at chains x)) e ∙ terms_written_at ((ends_at chains at).length - 1) (omega arith)
            ∙ sym (ap (λ (x : ℕ). get_or (set (chains_of cells chains) at (term ∷ drop 1 (terms_of cells (ends_at chains at)))) x d) e
            ∙ get_or-set_same _ at _ d (simp length-map at_in))
        | inr not_at ↦ terms_apart k k_in not_at some ∙ sym (get_or-set_other _ at k _ d not_at ∙ get_or-map (terms_of cells) chains k no_ends d k_in)
      ])
