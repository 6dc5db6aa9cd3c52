-- Two chains are exchanged.
use Rattle.std.proofs.Common.{◌≡◌, ◌≢◌, ◌<◌, ℕ, [], List, arith, ap, sym, ◌∙◌, length, inl, inr}
use Rattle.std.proofs.lemmas.Bool.Decides.{nat_tests}
use Rattle.std.proofs.lemmas.Bool.{cases_lt}
use Rattle.std.proofs.lemmas.List.{get_or-map, length-map, get_or_past}
use Rattle.mp_pool.specs.declared.cells.Cell.{Cell}
use Rattle.mp_pool.specs.declared.cells.Ends.{Ends}
use Rattle.mp_pool.specs.Storage.Chains.{ends_at, terms_of, chains_of, chain_of, location_from, location, no_ends, IsSound, IsTraded, traded, cells_in}
use Rattle.mp_pool.proofs.Totals.{cells_in-traded}
use Rattle.mp_pool.specs.Storage.Frames.{OnlyTwo}

pub traded_in : (a b n k : ℕ) → a < n → b < n → k < n → traded a b k < n
traded_in a b n k a_in b_in k_in = grind (arith, nat_tests)

pub traded-traded : (a b k : ℕ) → traded a b (traded a b k) ≡ k
traded-traded a b k = grind (arith, nat_tests)

pub traded-a : (a b : ℕ) → traded a b a ≡ b
traded-a a b = grind (arith, nat_tests)

pub traded-b : (a b : ℕ) → traded a b b ≡ a
traded-b a b = grind (arith, nat_tests)

pub traded-other : (a b k : ℕ) → k ≢ a → k ≢ b → traded a b k ≡ k
traded-other a b k not_a not_b = grind (arith, nat_tests)

-- past the end too, a chain is what its ends say: no terms
pub get_any : (cells : List Cell) (chains : List Ends) (k : ℕ) → chain_of (chains_of cells chains) k ≡ terms_of cells (ends_at chains k)
get_any cells chains k = elim (cases_lt k (length chains)) [
  | inl h ↦ get_or-map (terms_of cells) chains k no_ends [] h
  | inr h ↦ get_or_past (chains_of cells chains) k [] (simp length-map h) ∙ sym (ap (terms_of cells) (get_or_past chains k no_ends h))
]

module _ (cells : List Cell) (chains after : List Ends) (a b : ℕ) (a_in : a < length chains) (b_in : b < length chains)
    (sound : IsSound cells chains) (t : IsTraded chains after a b) where
  pub location_traded : (c i : ℕ) → location cells after c i ≡ location cells chains (traded a b c) i
  location_traded c i = ap (λ (e : Ends). location_from cells i e.first) (t.ends c)

  pub length_traded : (c : ℕ) → (ends_at after c).length ≡ (ends_at chains (traded a b c)).length
  length_traded c = ap (λ (e : Ends). e.length) (t.ends c)

  pub in_traded : (c : ℕ) → c < length after → traded a b c < length chains
  in_traded c c_in = traded_in a b (length chains) c a_in b_in (let n = t.count in omega arith)

  pub sound_traded : IsSound cells after
  sound_traded = record {
    total = ap cells_in t.is ∙ cells_in-traded chains a b a_in b_in ∙ sound.total;
    few = sound.few;
    within = λ c i c_in i_in. let e = location_traded c i in let l = length_traded c in
        rw e (sound.within (traded a b c) i (in_traded c c_in) (omega arith));
    last = λ c c_in n is. let l = length_traded c in
        ap (λ (e : Ends). e.last) (t.ends c) ∙ sound.last (traded a b c) (in_traded c c_in) n (omega arith) ∙ sym (location_traded c n);
    apart = λ c i d j c_in d_in i_in j_in same.
        let l = length_traded c in let m = length_traded d in
        let p = sound.apart (traded a b c) i (traded a b d) j (in_traded c c_in) (in_traded d d_in) (omega arith) (omega arith)
        (sym (location_traded c i) ∙ same ∙ location_traded d j) in
        (sym (traded-traded a b c) ∙ ap (traded a b) p.0 ∙ traded-traded a b d, p.1);
  }

  pub chain_traded : (k : ℕ) → chain_of (chains_of cells after) k ≡ chain_of (chains_of cells chains) (traded a b k)
  chain_traded k = get_any cells after k ∙ ap (terms_of cells) (t.ends k) ∙ sym (get_any cells chains (traded a b k))

  pub only_traded : OnlyTwo (chains_of cells chains) (chains_of cells after) a b
  only_traded = record {
    count = length-map after (terms_of cells) ∙ t.count ∙ sym (length-map chains (terms_of cells));
    others = λ k not_a not_b. chain_traded k ∙ ap (λ (x : ℕ). chain_of (chains_of cells chains) x) (traded-other a b k not_a not_b);
  }
