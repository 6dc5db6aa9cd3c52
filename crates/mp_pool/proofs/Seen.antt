-- What contracts see of the cells.
use Rattle.std.proofs.Common.{◌≡◌, ◌<◌, ℕ, ◌∷◌, [], List, arith, refl, ap, sym, ◌∙◌, drop, length, suc, zero}
use Rattle.std.proofs.lemmas.List.{get_or-map, length-map}
use Rattle.mp_pool.specs.declared.Term.{Term}
use Rattle.mp_pool.specs.declared.cells.Cell.{Cell}
use Rattle.mp_pool.specs.declared.cells.Ends.{Ends}
use Rattle.mp_pool.specs.Storage.Chains.{cell_at, ends_at, terms_from, terms_of, chains_of, chain_of, no_ends, IsSound}

pub length-terms : (cells : List Cell) (n k : ℕ) → length (terms_from cells n k) ≡ n
length-terms cells zero k = refl
length-terms cells (suc n) k = ap suc (length-terms cells n (cell_at cells k).next)

pub chain_seen : (cells : List Cell) (chains : List Ends) (v : List (List Term)) (k : ℕ) → chains_of cells chains ≡ v → k < length v →
    chain_of v k ≡ terms_of cells (ends_at chains k)
chain_seen cells chains v k is k_in =
    sym (ap (λ x. chain_of x k) is) ∙ get_or-map (terms_of cells) chains k no_ends [] (let l = ap length is in let m = length-map chains (terms_of cells) in omega arith)

pub length_seen : (cells : List Cell) (chains : List Ends) (v : List (List Term)) (k : ℕ) → chains_of cells chains ≡ v → k < length v →
    length (chain_of v k) ≡ (ends_at chains k).length
length_seen cells chains v k is k_in = ap length (chain_seen cells chains v k is k_in) ∙ length-terms cells _ _

pub count_seen : (cells : List Cell) (chains : List Ends) (v : List (List Term)) → chains_of cells chains ≡ v → length v ≡ length chains
count_seen cells chains v is = sym (ap length is) ∙ length-map chains (terms_of cells)

-- the first location of a chain with terms, and the last
pub first_in : (cells : List Cell) (chains : List Ends) (c : ℕ) → IsSound cells chains → c < length chains → 0 < (ends_at chains c).length → (ends_at chains c).first < length cells
first_in cells chains c sound c_in some = sound.within c 0 c_in some

pub last_in : (cells : List Cell) (chains : List Ends) (c : ℕ) → IsSound cells chains → c < length chains → (n : ℕ) → (ends_at chains c).length ≡ suc n → (ends_at chains c).last < length cells
last_in cells chains c sound c_in n is = rw (sound.last c c_in n is) (sound.within c n c_in (omega arith))

pub first_seen : (cells : List Cell) (n k : ℕ) → 0 < n → terms_from cells n k ≡ (cell_at cells k).term ∷ drop 1 (terms_from cells n k)
first_seen cells zero k some = absurd (omega arith)
first_seen cells (suc n) k some = refl
