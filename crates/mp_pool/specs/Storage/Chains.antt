use Rattle.std.specs.Prelude.{◌≡◌, ◌≢◌, ◌-◌, cond, nat_eq, ℕ, ◌+◌, ◌<◌, ◌^◌, List, [], ◌∷◌, map, length, slice_index_or, pos, zero, suc}
use Rattle.std.specs.Prelude.{slice_set}
use Rattle.std.specs.List.{sum_by}
use Rattle.mp_pool.specs.declared.Term.{Term}
use Rattle.mp_pool.specs.declared.cells.Cell.{Cell}
use Rattle.mp_pool.specs.declared.cells.Ends.{Ends}

abbrev pub no_term : Term
no_term = record { serial = 0; coefficient = pos 0 }

abbrev pub no_cell : Cell
no_cell = record { term = no_term; next = 0 }

abbrev pub no_ends : Ends
no_ends = record { first = 0; last = 0; length = 0 }

abbrev pub cell_at : List Cell → ℕ → Cell
cell_at cells k = slice_index_or cells k no_cell

abbrev pub ends_at : List Ends → ℕ → Ends
ends_at chains k = slice_index_or chains k no_ends

-- the n terms from cell k on
abbrev pub terms_from : List Cell → ℕ → ℕ → List Term
terms_from cells zero k = []
terms_from cells (suc n) k = (cell_at cells k).term ∷ terms_from cells n (cell_at cells k).next

abbrev pub terms_of : List Cell → Ends → List Term
terms_of cells ends = terms_from cells ends.length ends.first

abbrev pub chains_of : List Cell → List Ends → List (List Term)
chains_of cells chains = map (terms_of cells) chains

abbrev pub chain_of : List (List Term) → ℕ → List Term
chain_of chains k = slice_index_or chains k []

-- the location of the i-th cell from cell k on
abbrev pub location_from : List Cell → ℕ → ℕ → ℕ
location_from cells zero k = k
location_from cells (suc i) k = location_from cells i (cell_at cells k).next

-- so many cells from cell k on are among these
abbrev pub AreWithin : List Cell → ℕ → ℕ → Type 0
AreWithin cells n k = (i : ℕ) → i < n → location_from cells i k < length cells

-- the location of the i-th cell of a chain
abbrev pub location : List Cell → List Ends → ℕ → ℕ → ℕ
location cells chains c i = location_from cells i (ends_at chains c).first

abbrev pub cells_in : List Ends → ℕ
cells_in chains = sum_by (λ (e : Ends). e.length) chains

-- each location of each chain is a cell, the last one is known, no two places are one cell, and each cell is in a chain
pub record IsSound (cells : List Cell) (chains : List Ends) : Type 0 where
  pub within : (c i : ℕ) → c < length chains → i < (ends_at chains c).length → location cells chains c i < length cells
  pub last : (c : ℕ) → c < length chains → (n : ℕ) → (ends_at chains c).length ≡ suc n → (ends_at chains c).last ≡ location cells chains c n
  pub apart : (c i d j : ℕ) → c < length chains → d < length chains → i < (ends_at chains c).length → j < (ends_at chains d).length →
      location cells chains c i ≡ location cells chains d j → (c ≡ d) × (i ≡ j)
  pub total : cells_in chains ≡ length cells
  pub few : length cells < 2 ^ 32

-- the cells and chains after the first cell of one chain went to the end of another
pub record IsShifted (cells after : List Cell) (chains left : List Ends) (from to : ℕ) : Type 0 where
  pub same_cells : length after ≡ length cells
  pub same_chains : length left ≡ length chains
  pub terms : (k : ℕ) → (cell_at after k).term ≡ (cell_at cells k).term
  pub nexts : (k : ℕ) → (0 < (ends_at chains to).length → k ≢ (ends_at chains to).last) → (cell_at after k).next ≡ (cell_at cells k).next
  pub linked : 0 < (ends_at chains to).length → (cell_at after (ends_at chains to).last).next ≡ (ends_at chains from).first
  pub source : ends_at left from ≡ record { first = (cell_at cells (ends_at chains from).first).next; last = (ends_at chains from).last; length = (ends_at chains from).length - 1 }
  pub target : ends_at left to ≡ record { first = cond (nat_eq (ends_at chains to).length 0) (ends_at chains from).first (ends_at chains to).first; last = (ends_at chains from).first; length = (ends_at chains to).length + 1 }
  pub others : (c : ℕ) → c ≢ from → c ≢ to → ends_at left c ≡ ends_at chains c
  pub is : left ≡ slice_set (slice_set chains from (ends_at left from)) to (ends_at left to)

-- the cells after the term of one was written
pub record IsWritten (cells after : List Cell) (at : ℕ) (term : Term) : Type 0 where
  pub same_cells : length after ≡ length cells
  pub nexts : (k : ℕ) → (cell_at after k).next ≡ (cell_at cells k).next
  pub terms : (k : ℕ) → k ≢ at → (cell_at after k).term ≡ (cell_at cells k).term
  pub written : (cell_at after at).term ≡ term

abbrev pub traded : ℕ → ℕ → ℕ → ℕ
traded a b k = cond (nat_eq k a) b (cond (nat_eq k b) a k)

-- two chains exchanged
pub record IsTraded (chains after : List Ends) (a b : ℕ) : Type 0 where
  pub count : length after ≡ length chains
  pub ends : (k : ℕ) → ends_at after k ≡ ends_at chains (traded a b k)
  pub is : after ≡ slice_set (slice_set chains a (ends_at chains b)) b (ends_at chains a)
