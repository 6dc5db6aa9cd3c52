-- The lengths of the chains sum to the cells, so no length overflows and no room need be asked.
use Rattle.std.proofs.Common.{◌≡◌, ◌≢◌, ◌<◌, ◌≤◌, ℕ, ◌+◌, List, arith, ap, sym, ◌∙◌, length, set, inl, inr}
use Rattle.std.proofs.lemmas.Bool.{cases_eq}
use Rattle.std.proofs.lemmas.List.{get_or-set_other, get_or-set_same, length-set}
use Rattle.std.proofs.lemmas.List.Sums.{sum_by-set, get_or-le-sum_by}
use Rattle.mp_pool.specs.declared.cells.Ends.{Ends}
use Rattle.mp_pool.specs.Storage.Chains.{ends_at, no_ends, cells_in}

-- one cell goes: the sum stays
pub cells_in-shifted : (chains : List Ends) (from to : ℕ) (s t : Ends) → from < length chains → to < length chains → from ≢ to →
    s.length + 1 ≡ (ends_at chains from).length → t.length ≡ (ends_at chains to).length + 1 → cells_in (set (set chains from s) to t) ≡ cells_in chains
cells_in-shifted chains from to s t from_in to_in other less more =
    let back : to ≢ from = λ e. other (sym e) in
    let to_still : to < length (set chains from s) = simp length-set to_in in
    let h = sum_by-set (λ (e : Ends). e.length) chains from s no_ends from_in in
    let k = sum_by-set (λ (e : Ends). e.length) (set chains from s) to t no_ends to_still in
    let g = ap (λ (e : Ends). e.length) (get_or-set_other chains from to s no_ends back) in
    omega arith

-- a chain has room for one more while another has a cell
pub room_for_one : (chains : List Ends) (from to : ℕ) → from < length chains → to < length chains → from ≢ to → 0 < (ends_at chains from).length →
    (ends_at chains to).length + 1 ≤ cells_in chains
room_for_one chains from to from_in to_in other some =
    let back : to ≢ from = λ e. other (sym e) in
    let to_still : to < length (set chains from no_ends) = simp length-set to_in in
    let h = sum_by-set (λ (e : Ends). e.length) chains from no_ends no_ends from_in in
    let k = get_or-le-sum_by (λ (e : Ends). e.length) (set chains from no_ends) to no_ends to_still in
    let g = ap (λ (e : Ends). e.length) (get_or-set_other chains from to no_ends no_ends back) in
    omega arith

pub cells_in-traded : (chains : List Ends) (a b : ℕ) → a < length chains → b < length chains → cells_in (set (set chains a (ends_at chains b)) b (ends_at chains a)) ≡ cells_in chains
cells_in-traded chains a b a_in b_in =
    let still : b < length (set chains a (ends_at chains b)) = simp length-set b_in in
    let h = sum_by-set (λ (e : Ends). e.length) chains a (ends_at chains b) no_ends a_in in
    let k = sum_by-set (λ (e : Ends). e.length) (set chains a (ends_at chains b)) b (ends_at chains a) no_ends still in
    elim (cases_eq b a) [
      | inl e ↦
          let g : (ends_at (set chains a (ends_at chains b)) b).length ≡ (ends_at chains b).length =
          ap (λ (x : ℕ). (ends_at (set chains a (ends_at chains b)) x).length) e ∙ ap (λ (e : Ends). e.length) (get_or-set_same chains a (ends_at chains b) no_ends a_in) in
          let same : (ends_at chains b).length ≡ (ends_at chains a).length = ap (λ (x : ℕ). (ends_at chains x).length) e in
          omega arith
      | inr other ↦ let g = ap (λ (e : Ends). e.length) (get_or-set_other chains a b (ends_at chains b) no_ends other) in omega arith
    ]
