-- How the code holds the slots of a pool: chain 0 has the spare cells, chains 1 and 2 are empty between calls, and a
-- slot's list is the chain of three more.
use Rattle.std.specs.Prelude.{◌≡◌, ℕ, suc, ◌+◌, ◌<◌, ◌≤◌, ◌^◌, Bool, true, false, not, cond, List, [], ◌∷◌, ◌++◌, max, sum_by, Option, Some, None, count_by, length, slice_index_or}
use Rattle.mp_pool.specs.declared.Term.{Term}
use Rattle.mp_pool.specs.Terms.{AreTerms}
use Rattle.mp_pool.specs.Storage.Chains.{chain_of}

-- the slots, from chain k on; a slot is taken or free
abbrev pub slots_from : List (List Term) → ℕ → List Bool → List (Option (List Term))
slots_from chains k [] = []
slots_from chains k (taken ∷ rest) = cond taken (Some (chain_of chains k)) None ∷ slots_from chains (suc k) rest

abbrev pub is_taken : List Bool → ℕ → Bool
is_taken taken slot = slice_index_or taken slot false

-- the free slots, each once
pub record AreVacant (taken : List Bool) (vacant : List ℕ) : Type 0 where
  pub free : (i d : ℕ) → i < length vacant → slice_index_or taken (slice_index_or vacant i d) true ≡ false
  pub apart : (i j d : ℕ) → i < length vacant → j < length vacant → slice_index_or vacant i d ≡ slice_index_or vacant j d → i ≡ j
  pub count : length vacant ≡ count_by not taken

pub record IsPool (chains : List (List Term)) (taken : List Bool) (vacant : List ℕ) (room : ℕ) : Type 0 where
  pub some : 0 < length taken → length chains ≡ 3 + length taken
  pub none : length chains ≤ 3 + length taken
  pub done : chain_of chains 1 ≡ []
  pub seen : chain_of chains 2 ≡ []
  pub terms : (slot : ℕ) → slot < length taken → AreTerms (chain_of chains (3 + slot))
  pub empty : (slot : ℕ) → is_taken taken slot ≡ false → chain_of chains (3 + slot) ≡ []
  pub vacancies : AreVacant taken vacant
  pub enough : length taken ≤ room
  pub few : length taken ≤ 2 ^ 32

-- the first three chains, where they were not there, and one more
pub record IsOneMore (old new : List (List Term)) : Type 0 where
  pub mid : List (List Term)
  pub three : 3 ≤ length mid
  pub longer : length old ≤ length mid
  pub shorter : length mid ≤ max (length old) 3
  pub same : (k : ℕ) → chain_of mid k ≡ chain_of old k
  pub total : sum_by (λ (ts : List Term). length ts) mid ≡ sum_by (λ (ts : List Term). length ts) old
  pub more : new ≡ mid ++ [] ∷ []
