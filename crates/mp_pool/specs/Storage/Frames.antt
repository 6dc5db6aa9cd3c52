use Rattle.std.specs.Prelude.{◌≡◌, ◌≢◌, ◌<◌, ◌≤◌, ℕ, List, length}
use Rattle.mp_pool.specs.declared.Term.{Term}
use Rattle.mp_pool.specs.Storage.Chains.{chain_of}
use Rattle.mp_pool.specs.Storage.Merge.{AreSmall}

-- the same chains, but for two or three of them
pub record OnlyTwo (old new : List (List Term)) (a b : ℕ) : Type 0 where
  pub count : length new ≡ length old
  pub others : (k : ℕ) → k ≢ a → k ≢ b → chain_of new k ≡ chain_of old k

pub record OnlyThree (old new : List (List Term)) (a b d : ℕ) : Type 0 where
  pub count : length new ≡ length old
  pub others : (k : ℕ) → k ≢ a → k ≢ b → k ≢ d → chain_of new k ≡ chain_of old k

-- three chains of n
pub record AreThree (n a b d : ℕ) : Type 0 where
  pub a_in : a < n
  pub b_in : b < n
  pub d_in : d < n
  pub ab : a ≢ b
  pub ad : a ≢ d
  pub bd : b ≢ d

-- a merge of other terms into a list, with cells enough
pub record Merging (chains : List (List Term)) (left : ℕ) (right : List Term) : Type 0 where
  pub left_in : left < length chains
  pub left_from : 3 ≤ left
  pub spare : length right ≤ length (chain_of chains 0)
  pub small : AreSmall (chain_of chains left)
  pub small_right : AreSmall right
