-- A rule over a table is a test of each place, which the checker computes.
use Rattle.std.proofs.Common.{◌≡◌, ℕ, zero, suc, ◌<◌, Bool, true, ◌&&◌, refl}
use Rattle.std.proofs.lemmas.Bool.Decides.{Decides-below_and}

-- the test holds at each number below n
abbrev pub below : (ℕ → Bool) → ℕ → Bool
below test zero = true
below test (suc n) = test n && below test n

pub by_test : (test : ℕ → Bool) (n : ℕ) → below test n ≡ true → (k : ℕ) → k < n → test k ≡ true
by_test test n = (Decides-below_and test (λ k. test k ≡ true) (below test) (λ k. (λ e. e, λ e. e)) refl (λ _. refl) n).0
