-- Products of whole numbers.
use Rattle.std.proofs.Common.{◌≡◌, ◌+◌, ◌*◌, ℤ, ◌+ℤ◌, ◌*ℤ◌, sym, ap, ◌∙◌, arith}
use Rattle.std.proofs.Math.IntN.{*ℤ_comm}
use Rattle.std.proofs.lemmas.Int.{ints}
use borrow.Author.Differences.{up, down, sum_is_lem, product_is}

module _ (a b c : ℤ) where
  pub times_sum : c *ℤ (a +ℤ b) ≡ c *ℤ a +ℤ c *ℤ b
  times_sum =
      let sum = sum_is_lem a b in
      let by_up : up c * (up (a +ℤ b) + down a + down b) ≡ up c * (down (a +ℤ b) + up a + up b) = ap (λ n. up c * n) sum in
      let by_down : down c * (up (a +ℤ b) + down a + down b) ≡ down c * (down (a +ℤ b) + up a + up b) = ap (λ n. down c * n) sum in
      omega (arith, ints, by_up, by_down)

  pub sum_times : (a +ℤ b) *ℤ c ≡ a *ℤ c +ℤ b *ℤ c
  sum_times = *ℤ_comm (a +ℤ b) c ∙ times_sum ∙ ap (λ n. n +ℤ c *ℤ b) (*ℤ_comm c a) ∙ ap (λ n. a *ℤ c +ℤ n) (*ℤ_comm c b)

  pub times_assoc : a *ℤ b *ℤ c ≡ a *ℤ (b *ℤ c)
  times_assoc =
      let left = product_is a b in
      let right = product_is b c in
      let l1 : up (a *ℤ b) * up c ≡ (up a * up b + down a * down b) * up c = ap (λ n. n * up c) left.0 in
      let l2 : up (a *ℤ b) * down c ≡ (up a * up b + down a * down b) * down c = ap (λ n. n * down c) left.0 in
      let l3 : down (a *ℤ b) * up c ≡ (up a * down b + down a * up b) * up c = ap (λ n. n * up c) left.1 in
      let l4 : down (a *ℤ b) * down c ≡ (up a * down b + down a * up b) * down c = ap (λ n. n * down c) left.1 in
      let r1 : up a * up (b *ℤ c) ≡ up a * (up b * up c + down b * down c) = ap (λ n. up a * n) right.0 in
      let r2 : down a * up (b *ℤ c) ≡ down a * (up b * up c + down b * down c) = ap (λ n. down a * n) right.0 in
      let r3 : up a * down (b *ℤ c) ≡ up a * (up b * down c + down b * up c) = ap (λ n. up a * n) right.1 in
      let r4 : down a * down (b *ℤ c) ≡ down a * (up b * down c + down b * up c) = ap (λ n. down a * n) right.1 in
      omega (arith, ints, l1, l2, l3, l4, r1, r2, r3, r4)

pub times_swap : (a b c : ℤ) → a *ℤ (b *ℤ c) ≡ b *ℤ (a *ℤ c)
times_swap a b c = sym (times_assoc a b c) ∙ ap (λ n. n *ℤ c) (*ℤ_comm a b) ∙ times_assoc b a c
