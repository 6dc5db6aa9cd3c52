-- Two chains of many.
use Rattle.std.proofs.Common.{◌≡◌, ◌≢◌, ◌<◌, ℕ, List, [], ap, ◌∙◌, length, set}
use Rattle.std.proofs.lemmas.List.{get_or-set_same, get_or-set_other, length-set}
use Rattle.mp_pool.specs.declared.Term.{Term}
use Rattle.mp_pool.specs.Storage.Chains.{chain_of}
use Rattle.mp_pool.specs.Storage.Frames.{OnlyTwo}

pub set_two-first : (v w : List (List Term)) (a b : ℕ) (x y : List Term) → w ≡ set (set v a x) b y → a < length v → a ≢ b → chain_of w a ≡ x
set_two-first v w a b x y is a_in other = ap (λ u. chain_of u a) is ∙ get_or-set_other _ b a _ [] other ∙ get_or-set_same _ a _ [] a_in

pub set_two-second : (v w : List (List Term)) (a b : ℕ) (x y : List Term) → w ≡ set (set v a x) b y → b < length v → chain_of w b ≡ y
set_two-second v w a b x y is b_in = ap (λ u. chain_of u b) is ∙ get_or-set_same _ b _ [] (simp length-set b_in)

pub set_two-only : (v w : List (List Term)) (a b : ℕ) (x y : List Term) → w ≡ set (set v a x) b y → OnlyTwo v w a b
set_two-only v w a b x y is = record {
  count = ap length is ∙ simp length-set;
  others = λ k not_a not_b. ap (λ u. chain_of u k) is ∙ get_or-set_other _ b k _ [] not_b ∙ get_or-set_other _ a k _ [] not_a;
}

pub set_one-same : (v w : List (List Term)) (a : ℕ) (x : List Term) → w ≡ set v a x → a < length v → chain_of w a ≡ x
set_one-same v w a x is a_in = ap (λ u. chain_of u a) is ∙ get_or-set_same _ a _ [] a_in

pub set_one-only : (v w : List (List Term)) (a : ℕ) (x : List Term) → w ≡ set v a x → OnlyTwo v w a a
set_one-only v w a x is = record {
  count = ap length is ∙ simp length-set;
  others = λ k not_a _. ap (λ u. chain_of u k) is ∙ get_or-set_other _ a k _ [] not_a;
}

pub only_two-trans : (u v w : List (List Term)) (a b : ℕ) → OnlyTwo u v a b → OnlyTwo v w a b → OnlyTwo u w a b
only_two-trans u v w a b x y = record {
  count = y.count ∙ x.count;
  others = λ k not_a not_b. y.others k not_a not_b ∙ x.others k not_a not_b;
}
