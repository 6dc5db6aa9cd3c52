-- A part of a radius is a fraction in range.
use Rattle.std.proofs.Common.{◌≡◌, ℕ, zero, suc, ◌+◌, ◌*◌, ◌^◌, ◌<◌, ◌≤◌, Bool, true, false, nat_lt, nat_eq, cond, ℤ, pos, ◌*ℤ◌, unsigned_abs, Result, Ok, Err, refl, ap, ◌∙◌, arith}
use Rattle.std.proofs.lemmas.Nat.{div_below}
use Rattle.std.proofs.lemmas.Bool.{lt-ltb, ne_eqb}
use Rattle.std.proofs.lemmas.Int.{unsigned_abs-mul}
use Rattle.mp_scaled.specs.Round.{rounded_quotient, signed_of, signs_differ, round, in_range, make_fraction_of}
use Rattle.mp_scaled.specs.declared.arith.Arith.{Arith}
use Rattle.mp_scaled.specs.declared.arith.Arith.TheVariants.{Overflow, DivisionByZero}

signed_size : (negative : Bool) (n : ℕ) → unsigned_abs (signed_of negative n) ≡ n
signed_size false n = refl
signed_size true zero = refl
signed_size true (suc n) = refl

quotient_small : (p q : ℕ) → 0 < q → p ≤ q → rounded_quotient (p * 268435456) q ≤ 268435456
quotient_small p q h k = omega (arith, div_below (2 * (p * 268435456) + q) (2 * q) 268435457 (omega arith) (omega arith))

pub fraction_small : (p q : ℤ) → 0 < unsigned_abs q → unsigned_abs p ≤ unsigned_abs q → unsigned_abs (round (p *ℤ pos 268435456) q) ≤ 268435456
fraction_small p q h k =
    rw (signed_size (signs_differ (p *ℤ pos 268435456) q) (rounded_quotient (unsigned_abs (p *ℤ pos 268435456)) (unsigned_abs q)), unsigned_abs-mul p (pos 268435456))
    (quotient_small (unsigned_abs p) (unsigned_abs q) h k)

pub fraction_is : (p q : ℤ) → 0 < unsigned_abs q → unsigned_abs p ≤ unsigned_abs q → make_fraction_of p q ≡ Ok (round (p *ℤ pos 268435456) q)
fraction_is p q h k =
    let value = round (p *ℤ pos 268435456) q in
    let small : unsigned_abs value ≤ 268435456 = fraction_small p q h k in
    let by_zero : Result ℤ Arith = Err DivisionByZero in
    let over : Result ℤ Arith = Err Overflow in
    let e : nat_eq (unsigned_abs q) 0 ≡ false = ne_eqb _ _ (λ z. absurd (omega (arith, z))) in
    let f : nat_lt (unsigned_abs value) (2 ^ 31) ≡ true = lt-ltb _ _ (omega arith) in
    ap (λ b. cond b by_zero (in_range value)) e ∙ ap (λ b. cond b (Ok value) over) f
