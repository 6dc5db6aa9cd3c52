-- The table of angles, and the bounds that turns keep.
use Rattle.std.proofs.Common.{◌≡◌, ℕ, suc, ◌+◌, ◌-◌, ◌*◌, ◌/◌, ◌^◌, ◌<◌, ◌≤◌, Bool, true, ◌&&◌, nat_lt, nat_le, ℤ, pos, negsuc, ◌+ℤ◌, ◌-ℤ◌, ◌*ℤ◌, ◌≤ℤ◌, int_div, unsigned_abs, cond, refl, sym, ap, ◌∙◌, add-one, arith}
use Rattle.std.proofs.Math.Nat.{div-le_self, div-mul-le_self}
use Rattle.std.proofs.lemmas.Nat.{le-div, pow_pos}
use Rattle.std.proofs.lemmas.Bool.{ltb-true, leb-true, le-leb, and_parts}
use Rattle.std.proofs.lemmas.Int.{ints}
use Rattle.mp_trig.specs.Sines.{angle_entry, Turned, sine_turn, sine_after, bound_after, IsBoundedAfter}
use Rattle.mp_trig.proofs.Tables.{below, by_test}

abbrev angle_test : ℕ → Bool
angle_test n = nat_lt 0 (angle_entry (n + 1)) && nat_lt (angle_entry (n + 1)) 33554432

angles_pass : below angle_test 26 ≡ true
unfolding angle_entry
angles_pass = refl

angle_bounds_next : (n : ℕ) → n < 26 → (0 < angle_entry (n + 1)) × (angle_entry (n + 1) < 33554432)
angle_bounds_next n p =
    let t = and_parts (nat_lt 0 (angle_entry (n + 1))) (nat_lt (angle_entry (n + 1)) 33554432) (by_test angle_test 26 angles_pass n p) in
    (ltb-true _ _ t.0, ltb-true _ _ t.1)

pub angle_entry_bounds : (k : ℕ) → 1 ≤ k → k ≤ 26 → (0 < angle_entry k) × (angle_entry k < 33554432)
angle_entry_bounds k p q =
    let e : k - 1 + 1 ≡ k = omega arith in
    rw e at (angle_bounds_next (k - 1) (omega arith))

reach_test : ℕ → Bool
reach_test n = nat_le (bound_after n) 715827882

reaches_pass : below reach_test 27 ≡ true
unfolding bound_after reach_test
reaches_pass = refl

pub reach_small : (n : ℕ) → n ≤ 26 → bound_after n ≤ 715827882
unfolding reach_test
reach_small n p = leb-true _ _ (by_test reach_test 27 reaches_pass n (omega arith))

pub bound_after-next : (n : ℕ) → bound_after (n + 1) ≡ bound_after n + bound_after n / 2 ^ (n + 1)
unfolding bound_after
bound_after-next n = ap bound_after (add-one n)

pub reach_none : bound_after 0 ≡ 268435456
unfolding bound_after
reach_none = refl

pub sine_after-next : (n : ℕ) (s : Turned) → sine_after (n + 1) s ≡ sine_turn n (sine_after n s)
unfolding sine_after
sine_after-next n s = ap (λ m. sine_after m s) (add-one n)

pub sine_after-none : (s : Turned) → sine_after 0 s ≡ s
unfolding sine_after
sine_after-none s = refl

pub div_le : (a b p : ℕ) → 0 < p → a ≤ b → a / p ≤ b / p
div_le a b p q h = le-div (a / p) b p q (omega (arith, div-mul-le_self a p))

pub div_quarter : (a b p : ℕ) → 0 < p → 4 * a ≤ b → 4 * (a / p) ≤ b / p
div_quarter a b p q h = le-div (4 * (a / p)) b p q (omega (arith, div-mul-le_self a p))

-- bounds after a turn, over plain numbers: p is the divisor, r the bound_after
pub record Kept (r q : ℕ) (x y : ℤ) : Type 0 where
  pub near_x : unsigned_abs x ≤ r + q
  pub near_y : unsigned_abs y ≤ r + q
  pub low_x : pos 1342177280 ≤ℤ (pos 4 *ℤ x +ℤ pos (r + q))
  pub low_y : pos 536870912 ≤ℤ (y +ℤ pos (r + q))

kept : (r p : ℕ) (x y : ℤ) → 0 < p → r ≤ 715827882 → unsigned_abs x ≤ r → unsigned_abs y ≤ r → pos 1342177280 ≤ℤ (pos 4 *ℤ x +ℤ pos r) → pos 536870912 ≤ℤ (y +ℤ pos r) → Kept r (r / p) (x +ℤ int_div y (pos p)) (y -ℤ int_div x (pos p))
kept r p (pos a) (pos b) q small nx ny lx ly = record {
  near_x = omega (arith, ints, div_le b r p q ny);
  near_y = omega (arith, ints, div_le a r p q nx);
  low_x = omega (arith, ints);
  low_y = omega (arith, ints, div_le a r p q nx);
}
kept r p (pos a) (negsuc b) q small nx ny lx ly = record {
  near_x = omega (arith, ints, div_le (suc b) r p q ny);
  near_y = omega (arith, ints, div_le a r p q nx);
  low_x = omega (arith, ints, div_quarter (suc b) r p q (omega (arith, ints)));
  low_y = omega (arith, ints, div_le a r p q nx);
}
kept r p (negsuc a) y q small nx ny lx ly = absurd (omega (arith, ints))

within_next : (n : ℕ) (x y : ℤ) → n < 26 → IsBoundedAfter n x y → IsBoundedAfter (n + 1) (x +ℤ int_div y (pos (2 ^ (n + 1)))) (y -ℤ int_div x (pos (2 ^ (n + 1))))
within_next n x y p w =
    let e = bound_after-next n in
    let k = kept (bound_after n) (2 ^ (n + 1)) x y (pow_pos (n + 1)) (reach_small n (omega arith)) w.near_x w.near_y w.low_x w.low_y in
    record {
      near_x = rw e k.near_x;
      near_y = rw e k.near_y;
      low_x = rw e k.low_x;
      low_y = rw e k.low_y;
    }

-- after a turn, as the code makes it
pub within_turned : (n : ℕ) (x y x' y' : ℤ) → n < 26 → x' ≡ x +ℤ int_div y (pos (2 ^ (n + 1))) → y' ≡ y -ℤ int_div x (pos (2 ^ (n + 1))) → IsBoundedAfter n x y → IsBoundedAfter (n + 1) x' y'
within_turned n x y x' y' p ex ey w = rw (ex, ey) (within_next n x y p w)

pub within_kept : (n : ℕ) (x y : ℤ) → IsBoundedAfter n x y → IsBoundedAfter (n + 1) x y
within_kept n x y w =
    let e = bound_after-next n in
    record {
      near_x = rw e (omega (arith, w.near_x));
      near_y = rw e (omega (arith, w.near_y));
      low_x = rw e (omega (arith, ints, w.low_x));
      low_y = rw e (omega (arith, ints, w.low_y));
    }

pub within_start : IsBoundedAfter 0 (pos 268435456) (pos 268435456)
unfolding bound_after
within_start = record { near_x = omega arith; near_y = omega arith; low_x = omega (arith, ints); low_y = omega (arith, ints) }

pub ruleset bounding = (reach_small, bound_after-next, within_start)

pub quotient_le : (d : ℤ) (p : ℕ) → unsigned_abs (int_div d (pos p)) ≤ unsigned_abs d
quotient_le (pos m) p = div-le_self m p
quotient_le (negsuc m) p = omega (arith, ints, div-le_self (suc m) p)

pub turn_taken : (n left left' : ℕ) (x y x' y' : ℤ) → angle_entry (n + 1) ≤ left → x' ≡ x +ℤ int_div y (pos (2 ^ (n + 1))) → y' ≡ y -ℤ int_div x (pos (2 ^ (n + 1))) → left' ≡ left - angle_entry (n + 1) → record { x = x'; y = y'; left = left' } ≡ sine_turn n (record { x = x; y = y; left = left })
turn_taken n left left' x y x' y' h ex ey el =
    let s : Turned = record { x = x; y = y; left = left } in
    let t : Turned = record {
      x = x +ℤ int_div y (pos (2 ^ (n + 1)));
      y = y -ℤ int_div x (pos (2 ^ (n + 1)));
      left = left - angle_entry (n + 1);
    } in
    let test : nat_le (angle_entry (n + 1)) left ≡ true = le-leb _ _ h in
    rw (ex, ey, el) (sym (ap (λ b. cond b t s) test))

-- a turn, as the code makes it
pub sine_step : (n : ℕ) (s s' start : Turned) → s' ≡ sine_turn n s → s ≡ sine_after n start → s' ≡ sine_after (n + 1) start
sine_step n s s' start e f = e ∙ ap (sine_turn n) f ∙ sym (sine_after-next n start)
