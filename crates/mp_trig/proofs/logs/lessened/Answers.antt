use Rattle.std.proofs.Common.{◌≡◌, ◌+◌, ◌^◌, pos, ◌-ℤ◌, int_div, ap, ◌∙◌, inl, inr, arith}
use Rattle.std.proofs.lemmas.Nat.{pow_pos, pow_below}
use Rattle.std.proofs.lemmas.Int.{ints}
use Rattle.mp_trig.proofs.ExpLemmas.{Lessening, lessening}
use Rattle.mp_trig.proofs.logs.lessened.Goals as goal

quotient-is : (c : goal.After-over_power) → c.over_power.result ≡ int_div (c.args.value -ℤ pos (2 ^ c.args.n)) (pos (2 ^ (c.args.n + 1)))
quotient-is c = c.over_power.ensures.exact ∙ ap (λ d. int_div d (pos (2 ^ (c.args.n + 1)))) (omega (arith, ints))

bounds : (c : goal.After-over_power) → Lessening (c.args.value -ℤ pos (2 ^ c.args.n)) (2 ^ c.args.n) (2 ^ (c.args.n + 1))
bounds c = lessening _ _ _ (pow_pos c.args.n) (pow_below c.args.n 31 (omega arith)) (omega (arith, ints))

pub returns-clause-exact : goal.returns-clause-exact
returns-clause-exact c = omega (arith, ints, quotient-is c)

pub returns-clause-low : goal.returns-clause-low
returns-clause-low c =
    elim (bounds c).0
    [ inl h ↦ inl (omega (arith, ints, quotient-is c, h)) | inr h ↦ inr (omega (arith, ints, quotient-is c, h)) ]

pub returns-clause-high : goal.returns-clause-high
returns-clause-high c = omega (arith, ints, quotient-is c, (bounds c).1)
