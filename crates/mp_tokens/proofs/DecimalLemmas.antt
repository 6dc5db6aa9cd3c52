-- The text of a number is digits, perhaps with a point among them.
use Rattle.std.proofs.Common.{◌≡◌, ℕ, suc, ◌+◌, Bool, true, false, ◌&&◌, not, cond, if◌then◌else◌, List, [], ◌∷◌, ◌++◌, length, take, drop, refl, sym, ap, ◌∙◌, subst, arith, All, length-drop}
use Rattle.std.specs.Char.{IsAsciiDigit}
use Rattle.std.specs.List.{AllByRecursion, position_or_len}
use Rattle.std.proofs.lemmas.Bool.{and_parts, leb-true, ne_eqb, eqb-true}
use Rattle.std.proofs.lemmas.List.{append-nil, nil_from_length}
use Rattle.std.proofs.lemmas.List.Elements.{All-from_recursion}
use Rattle.std.proofs.Math.Seq.{take-append_seam, drop-append-add, take-length}
use Rattle.mp_scaled.specs.Decimal.{is_point}
use Rattle.mp_tokens.specs.Classes.{has}
use Rattle.mp_tokens.specs.Lexemes.{run, begins, fraction_length}
use Rattle.mp_tokens.specs.Reading.{Fits}
use Rattle.mp_tokens.specs.declared.class.Class.TheVariants.{Digit, Point}
use Rattle.mp_tokens.specs.declared.lexeme.Kind.TheVariants.{Number}

abbrev pub Digits : List ℕ → Type 0
Digits text = AllByRecursion IsAsciiDigit text

pub digit_from_has : (c : ℕ) → has Digit c ≡ true → IsAsciiDigit c
digit_from_has c h = let both = and_parts _ _ h in (leb-true 48 c both.0, leb-true c 57 both.1)

-- a run of digits
pub Digits-run : (text : List ℕ) → Digits (take (run Digit text) text)
Digits-run [] = tt
Digits-run (c ∷ cs) = by (has Digit c) refl (Digits-run cs)
  where
    by : (b : Bool) → has Digit c ≡ b → Digits (take (run Digit cs) cs) → Digits (take (run Digit (c ∷ cs)) (c ∷ cs))
    by true e rest =
        let more : suc (run Digit cs) ≡ 1 + run Digit cs = omega arith in
        subst (λ n. Digits (take n (c ∷ cs))) (more ∙ ap (λ b. cond b (1 + run Digit cs) 0) (sym e)) (digit_from_has c e, rest)
    by false e rest = subst (λ n. Digits (take n (c ∷ cs))) (ap (λ b. cond b (1 + run Digit cs) 0) (sym e)) tt

point-after_digits : (ds fs : List ℕ) → Digits ds → position_or_len is_point (ds ++ 46 ∷ fs) ≡ length ds
point-after_digits [] fs h = refl
point-after_digits (d ∷ ds) fs h =
    ap (λ b. cond (not b) (1 + position_or_len is_point (ds ++ 46 ∷ fs)) 0) (ne_eqb d 46 (λ e. absurd (omega (arith, h.0.0, e))))
    ∙ ap (λ n. 1 + n) (point-after_digits ds fs h.1) ∙ omega arith

point-no_point : (ds : List ℕ) → Digits ds → position_or_len is_point ds ≡ length ds
point-no_point [] h = refl
point-no_point (d ∷ ds) h =
    ap (λ b. cond (not b) (1 + position_or_len is_point ds) 0) (ne_eqb d 46 (λ e. absurd (omega (arith, h.0.0, e))))
    ∙ ap (λ n. 1 + n) (point-no_point ds h.1) ∙ omega arith

drop-past : (ds : List ℕ) → drop (length ds + 1) ds ≡ []
drop-past ds = nil_from_length (drop (length ds + 1) ds) (omega (arith, length-drop (length ds + 1) ds))

pub Fits-digits : (ds : List ℕ) → Digits ds → Fits Number ds
Fits-digits ds h = (
  subst (λ n. All IsAsciiDigit (take n ds)) (sym (point-no_point ds h)) (subst (All IsAsciiDigit) (sym (take-length ds)) (All-from_recursion IsAsciiDigit ds h)),
  subst (λ n. All IsAsciiDigit (drop (n + 1) ds)) (sym (point-no_point ds h)) (subst (All IsAsciiDigit) (sym (drop-past ds)) (All-from_recursion IsAsciiDigit [] tt)),
)

pub Fits-decimal : (ds fs : List ℕ) → Digits ds → Digits fs → Fits Number (ds ++ 46 ∷ fs)
Fits-decimal ds fs h k = (
  subst (λ n. All IsAsciiDigit (take n (ds ++ 46 ∷ fs))) (sym (point-after_digits ds fs h))
      (subst (All IsAsciiDigit) (sym (take-append_seam ds (46 ∷ fs))) (All-from_recursion IsAsciiDigit ds h)),
  subst (λ n. All IsAsciiDigit (drop (n + 1) (ds ++ 46 ∷ fs))) (sym (point-after_digits ds fs h))
      (subst (All IsAsciiDigit) (sym (drop-append-add ds (46 ∷ fs) 1)) (All-from_recursion IsAsciiDigit fs k)),
)

-- digits, and what of the bytes behind them belongs to their number
pub Fits-with_fraction : (ds rest : List ℕ) → Digits ds → Fits Number (ds ++ take (fraction_length rest) rest)
Fits-with_fraction ds [] h = subst (Fits Number) (sym (append-nil ds)) (Fits-digits ds h)
Fits-with_fraction ds (c ∷ cs) h = by (has Point c && begins Digit cs) refl
  where
    by : (b : Bool) → (has Point c && begins Digit cs) ≡ b → Fits Number (ds ++ take (fraction_length (c ∷ cs)) (c ∷ cs))
    by true e =
        let point : c ≡ 46 = eqb-true c 46 ((and_parts _ _ e).0) in
        let more : suc (run Digit cs) ≡ 1 + run Digit cs = omega arith in
        subst (λ n. Fits Number (ds ++ take n (c ∷ cs))) (more ∙ ap (λ b. if b then 1 + run Digit cs else 0) (sym e))
        (subst (λ k. Fits Number (ds ++ k ∷ take (run Digit cs) cs)) (sym point) (Fits-decimal ds (take (run Digit cs) cs) h (Digits-run cs)))
    by false e =
        subst (λ n. Fits Number (ds ++ take n (c ∷ cs))) (ap (λ b. if b then 1 + run Digit cs else 0) (sym e))
        (subst (Fits Number) (sym (append-nil ds)) (Fits-digits ds h))
