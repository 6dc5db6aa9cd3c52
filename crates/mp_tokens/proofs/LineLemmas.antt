-- The first line of a file and those behind it.
use Rattle.std.proofs.Common.{◌≡◌, ◌≢◌, ℕ, suc, ◌+◌, Bool, true, false, ◌&&◌, not, cond, List, [], ◌∷◌, take, drop, refl, sym, ap, ◌∙◌, subst, arith, if◌then◌else◌, ◌==◌}
use Rattle.std.specs.List.{position_or_len}
use Rattle.std.proofs.lemmas.Bool.{or_parts, and_parts, eqb-true, true≢false}
use Rattle.mp_tokens.specs.Lines.{lines, is_line_end, begins_with, before_lines, end_length}

-- the bytes before a place, and the lines behind the end that stands there
abbrev pub cut_at : List ℕ → ℕ → List (List ℕ)
cut_at text n = take n text ∷ lines (drop (end_length (drop n text)) (drop n text))

lines-no_end : (c : ℕ) (cs : List ℕ) → is_line_end c ≡ false → lines (c ∷ cs) ≡ before_lines c (lines cs)
lines-no_end c cs e =
    ap (λ b. if b && begins_with 10 cs then lines cs else if is_line_end c then [] ∷ lines cs else before_lines c (lines cs)) ((or_parts _ _ e).1)
    ∙ ap (λ b. if b then [] ∷ lines cs else before_lines c (lines cs)) e

lines-end : (c : ℕ) (cs : List ℕ) → is_line_end c ≡ true → lines (c ∷ cs) ≡ cut_at (c ∷ cs) 0
lines-end c cs e = by (c == 13 && begins_with 10 cs) refl
  where
    pair : (ds : List ℕ) → begins_with 10 ds ≡ true → lines ds ≡ [] ∷ lines (drop 1 ds)
    pair [] h = absurd (true≢false (sym h))
    pair (d ∷ ds) h = subst (λ k. lines (k ∷ ds) ≡ [] ∷ lines ds) (sym (eqb-true d 10 h)) refl

    by : (b : Bool) → (c == 13 && begins_with 10 cs) ≡ b → lines (c ∷ cs) ≡ cut_at (c ∷ cs) 0
    by true h =
        ap (λ b. if b then lines cs else if is_line_end c then [] ∷ lines cs else before_lines c (lines cs)) h
        ∙ pair cs ((and_parts _ _ h).1)
        ∙ ap (λ b. [] ∷ lines (drop (if b then 2 else 1) (c ∷ cs))) (sym h)
    by false h =
        ap (λ b. if b then lines cs else if is_line_end c then [] ∷ lines cs else before_lines c (lines cs)) h
        ∙ ap (λ b. if b then [] ∷ lines cs else before_lines c (lines cs)) e
        ∙ ap (λ b. [] ∷ lines (drop (if b then 2 else 1) (c ∷ cs))) (sym h)

-- the bytes before the first end are the first line
pub lines-first : (text : List ℕ) → text ≢ [] → lines text ≡ cut_at text (position_or_len is_line_end text)
lines-first [] some = absurd (some refl)
lines-first (c ∷ []) some = by (is_line_end c) refl
  where
    by : (b : Bool) → is_line_end c ≡ b → lines (c ∷ []) ≡ cut_at (c ∷ []) (position_or_len is_line_end (c ∷ []))
    by true e = lines-end c [] e ∙ ap (λ b. cut_at (c ∷ []) (cond (not b) 1 0)) (sym e)
    by false e = lines-no_end c [] e ∙ ap (λ b. cut_at (c ∷ []) (cond (not b) 1 0)) (sym e)
lines-first (c ∷ d ∷ ds) some = by (is_line_end c) refl (lines-first (d ∷ ds) (λ e. cc))
  where
    by : (b : Bool) → is_line_end c ≡ b → lines (d ∷ ds) ≡ cut_at (d ∷ ds) (position_or_len is_line_end (d ∷ ds)) → lines (c ∷ d ∷ ds) ≡ cut_at (c ∷ d ∷ ds) (position_or_len is_line_end (c ∷ d ∷ ds))
    by true e rest = lines-end c (d ∷ ds) e ∙ ap (λ b. cut_at (c ∷ d ∷ ds) (cond (not b) (1 + position_or_len is_line_end (d ∷ ds)) 0)) (sym e)
    by false e rest =
        let next : suc (position_or_len is_line_end (d ∷ ds)) ≡ 1 + position_or_len is_line_end (d ∷ ds) = omega arith in
        lines-no_end c (d ∷ ds) e ∙ ap (before_lines c) rest ∙ ap (cut_at (c ∷ d ∷ ds)) next
        ∙ ap (λ b. cut_at (c ∷ d ∷ ds) (cond (not b) (1 + position_or_len is_line_end (d ∷ ds)) 0)) (sym e)
