-- What a lexeme takes, and that it can make what it is said to make.
use Rattle.std.proofs.Common.{◌≡◌, ◌≢◌, ℕ, zero, suc, ◌+◌, ◌-◌, ◌≤◌, Bool, true, false, not, ◌&&◌, cond, if◌then◌else◌, List, [], ◌∷◌, ◌++◌, length, get_or, take, drop, find, position, Option, Some, None, unwrap_or, refl, sym, ap, ◌∙◌, subst, arith, length-drop, length-append}
use Rattle.std.specs.List.{flat_map}
use Rattle.std.proofs.lemmas.Bool.{eqb-true, cond_both}
use Rattle.std.proofs.lemmas.List.{length-take-le, take_all}
use Rattle.std.proofs.lemmas.List.Quantifiers.{position-Some}
use Rattle.std.proofs.lemmas.List.Sums.{prefix_len-le-length}
use Rattle.std.proofs.Math.Seq.{take-add}
use Rattle.mp_tokens.specs.Classes.{has, classes, class_of}
use Rattle.mp_tokens.specs.Lexemes.{Lexeme, run, begins, extent, fraction_length, quoted_by, string_by, is_string_byte, lexeme, lexeme_by, lexemes, lexemes_after}
use Rattle.mp_tokens.specs.Items.{items_by, line_items}
use Rattle.mp_tokens.specs.Reading.{Fits, IsFirst}
use Rattle.mp_tokens.specs.declared.class.Class.{Class}
use Rattle.mp_tokens.specs.declared.class.Class.TheVariants.{Loner, Digit, Point, StringMark, Comment, Space, Other}
use Rattle.mp_tokens.specs.declared.lexeme.Extent.{Extent}
use Rattle.mp_tokens.specs.declared.lexeme.Kind.{Kind}
use Rattle.mp_tokens.specs.declared.lexeme.Kind.TheVariants.{Symbol, Number, Text, Bad, Blank}
use Rattle.mp_tokens.proofs.DecimalLemmas.{digit_from_has, Digits-run, Fits-decimal, Fits-with_fraction}

find_passes : {X : Type 0} (p : X → Bool) (xs : List X) (x : X) → find p xs ≡ Some x → p x ≡ true
find_passes p [] x e = cc
find_passes p (y ∷ ys) x e = by (p y) refl (find_passes p ys x)
  where
    by : (b : Bool) → p y ≡ b → (find p ys ≡ Some x → p x ≡ true) → p x ≡ true
    by true h later = let same : Some y ≡ Some x = ap (λ b. cond b (Some y) (find p ys)) (sym h) ∙ e in ap p (sym cc) ∙ h
    by false h later = later (ap (λ b. cond b (Some y) (find p ys)) (sym h) ∙ e)

-- a byte is in its class
has-class_of : (c : ℕ) (class : Class) → class ≢ Other → class_of c ≡ class → has class c ≡ true
has-class_of c class real e = by (find (λ k. has k c) classes) refl
  where
    by : (o : Option Class) → find (λ k. has k c) classes ≡ o → has class c ≡ true
    by None h = absurd (real (sym e ∙ ap (λ o. unwrap_or o Other) h))
    by (Some k) h = find_passes (λ q. has q c) classes class (h ∙ ap Some (ap (λ o. unwrap_or o Other) (sym h) ∙ e))

-- so many bytes of c ∷ cs, at least one
record IsWithin (cs : List ℕ) (n : ℕ) : Type 0 where
  pub some : 1 ≤ n
  pub within : n ≤ 1 + length cs

fraction_length-le-length : (text : List ℕ) → fraction_length text ≤ length text
fraction_length-le-length [] = omega arith
fraction_length-le-length (c ∷ cs) =
    cond_both (has Point c && begins Digit cs) (1 + run Digit cs) 0 (λ n. n ≤ suc (length cs))
    (λ _. omega (arith, prefix_len-le-length (has Digit) cs)) (λ _. omega arith)

IsWithin-lexeme_by : (class : Class) (c : ℕ) (cs : List ℕ) → IsWithin cs (lexeme_by class c cs).length
IsWithin-lexeme_by Digit c cs = record {
  some = omega arith;
  within = omega (arith, prefix_len-le-length (has Digit) cs, fraction_length-le-length (drop (run Digit cs) cs), length-drop (run Digit cs) cs);
}
IsWithin-lexeme_by Point c cs =
    cond_both (begins Digit cs) (extent Number (1 + run Digit cs)) (if begins Point cs then extent Symbol (1 + run Point cs) else extent Blank 1) (λ e. IsWithin cs e.length)
    (λ _. record { some = omega arith; within = omega (arith, prefix_len-le-length (has Digit) cs) })
    (λ _. cond_both (begins Point cs) (extent Symbol (1 + run Point cs)) (extent Blank 1) (λ e. IsWithin cs e.length)
    (λ _. record { some = omega arith; within = omega (arith, prefix_len-le-length (has Point) cs) })
    (λ _. record { some = omega arith; within = omega arith }))
IsWithin-lexeme_by StringMark c cs = by (position (has StringMark) cs) refl
  where
    by : (o : Option ℕ) → position (has StringMark) cs ≡ o → IsWithin cs (quoted_by cs o).length
    by None e = record { some = omega arith; within = omega arith }
    by (Some n) e = let inside = position-Some (has StringMark) cs n 0 e in record { some = omega arith; within = omega (arith, inside.0) }
IsWithin-lexeme_by Loner c cs = record { some = omega arith; within = omega arith }
IsWithin-lexeme_by Comment c cs = record { some = omega arith; within = omega arith }
IsWithin-lexeme_by Space c cs = record { some = omega arith; within = omega (arith, prefix_len-le-length (has Space) cs) }
IsWithin-lexeme_by Other c cs = record { some = omega arith; within = omega arith }
IsWithin-lexeme_by class c cs = record { some = omega arith; within = omega (arith, prefix_len-le-length (has class) cs) }

Fits-string_by : (o : Option ℕ) (text : List ℕ) → 2 ≤ length text → Fits (string_by o) text
Fits-string_by None text h = h
Fits-string_by (Some c) text h = tt

Fits-lexeme_by : (class : Class) (c : ℕ) (cs : List ℕ) → class_of c ≡ class → Fits (lexeme_by class c cs).kind (take (lexeme_by class c cs).length (c ∷ cs))
Fits-lexeme_by Digit c cs e =
    let w = run Digit cs in
    let f = fraction_length (drop w cs) in
    let more : suc (w + f) ≡ 1 + w + f = omega arith in
    subst (λ n. Fits Number (take n (c ∷ cs))) more
    (subst (λ t. Fits Number (c ∷ t)) (sym (take-add w f cs))
    (Fits-with_fraction (c ∷ take w cs) (drop w cs) (digit_from_has c (has-class_of c Digit (λ h. cc) e), Digits-run cs)))
Fits-lexeme_by Point c cs e =
    let more : suc (run Digit cs) ≡ 1 + run Digit cs = omega arith in
    let point : c ≡ 46 = eqb-true c 46 (has-class_of c Point (λ h. cc) e) in
    cond_both (begins Digit cs) (extent Number (1 + run Digit cs)) (if begins Point cs then extent Symbol (1 + run Point cs) else extent Blank 1)
    (λ x. Fits x.kind (take x.length (c ∷ cs)))
    (λ _. subst (λ n. Fits Number (take n (c ∷ cs))) more
    (subst (λ k. Fits Number (k ∷ take (run Digit cs) cs)) (sym point) (Fits-decimal [] (take (run Digit cs) cs) tt (Digits-run cs))))
    (λ _. cond_both (begins Point cs) (extent Symbol (1 + run Point cs)) (extent Blank 1) (λ x. Fits x.kind (take x.length (c ∷ cs))) (λ _. tt) (λ _. tt))
Fits-lexeme_by StringMark c cs e = by (position (has StringMark) cs) refl
  where
    by : (o : Option ℕ) → position (has StringMark) cs ≡ o → Fits (quoted_by cs o).kind (take (quoted_by cs o).length (c ∷ cs))
    by None h = tt
    by (Some n) h =
        let inside = position-Some (has StringMark) cs n 0 h in
        Fits-string_by (find (λ x. not (is_string_byte x)) (take n cs)) (take (n + 2) (c ∷ cs)) (omega (arith, inside.0, length-take-le (n + 2) (c ∷ cs) (omega (arith, inside.0))))
Fits-lexeme_by Loner c cs e = tt
Fits-lexeme_by Comment c cs e = tt
Fits-lexeme_by Space c cs e = tt
Fits-lexeme_by Other c cs e = tt
Fits-lexeme_by class c cs e = tt

-- what a lexeme passes over is what lexemes_after passes over
lexemes_after-drop : (n : ℕ) (text : List ℕ) → lexemes_after n text ≡ lexemes (drop n text)
lexemes_after-drop zero text = refl
lexemes_after-drop (suc n) [] = refl
lexemes_after-drop (suc n) (c ∷ cs) = lexemes_after-drop n cs

line_items-first : (c : ℕ) (cs : List ℕ) (n : ℕ) → n ≡ (lexeme c cs).length → 1 ≤ n
    → line_items (c ∷ cs) ≡ items_by (lexeme c cs).kind (take n (c ∷ cs)) ++ line_items (drop n (c ∷ cs))
line_items-first c cs zero e some = absurd (omega arith)
line_items-first c cs (suc m) e some =
    let one_less : suc m - 1 ≡ m = omega arith in
    ap (λ q. items_by (lexeme c cs).kind (take q (c ∷ cs)) ++ flat_map (λ l. items_by l.kind l.text) (lexemes_after (q - 1) cs)) (sym e)
    ∙ ap (λ ls. items_by (lexeme c cs).kind (take (suc m) (c ∷ cs)) ++ flat_map (λ (l : Lexeme). items_by l.kind l.text) ls)
    (ap (λ q. lexemes_after q cs) one_less ∙ lexemes_after-drop m cs)

IsFirst-lexeme : (c : ℕ) (cs : List ℕ) → IsFirst (c ∷ cs) (lexeme c cs)
IsFirst-lexeme c cs =
    let bounds = IsWithin-lexeme_by (class_of c) c cs in
    record {
      some = bounds.some;
      within = omega (arith, bounds.within);
      fits = Fits-lexeme_by (class_of c) c cs refl;
      items = line_items-first c cs _ refl bounds.some;
    }

-- the same of a line that is not empty
pub IsFirst-line : (line : List ℕ) (first : Extent) → 1 ≤ length line → first ≡ lexeme (get_or line 0 0) (take (length line - 1) (drop 1 line)) → IsFirst line first
IsFirst-line [] first some e = absurd (omega arith)
IsFirst-line (c ∷ cs) first some e =
    subst (IsFirst (c ∷ cs)) (sym (e ∙ ap (lexeme c) (take_all (length (c ∷ cs) - 1) cs (omega arith)))) (IsFirst-lexeme c cs)

-- a lexeme makes an item at most
length-items_by : (kind : Kind) (text : List ℕ) → length (items_by kind text) ≤ 1
length-items_by Symbol text = omega arith
length-items_by Number text = omega arith
length-items_by Text text = omega arith
length-items_by (Bad cause) text = omega arith
length-items_by Blank text = omega arith

length-lexemes_after : (n : ℕ) (line : List ℕ) → length (flat_map (λ (l : Lexeme). items_by l.kind l.text) (lexemes_after n line)) ≤ length line
length-lexemes_after n [] = omega arith
length-lexemes_after (suc n) (c ∷ cs) = omega (arith, length-lexemes_after n cs)
length-lexemes_after zero (c ∷ cs) =
    let e = lexeme c cs in
    omega (
      arith,
      length-append (items_by e.kind (take e.length (c ∷ cs))) (flat_map (λ (l : Lexeme). items_by l.kind l.text) (lexemes_after (e.length - 1) cs)),
      length-items_by e.kind (take e.length (c ∷ cs)),
      length-lexemes_after (e.length - 1) cs,
    )

-- a line has no more items than bytes
pub length-line_items : (line : List ℕ) → length (line_items line) ≤ length line
length-line_items line = length-lexemes_after 0 line
