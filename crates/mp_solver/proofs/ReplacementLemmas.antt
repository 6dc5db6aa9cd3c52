-- What replacing an unknown in one form comes to.
use Rattle.std.proofs.Common.{◌≡◌, ℕ, ◌<◌, ◌≤◌, ◌^◌, ℤ, ◌+ℤ◌, unsigned_abs, Bool, true, false, List, [], ◌∷◌, Option, Some, None, length, cond, eqb, inl, inr, refl, sym, ap, ◌∙◌, subst, arith}
use Rattle.std.specs.List.{list_any}
use Rattle.std.specs.Option.{option_map}
use Rattle.std.proofs.lemmas.Bool.{le-leb, lt-leb, leb-true, leb-false, cases_eq, ne_eqb, false≢true}
use Rattle.std.proofs.lemmas.List.Folds.{Any-from_list_any, list_any-from_Any}
use Rattle.std.proofs.lemmas.List.Elements.{All-tail}
use Rattle.mp_pool.specs.declared.Term.{Term}
use Rattle.mp_pool.specs.Ratios.{times_fraction}
use Rattle.mp_pool.specs.Terms.{without, term_of, sum_terms, is_too_large, HasTooLarge, SerialsDecrease, AreTerms, IsCoefficient}
use Rattle.mp_forms.specs.Forms.{LinearForm}
use Rattle.mp_solver.specs.declared.view.Replacement.{Replacement}
use Rattle.mp_solver.specs.declared.view.Replacement.TheVariants.{Changed, Overflows, TooLarge}
use Rattle.mp_solver.specs.Elimination.{replaced, replaced_term, has_large_coefficient, has_large_constant}
use Rattle.mp_solver.specs.Storage.Solution.{replacement_of, Stays}
use Rattle.mp_solver.proofs.TermLists.{holds-term_of}

large_terms : (ts : List Term) → HasTooLarge ts → list_any is_too_large ts ≡ true
large_terms ts t = list_any-from_Any is_too_large ts (t.0, t.1, t.2, t.3, le-leb (2 ^ 44) (unsigned_abs t.1.coefficient) t.4)

pub not_large : (ts : List Term) → list_any is_too_large ts ≡ false → ¬ HasTooLarge ts
not_large ts e w = false≢true (sym e ∙ large_terms ts w)

none_from : (b : Bool) → (b ≡ true → ⊥) → b ≡ false
none_from true never = absurd (never refl)
none_from false never = refl

large_back : (ts : List Term) → list_any is_too_large ts ≡ true → HasTooLarge ts
large_back ts e = let w = Any-from_list_any is_too_large ts e in (w.0, w.1, w.2, w.3, leb-true (2 ^ 44) (unsigned_abs w.1.coefficient) w.4)

pub equal_from : (m n : ℕ) → eqb m n ≡ true → m ≡ n
equal_from m n e = elim (cases_eq m n) [ inl same ↦ same | inr other ↦ absurd (false≢true (sym (ne_eqb m n other) ∙ e)) ]

-- a term that is passed on the way to the unknown's
pub term_of-pass : (serial : ℕ) (p : Term) (ps all : List Term) → all ≡ p ∷ ps → (p.serial ≡ serial → ⊥) → term_of serial ps ≡ term_of serial all
term_of-pass serial p ps all is other = sym (ap (term_of serial) is ∙ ap (λ (b : Bool). cond b (Some p) (term_of serial ps)) (ne_eqb p.serial serial other))

below : (m n : ℕ) (ts : List Term) → m < n → SerialsDecrease m ts → SerialsDecrease n ts
below m n [] lt are = tt
below m n (t ∷ ts) lt are = (omega (arith, lt, are.0), are.1)

pub terms-rest : (p : Term) (ps all : List Term) → all ≡ p ∷ ps → AreTerms all → AreTerms ps
terms-rest p ps all is are =
    let here : AreTerms (p ∷ ps) = subst AreTerms is are in
    record {
      serials = below p.serial (2 ^ 32) ps here.serials.0 here.serials.1;
      coefficients = All-tail (λ t. IsCoefficient t.coefficient) p ps here.coefficients;
    }

module _ (serial : ℕ) (new p : LinearForm) (t : Term) (found : term_of serial p.terms ≡ Some t) where
  abbrev pub sum : List Term
  sum = sum_terms (times_fraction t.coefficient) (without serial p.terms) new.terms

  abbrev pub constant : ℤ
  constant = p.constant +ℤ times_fraction t.coefficient new.constant

  abbrev comes_to : Option Term → Replacement
  comes_to o = replacement_of p (replaced_term serial new p o) o

  pub replaced_is : replaced serial new p ≡ record { constant = constant; terms = sum }
  replaced_is = ap (replaced_term serial new p) found

  by_tests : (a b : Bool) → list_any is_too_large sum ≡ a → has_large_constant (record { constant = constant; terms = sum }) ≡ b →
      cond a TooLarge (cond b Overflows (Changed (length p.terms) (length sum))) ≡ replacement_of p (replaced serial new p) (term_of serial p.terms)
  by_tests a b e f =
      ap (λ (x : Bool). cond x TooLarge (cond b Overflows (Changed (length p.terms) (length sum)))) (sym e)
      ∙ ap (λ (x : Bool). cond (list_any is_too_large sum) TooLarge (cond x Overflows (Changed (length p.terms) (length sum)))) (sym f)
      ∙ ap comes_to (sym found)

  pub comes_to-too_large : HasTooLarge sum → TooLarge ≡ replacement_of p (replaced serial new p) (term_of serial p.terms)
  comes_to-too_large large = by_tests true _ (large_terms sum large) refl

  small : ¬ HasTooLarge sum → list_any is_too_large sum ≡ false
  small none = none_from _ (λ e. none (large_back sum e))

  pub comes_to-overflows : ¬ HasTooLarge sum → 2 ^ 31 ≤ unsigned_abs constant → Overflows ≡ replacement_of p (replaced serial new p) (term_of serial p.terms)
  comes_to-overflows none over = by_tests false true (small none) (le-leb (2 ^ 31) (unsigned_abs constant) over)

  pub comes_to-changed : (m n : ℕ) → ¬ HasTooLarge sum → unsigned_abs constant < 2 ^ 31 → m ≡ length p.terms → n ≡ length sum → Changed m n ≡ replacement_of p (replaced serial new p) (term_of serial p.terms)
  comes_to-changed m n none fits before after =
      ap (λ (x : ℕ). Changed x n) before ∙ ap (λ (x : ℕ). Changed (length p.terms) x) after ∙ by_tests false false (small none) (lt-leb (2 ^ 31) (unsigned_abs constant) fits)

  -- what the form is to stay in range for
  pub stays-terms : Stays serial new p → ¬ HasTooLarge sum
  stays-terms stays = not_large sum (sym (ap has_large_coefficient replaced_is) ∙ stays.coefficients)

  pub stays-constant : Stays serial new p → unsigned_abs constant < 2 ^ 31
  stays-constant stays =
      let e = sym (ap has_large_constant replaced_is) ∙ stays.constant in
      omega (arith, leb-false (2 ^ 31) (unsigned_abs constant) e)

  pub stays-coefficient : AreTerms p.terms → unsigned_abs t.coefficient < 2 ^ 44
  stays-coefficient are = (holds-term_of (λ t. IsCoefficient t.coefficient) serial p.terms t found are.coefficients).1

-- a form without the unknown
pub replaced-none : (serial : ℕ) (new p : LinearForm) → term_of serial p.terms ≡ None → replaced serial new p ≡ p
replaced-none serial new p none = ap (replaced_term serial new p) none

-- the term whose coefficient was found
pub term_found : (o : Option Term) (c : ℤ) → Some c ≡ option_map (λ t. t.coefficient) o → (t : Term) × (o ≡ Some t) × (t.coefficient ≡ c)
term_found None c is = absurd cc
term_found (Some t) c is = (t, refl, cc)

pub term_missing : (o : Option Term) (r : Option ℤ) → r ≡ option_map (λ t. t.coefficient) o → r ≡ None → o ≡ None
term_missing None r is none = refl
term_missing (Some t) r is none = let both = sym is ∙ none in absurd cc
