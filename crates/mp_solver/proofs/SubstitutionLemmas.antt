-- The pivot's new form replaces it, form by form.
use Rattle.std.proofs.Common.{◌≡◌, ℕ, ◌+◌, ◌-◌, ◌<◌, ◌≤◌, ◌^◌, min, ℤ, ◌+ℤ◌, unsigned_abs, Bool, true, false, ◌||◌, cond, leb, List, [], ◌∷◌, ◌++◌, Option, Some, None, zero, suc, map, length, get_or, take, drop, refl, sym, ap, ◌∙◌, subst, arith}
use Rattle.std.specs.List.{list_any, sum_by}
use Rattle.std.specs.Option.{option_map}
use Rattle.std.proofs.lemmas.List.{take_more, drop_more, take_all, drop_all, append-nil, length-map}
use Rattle.std.proofs.lemmas.List.Sums.{sum_by-append, sum_by-cons}
use Rattle.std.proofs.lemmas.List.Folds.{list_any-append}
use Rattle.std.proofs.lemmas.List.Elements.{filter_map-append}
use Rattle.mp_pool.specs.declared.Term.{Term}
use Rattle.mp_pool.specs.Ratios.{times_fraction}
use Rattle.mp_pool.specs.Terms.{sum_terms, is_too_large}
use Rattle.mp_forms.specs.Forms.{LinearForm}
use Rattle.mp_solver.specs.declared.view.Replacement.{Replacement}
use Rattle.mp_solver.specs.declared.view.Replacement.TheVariants.{Absent, Changed, Overflows, TooLarge}
use Rattle.mp_solver.specs.States.{States}
use Rattle.mp_solver.specs.Elimination.{without, term_of, replaced, replaced_term, forms_in, has_large_coefficient, has_large_constant, term_count}
use Rattle.mp_solver.specs.Storage.Solution.{replacement_of}
use Rattle.mp_solver.specs.Storage.Tally.{IsCount, IsTally}

module _ (serial : ℕ) (new : LinearForm) (k : ℤ) (overflows : Bool) (same : overflows ≡ false → k ≡ new.constant) where
  -- the new form as it is held
  abbrev held : LinearForm
  held = record { constant = k; terms = new.terms }

  -- what the answer says of the form p, and of the form q that it becomes
  abbrev pub Says : LinearForm → LinearForm → Replacement → Type 0
  Says p q Absent = q ≡ p
  Says p q (Changed m n) = (m ≡ length p.terms) × (n ≡ length q.terms) × (has_large_coefficient q ≡ false) × (overflows ≡ false → has_large_constant q ≡ false)
  Says p q Overflows = (has_large_coefficient q ≡ false) × (overflows ≡ false → has_large_constant q ≡ true)
  Says p q TooLarge = has_large_coefficient q ≡ true

  module _ (p : LinearForm) (t : Term) where
    abbrev terms : List Term
    terms = sum_terms (times_fraction t.coefficient) (without serial p.terms) new.terms

    abbrev constant : ℤ
    constant = p.constant +ℤ times_fraction t.coefficient k

    abbrev constant_new : ℤ
    constant_new = p.constant +ℤ times_fraction t.coefficient new.constant

    abbrev sum : LinearForm
    sum = record { constant = constant_new; terms = terms }

    says_term : (a b : Bool) → list_any is_too_large terms ≡ a → leb (2 ^ 31) (unsigned_abs constant) ≡ b →
        Says p sum (cond a TooLarge (cond b Overflows (Changed (length p.terms) (length terms))))
    says_term true b e f = e
    says_term false true e f = (
      e,
      λ fits.
          let is : constant ≡ constant_new = ap (λ n. p.constant +ℤ times_fraction t.coefficient n) (same fits) in
          ap (λ n. leb (2 ^ 31) (unsigned_abs n)) (sym is) ∙ f,
    )
    says_term false false e f = (
      refl,
      refl,
      e,
      λ fits.
          let is : constant ≡ constant_new = ap (λ n. p.constant +ℤ times_fraction t.coefficient n) (same fits) in
          ap (λ n. leb (2 ^ 31) (unsigned_abs n)) (sym is) ∙ f,
    )

  says_by : (p : LinearForm) (t : Option Term) → Says p (replaced_term serial new p t) (replacement_of p (replaced_term serial held p t) t)
  says_by p None = refl
  says_by p (Some t) = says_term p t _ _ refl refl

  pub says : (p : LinearForm) (answer : Replacement) → answer ≡ replacement_of p (replaced serial held p) (term_of serial p.terms) → Says p (replaced serial new p) answer
  says p answer is = subst (Says p (replaced serial new p)) (sym is) (says_by p (term_of serial p.terms))

-- one more state
forms_in-more_none : (done : States) → forms_in (done ++ None ∷ []) ≡ forms_in done
forms_in-more_none done = filter_map-append (λ form. form) done (None ∷ []) ∙ append-nil (forms_in done)

forms_in-more_some : (done : States) (q : LinearForm) → forms_in (done ++ Some q ∷ []) ≡ forms_in done ++ q ∷ []
forms_in-more_some done q = filter_map-append (λ form. form) done (Some q ∷ [])

or_false_right : (a : Bool) → (a || false) ≡ a
or_false_right true = refl
or_false_right false = refl

or_assoc' : (a b c : Bool) → (a || (b || c)) ≡ ((a || b) || c)
or_assoc' true b c = refl
or_assoc' false b c = refl

list_any-more : (test : LinearForm → Bool) (done : States) (q : LinearForm) → list_any test (forms_in (done ++ Some q ∷ [])) ≡ (list_any test (forms_in done) || test q)
list_any-more test done q =
    ap (list_any test) (forms_in-more_some done q) ∙ list_any-append test (forms_in done) (q ∷ []) ∙ ap (λ b. list_any test (forms_in done) || b) (or_false_right (test q))

term_count-more : (done : States) (q : LinearForm) → term_count (done ++ Some q ∷ []) ≡ term_count done + length q.terms
term_count-more done q =
    ap (sum_by (λ p. length p.terms)) (forms_in-more_some done q)
    ∙ sum_by-append (λ p. length p.terms) (forms_in done) (q ∷ [])
    ∙ ap (λ n. term_count done + n) (omega arith)

pub get_or-map : (f : LinearForm → LinearForm) (states : States) (i : ℕ) → get_or (map (option_map f) states) i None ≡ option_map f (get_or states i None)
get_or-map f [] i = refl
get_or-map f (s ∷ ss) zero = refl
get_or-map f (s ∷ ss) (suc i) = get_or-map f ss i

stays_by : (a b : Bool) → (a ≡ false → b ≡ false) → a ≡ (a || b)
stays_by true b none = refl
stays_by false b none = sym (none refl)

grows_by : (a b : Bool) → (a ≡ false → b ≡ true) → true ≡ (a || b)
grows_by true b some = refl
grows_by false b some = sym (some refl)

module _ (states : States) (serial : ℕ) (new : LinearForm) (i : ℕ) (overflows : Bool) (unchanged added : ℕ) (so_far : IsTally states serial new i overflows unchanged added) where
  abbrev all_mapped : States
  all_mapped = map (option_map (replaced serial new)) states

  -- there is no state any more
  pub IsTally-past : length states ≤ i → IsTally states serial new (i + 1) overflows unchanged added
  IsTally-past past =
      let same = length-map states (option_map (replaced serial new)) in
      let front : take (i + 1) all_mapped ≡ take i all_mapped = take_all (i + 1) all_mapped (omega (arith, past, same)) ∙ sym (take_all i all_mapped (omega (arith, past, same))) in
      let back : drop (i + 1) states ≡ drop i states = drop_all (i + 1) states (omega (arith, past)) ∙ sym (drop_all i states past) in
      record {
        small = ap (λ ss. list_any has_large_coefficient (forms_in ss)) front ∙ so_far.small;
        overflow = so_far.overflow ∙ ap (λ ss. has_large_constant new || list_any has_large_constant (forms_in ss)) (sym front);
        counted = λ fits. rw (front, back) (so_far.counted fits);
        rest = rw back so_far.rest;
        few = so_far.few;
        bounded = so_far.bounded;
      }

module _ (states : States) (serial : ℕ) (new : LinearForm) (i : ℕ) (overflows : Bool) (unchanged added : ℕ) (so_far : IsTally states serial new i overflows unchanged added) (at : i < length states) where
  abbrev mapped : States
  mapped = map (option_map (replaced serial new)) states

  abbrev done : States
  done = take i mapped

  in_mapped : i < length mapped
  in_mapped = let same = length-map states (option_map (replaced serial new)) in omega (arith, at, same)

  -- an independent unknown
  pub IsTally-none : get_or states i None ≡ None → IsTally states serial new (i + 1) overflows unchanged added
  IsTally-none none =
      let m : get_or mapped i None ≡ None = get_or-map (replaced serial new) states i ∙ ap (option_map (replaced serial new)) none in
      let next : take (i + 1) mapped ≡ done ++ None ∷ [] = take_more mapped i None in_mapped ∙ ap (λ s. done ++ s ∷ []) m in
      let forms : forms_in (take (i + 1) mapped) ≡ forms_in done = ap forms_in next ∙ forms_in-more_none done in
      let split : drop i states ≡ None ∷ drop (i + 1) states = drop_more states i None at ∙ ap (λ s. s ∷ drop (i + 1) states) none in
      let rest : term_count (drop i states) ≡ term_count (drop (i + 1) states) = ap term_count split in
      record {
        small = ap (list_any has_large_coefficient) forms ∙ so_far.small;
        overflow = so_far.overflow ∙ ap (λ fs. has_large_constant new || list_any has_large_constant fs) (sym forms);
        counted = λ fits.
            let before = so_far.counted fits in
            let front : term_count (take (i + 1) mapped) ≡ term_count done = ap (sum_by (λ p. length p.terms)) forms in
            record { changed = before.changed; added_is = before.added_is; total_is = let total = before.total_is in omega (arith, total, front, rest) };
        rest = omega (arith, so_far.rest, rest);
        few = so_far.few;
        bounded = so_far.bounded;
      }

  module _ (form : LinearForm) (some : get_or states i None ≡ Some form) where
    abbrev q : LinearForm
    q = replaced serial new form

    m_some : get_or mapped i None ≡ Some q
    m_some = get_or-map (replaced serial new) states i ∙ ap (option_map (replaced serial new)) some

    next : take (i + 1) mapped ≡ done ++ Some q ∷ []
    next = take_more mapped i None in_mapped ∙ ap (λ s. done ++ s ∷ []) m_some

    pub any_next : (test : LinearForm → Bool) → list_any test (forms_in (take (i + 1) mapped)) ≡ (list_any test (forms_in done) || test q)
    any_next test = ap (λ ss. list_any test (forms_in ss)) next ∙ list_any-more test done q

    split : drop i states ≡ Some form ∷ drop (i + 1) states
    split = drop_more states i None at ∙ ap (λ s. s ∷ drop (i + 1) states) some

    small_next : has_large_coefficient q ≡ false → list_any has_large_coefficient (forms_in (take (i + 1) mapped)) ≡ false
    small_next small = any_next has_large_coefficient ∙ rw (so_far.small, small) refl

    overflow_next : (more : Bool) → more ≡ (overflows || has_large_constant q) → more ≡ (has_large_constant new || list_any has_large_constant (forms_in (take (i + 1) mapped)))
    overflow_next more is =
        is ∙ ap (λ b. b || has_large_constant q) so_far.overflow
        ∙ sym (or_assoc' (has_large_constant new) (list_any has_large_constant (forms_in done)) (has_large_constant q))
        ∙ ap (λ b. has_large_constant new || b) (sym (any_next has_large_constant))

    rest_before : term_count (drop i states) ≡ length form.terms + term_count (drop (i + 1) states)
    rest_before = ap term_count split ∙ sum_by-cons (λ p. length p.terms) form (forms_in (drop (i + 1) states))

    count_next : term_count (take (i + 1) mapped) ≡ term_count done + length q.terms
    count_next = ap term_count next ∙ term_count-more done q

    -- the terms of the form are among those of the forms that are unchanged
    pub unchanged_terms : length form.terms ≤ unchanged
    unchanged_terms = omega (arith, so_far.rest, rest_before)

    -- a form that stays
    pub IsTally-unchanged : q ≡ form → has_large_coefficient form ≡ false → has_large_constant form ≡ false → IsTally states serial new (i + 1) overflows unchanged added
    IsTally-unchanged is small constant = record {
      small = small_next (ap has_large_coefficient is ∙ small);
      overflow = overflow_next overflows (sym (ap (λ b. overflows || b) (ap has_large_constant is ∙ constant) ∙ or_false_right overflows));
      counted = λ fits.
          let before = so_far.counted fits in
          let same : length q.terms ≡ length form.terms = ap (λ p. length p.terms) is in
          record { changed = before.changed; added_is = before.added_is; total_is = let total = before.total_is in omega (arith, total, same, rest_before, count_next) };
      rest = omega (arith, so_far.rest, rest_before);
      few = so_far.few;
      bounded = so_far.bounded;
    }

    counted_next : (m n less more : ℕ) → m ≡ length form.terms → n ≡ length q.terms → less ≡ unchanged - m → more ≡ min (added + n) 4000001 → overflows ≡ false →
        IsCount new less more (term_count (take (i + 1) mapped) + term_count (drop (i + 1) states))
    counted_next m n less more before_is after_is fewer count fits =
        let before = so_far.counted fits in
        let added_before = before.added_is in
        let total = before.total_is in
        record {
          changed = before.changed + length q.terms;
          added_is = omega (arith, count, after_is, added_before);
          total_is = omega (arith, fewer, before_is, unchanged_terms, total, rest_before, count_next);
        }

    -- a form that is another one now
    pub IsTally-changed : (m n less more : ℕ) → m ≡ length form.terms → n ≡ length q.terms → has_large_coefficient q ≡ false → (overflows ≡ false → has_large_constant q ≡ false) →
        less ≡ unchanged - m → more ≡ min (added + n) 4000001 → IsTally states serial new (i + 1) overflows less more
    IsTally-changed m n less more before_is after_is small constant fewer count = record {
      small = small_next small;
      overflow = overflow_next overflows (stays_by overflows (has_large_constant q) constant);
      counted = counted_next m n less more before_is after_is fewer count;
      rest = omega (arith, fewer, before_is, so_far.rest, rest_before);
      few = omega (arith, fewer, so_far.few);
      bounded = omega (arith, count);
    }

    -- a form that overflows
    pub IsTally-overflows : has_large_coefficient q ≡ false → (overflows ≡ false → has_large_constant q ≡ true) → IsTally states serial new (i + 1) true unchanged added
    IsTally-overflows small large = record {
      small = small_next small;
      overflow = overflow_next true (grows_by overflows (has_large_constant q) large);
      counted = λ fits. absurd cc;
      rest = omega (arith, so_far.rest, rest_before);
      few = so_far.few;
      bounded = so_far.bounded;
    }

-- before the first form
pub tally-start : (states : States) (serial : ℕ) (new : LinearForm) (overflows : Bool) (unchanged added : ℕ) → overflows ≡ has_large_constant new → unchanged ≡ term_count states → added ≡ min (length new.terms) 4000001 → unchanged ≤ 4000000 →
    IsTally states serial new 0 overflows unchanged added
tally-start states serial new overflows unchanged added over count more few = record {
  small = refl;
  overflow = over ∙ sym (or_false_right (has_large_constant new));
  counted = λ fits. record { changed = 0; added_is = omega (arith, more); total_is = omega (arith, count) };
  rest = omega (arith, count);
  few = few;
  bounded = omega (arith, more);
}
