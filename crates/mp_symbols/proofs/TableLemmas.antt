-- What is to be undone, and the groups that are open.
use Rattle.std.proofs.Common.{◌≡◌, ℕ, ◌<◌, ◌≤◌, true, false, cond, nat_lt, List, [], ◌∷◌, ◌++◌, length, reverse, refl, sym, ap, ◌∙◌, arith}
use Rattle.std.proofs.lemmas.Bool.{and_parts, and_from, lt-ltb, ltb-true, cond-true}
use Rattle.std.proofs.lemmas.List.{reverse-append, length-reverse}
use Rattle.mp_symbols.specs.Tables.{is_open, is_sound}
use Rattle.mp_symbols.specs.declared.saved.Saved.{Saved}
use Rattle.mp_symbols.specs.declared.saved.Saved.TheVariants.{Boundary, Meaning, Number}

false-true : false ≡ true → ⊥
false-true e = cc

module _ {M : Type 0} where
  -- in a table that has grown
  pub is_sound-more : (names internals names' internals' : ℕ) (saved : List (Saved M)) → names ≤ names' → internals ≤ internals' → is_sound names internals saved ≡ true → is_sound names' internals' saved ≡ true
  is_sound-more names internals names' internals' [] a b kept = refl
  is_sound-more names internals names' internals' (Boundary ∷ older) a b kept = is_sound-more names internals names' internals' older a b kept
  is_sound-more names internals names' internals' (Meaning symbol old ∷ older) a b kept =
      let parts = and_parts (nat_lt symbol names) _ kept in
      let rest = and_parts (is_open older) _ parts.1 in
      and_from _ _ (lt-ltb symbol names' (omega (arith, ltb-true symbol names parts.0)))
      (and_from _ _ rest.0 (is_sound-more names internals names' internals' older a b rest.1))
  is_sound-more names internals names' internals' (Number k old ∷ older) a b kept =
      let parts = and_parts (nat_lt k internals) _ kept in
      let rest = and_parts (is_open older) _ parts.1 in
      and_from _ _ (lt-ltb k internals' (omega (arith, ltb-true k internals parts.0)))
      (and_from _ _ rest.0 (is_sound-more names internals names' internals' older a b rest.1))

  -- something to undo stands in a group
  pub is_open-some : (names internals : ℕ) (saved : List (Saved M)) → is_sound names internals saved ≡ true → 0 < length saved → is_open saved ≡ true
  is_open-some names internals [] kept some = absurd (omega arith)
  is_open-some names internals (Boundary ∷ older) kept some = refl
  is_open-some names internals (Meaning symbol old ∷ older) kept some = (and_parts (is_open older) _ ((and_parts (nat_lt symbol names) _ kept).1)).0
  is_open-some names internals (Number k old ∷ older) kept some = (and_parts (is_open older) _ ((and_parts (nat_lt k internals) _ kept).1)).0

  -- so where no group is open there is nothing, and what is said of that holds
  pub is_open-not : {X : Type 0} (names internals : ℕ) (saved : List (Saved M)) → is_sound names internals (reverse saved) ≡ true → 0 < length saved → is_open (reverse saved) ≡ false → X
  is_open-not names internals saved sound some closed =
      let open_now = is_open-some names internals (reverse saved) sound (omega (arith, length-reverse saved)) in
      absurd (false-true (sym closed ∙ open_now))

  -- one more thing to undo, in a group
  pub record Saves (names internals : ℕ) (old new : List (Saved M)) (entry : Saved M) : Type 0 where
    pub kept : is_sound names internals (reverse new) ≡ true
    pub saved : reverse new ≡ cond (is_open (reverse old)) (entry ∷ reverse old) (reverse old)

  Saves-push : (names internals : ℕ) (old new : List (Saved M)) (entry : Saved M) → new ≡ old ++ entry ∷ [] → is_open (reverse old) ≡ true
      → is_sound names internals (entry ∷ reverse old) ≡ true → Saves names internals old new entry
  Saves-push names internals old new entry pushed inside kept =
      let turned : reverse new ≡ entry ∷ reverse old = ap reverse pushed ∙ reverse-append old (entry ∷ []) in
      record {
        kept = ap (is_sound names internals) turned ∙ kept;
        saved = turned ∙ sym (cond-true (is_open (reverse old)) _ _ inside);
      }

  pub Saves-symbol : (names internals symbol : ℕ) (meaning : M) (old new : List (Saved M)) → new ≡ old ++ Meaning symbol meaning ∷ [] → 0 < length old
      → symbol < names → is_sound names internals (reverse old) ≡ true → Saves names internals old new (Meaning symbol meaning)
  Saves-symbol names internals symbol meaning old new pushed some known kept =
      let inside = is_open-some names internals (reverse old) kept (omega (arith, length-reverse old)) in
      Saves-push names internals old new _ pushed inside
      (and_from _ _ (lt-ltb symbol names known) (and_from _ _ inside kept))

  pub Saves-internal : (names internals k : ℕ) (value : _) (old new : List (Saved M)) → new ≡ old ++ Number k value ∷ [] → 0 < length old
      → k < internals → is_sound names internals (reverse old) ≡ true → Saves names internals old new (Number k value)
  Saves-internal names internals k value old new pushed some known kept =
      let inside = is_open-some names internals (reverse old) kept (omega (arith, length-reverse old)) in
      Saves-push names internals old new _ pushed inside
      (and_from _ _ (lt-ltb k internals known) (and_from _ _ inside kept))

  -- the newest thing to undo is of a symbol that there is
  pub known_symbol : (names internals symbol : ℕ) (meaning : M) (old new : List (Saved M)) → old ≡ new ++ Meaning symbol meaning ∷ [] → is_sound names internals (reverse old) ≡ true → symbol < names
  known_symbol names internals symbol meaning old new popped kept =
      let turned : reverse old ≡ Meaning symbol meaning ∷ reverse new = ap reverse popped ∙ reverse-append new (Meaning symbol meaning ∷ []) in
      ltb-true symbol names (and_parts (nat_lt symbol names) _ (sym (ap (is_sound names internals) turned) ∙ kept)).0
