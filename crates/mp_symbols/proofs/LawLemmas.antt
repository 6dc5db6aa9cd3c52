-- Tables after many calls.
use Rattle.std.proofs.Common.{◌≡◌, ℕ, ◌<◌, ◌≤◌, zero, suc, ◌+◌, ℤ, Bool, true, false, cond, not, ◌||◌, nat_eq, List, [], ◌∷◌, ◌++◌, length, fold, slice_get, slice_set, Option, Some, None, is_some, refl, sym, ap, subst, ◌∙◌, arith, length-append}
use Rattle.std.specs.List.{position_or_len, filter}
use Rattle.std.specs.Str.{bytes_eq}
use Rattle.std.proofs.lemmas.Bool.{eqb-true, eqb-false, ne_eqb}
use Rattle.std.proofs.lemmas.List.Sums.{fold-append}
use Rattle.mp_symbols.specs.Names.{Names, number_in, meaning_in, with_name, with_meaning}
use Rattle.mp_symbols.specs.Tables.{Table, is_open}
use Rattle.mp_symbols.specs.Groups.{close_by, open_group, save, save_by, save_internal, save_internal_by}
use Rattle.mp_symbols.specs.Calls.{Change, NumberOf, SetMeaning, NewInternal, SetInternal, Call, Changes, Save, SaveInternal, OpenGroup, CloseGroup, Inside, End, Then, Saves, SavesInternal, Group, changed, called, ended_by, ended, after, has_saved, has_saved_internal, is_given_back, lasting, IsForGood, GivesBack}
use Rattle.mp_symbols.specs.declared.saved.Saved.{Saved}
use Rattle.mp_symbols.specs.declared.saved.Saved.TheVariants.{Boundary, Meaning, Number}
use Rattle.mp_symbols.proofs.NameLemmas.{position_is, number_in-with_name, length-with_meaning}

some-is : {X : Type 0} (x y : X) → Some x ≡ Some y → x ≡ y
some-is x y e = cc

eq-suc : (j k : ℕ) → nat_eq (suc j) (suc k) ≡ false → nat_eq j k ≡ false
eq-suc j k ne = ne_eqb j k (λ e. eqb-false (suc j) (suc k) ne (ap suc e))

module _ {M : Type 0} where
  -- another meaning leaves the numbers
  place-with_meaning : (names : Names M) (symbol : ℕ) (new : M) (name : List ℕ)
      → position_or_len (λ e. bytes_eq name e.0) (with_meaning names symbol new) ≡ position_or_len (λ e. bytes_eq name e.0) names
  place-with_meaning [] symbol new name = refl
  place-with_meaning (entry ∷ more) zero new name = refl
  place-with_meaning (entry ∷ more) (suc symbol) new name = ap (λ n. cond (not (bytes_eq name entry.0)) (1 + n) 0) (place-with_meaning more symbol new name)

  number_in-with_meaning : (names : Names M) (symbol : ℕ) (new : M) (name : List ℕ) → number_in (with_meaning names symbol new) name ≡ number_in names name
  number_in-with_meaning names symbol new name =
      position_is _ (with_meaning names symbol new) _ _ (place-with_meaning names symbol new name) (length-with_meaning names symbol new)

  number_in-undone : (saved : List (Saved M)) (table : Table M) (name : List ℕ) → number_in (close_by saved table).1.names name ≡ number_in table.names name
  number_in-undone [] table name = refl
  number_in-undone (Boundary ∷ older) table name = refl
  number_in-undone (Meaning symbol old ∷ older) table name = number_in-with_meaning table.names symbol old name
  number_in-undone (Number k old ∷ older) table name = refl

  number_in-saved : (table : Table M) (symbol : ℕ) (fresh : M) (name : List ℕ) (o : Option M) → number_in (save_by o table symbol fresh).names name ≡ number_in table.names name
  number_in-saved table symbol fresh name None = refl
  number_in-saved table symbol fresh name (Some old) = number_in-with_meaning table.names symbol fresh name

  names-saved_internal : (table : Table M) (k : ℕ) (o : Option ℤ) → (save_internal_by o table k).names ≡ table.names
  names-saved_internal table k None = refl
  names-saved_internal table k (Some value) = refl

  number_in-called : (table : Table M) (call : Call M) (name : List ℕ) (k : ℕ) → number_in table.names name ≡ Some k → number_in (called table call).names name ≡ Some k
  number_in-called table (Changes (NumberOf other fresh)) name k at = number_in-with_name table.names name other fresh k at
  number_in-called table (Changes (SetMeaning symbol new)) name k at = number_in-with_meaning table.names symbol new name ∙ at
  number_in-called table (Changes (NewInternal value)) name k at = at
  number_in-called table (Changes (SetInternal j value)) name k at = at
  number_in-called table (Save symbol fresh) name k at = number_in-saved table symbol fresh name (meaning_in table.names symbol) ∙ at
  number_in-called table (SaveInternal j) name k at = ap (λ names. number_in names name) (names-saved_internal table j (slice_get table.internals j)) ∙ at
  number_in-called table OpenGroup name k at = at
  number_in-called table CloseGroup name k at = number_in-undone table.saved table name ∙ at

  pub IsForGood-calls : (table : Table M) (calls : List (Call M)) → IsForGood table calls
  IsForGood-calls table [] name k at = at
  IsForGood-calls table (call ∷ calls) name k at = IsForGood-calls (called table call) calls name k (number_in-called table call name k at)

-- two values at one place, and at two
slice_set-twice : (values : List ℤ) (k : ℕ) (v w : ℤ) → slice_set (slice_set values k v) k w ≡ slice_set values k w
slice_set-twice [] k v w = refl
slice_set-twice (x ∷ xs) zero v w = refl
slice_set-twice (x ∷ xs) (suc k) v w = ap (λ rest. x ∷ rest) (slice_set-twice xs k v w)

slice_set-apart : (values : List ℤ) (j k : ℕ) (v w : ℤ) → nat_eq j k ≡ false → slice_set (slice_set values j v) k w ≡ slice_set (slice_set values k w) j v
slice_set-apart [] j k v w ne = refl
slice_set-apart (x ∷ xs) zero zero v w ne = cc
slice_set-apart (x ∷ xs) zero (suc k) v w ne = refl
slice_set-apart (x ∷ xs) (suc j) zero v w ne = refl
slice_set-apart (x ∷ xs) (suc j) (suc k) v w ne = ap (λ rest. x ∷ rest) (slice_set-apart xs j k v w (eq-suc j k ne))

-- the value that is there
slice_set-own : (values : List ℤ) (k : ℕ) (v : ℤ) → slice_get values k ≡ Some v → slice_set values k v ≡ values
slice_set-own [] k v at = refl
slice_set-own (x ∷ xs) zero v at = ap (λ y. y ∷ xs) (sym (some-is x v at))
slice_set-own (x ∷ xs) (suc k) v at = ap (λ rest. x ∷ rest) (slice_set-own xs k v at)

slice_set-before : (values more : List ℤ) (k : ℕ) (v : ℤ) → k < length values → slice_set (values ++ more) k v ≡ slice_set values k v ++ more
slice_set-before [] more k v lt = absurd (omega arith)
slice_set-before (x ∷ xs) more zero v lt = refl
slice_set-before (x ∷ xs) more (suc k) v lt = ap (λ rest. x ∷ rest) (slice_set-before xs more k v (omega arith))

length-slice_set : (values : List ℤ) (k : ℕ) (v : ℤ) → length (slice_set values k v) ≡ length values
length-slice_set [] k v = refl
length-slice_set (x ∷ xs) zero v = refl
length-slice_set (x ∷ xs) (suc k) v = ap suc (length-slice_set xs k v)

within-some : (values : List ℤ) (k : ℕ) (v : ℤ) → slice_get values k ≡ Some v → k < length values
within-some [] k v at = cc
within-some (x ∷ xs) zero v at = omega arith
within-some (x ∷ xs) (suc k) v at = omega (arith, within-some xs k v at)

module _ {M : Type 0} where
  with_meaning-twice : (names : Names M) (n : ℕ) (a b : M) → with_meaning (with_meaning names n a) n b ≡ with_meaning names n b
  with_meaning-twice [] n a b = refl
  with_meaning-twice (entry ∷ more) zero a b = refl
  with_meaning-twice (entry ∷ more) (suc n) a b = ap (λ rest. entry ∷ rest) (with_meaning-twice more n a b)

  with_meaning-apart : (names : Names M) (n k : ℕ) (a b : M) → nat_eq n k ≡ false → with_meaning (with_meaning names n a) k b ≡ with_meaning (with_meaning names k b) n a
  with_meaning-apart [] n k a b ne = refl
  with_meaning-apart (entry ∷ more) zero zero a b ne = cc
  with_meaning-apart (entry ∷ more) zero (suc k) a b ne = refl
  with_meaning-apart (entry ∷ more) (suc n) zero a b ne = refl
  with_meaning-apart (entry ∷ more) (suc n) (suc k) a b ne = ap (λ rest. entry ∷ rest) (with_meaning-apart more n k a b (eq-suc n k ne))

  -- the meaning that is there
  with_meaning-own : (names : Names M) (n : ℕ) (a : M) → meaning_in names n ≡ Some a → with_meaning names n a ≡ names
  with_meaning-own [] n a at = refl
  with_meaning-own (entry ∷ more) zero a at = ap (λ m. (entry.0, m) ∷ more) (sym (some-is entry.1 a at))
  with_meaning-own (entry ∷ more) (suc n) a at = ap (λ rest. entry ∷ rest) (with_meaning-own more n a at)

  with_meaning-before : (names more : Names M) (n : ℕ) (a : M) → n < length names → with_meaning (names ++ more) n a ≡ with_meaning names n a ++ more
  with_meaning-before [] more n a lt = absurd (omega arith)
  with_meaning-before (entry ∷ rest) more zero a lt = refl
  with_meaning-before (entry ∷ rest) more (suc n) a lt = ap (λ after. entry ∷ after) (with_meaning-before rest more n a (omega arith))

  known-some : (names : Names M) (n : ℕ) (a : M) → meaning_in names n ≡ Some a → n < length names
  known-some [] n a at = cc
  known-some (entry ∷ more) zero a at = omega arith
  known-some (entry ∷ more) (suc n) a at = omega (arith, known-some more n a at)

  -- a name, and a meaning of another
  with_meaning-with_name : (names : Names M) (n : ℕ) (a : M) (name : List ℕ) (fresh : M) → n < length names
      → with_meaning (with_name names name fresh) n a ≡ with_name (with_meaning names n a) name fresh
  with_meaning-with_name names n a name fresh lt =
      by (is_some (number_in names name))
      ∙ sym (ap (λ o. cond (is_some o) (with_meaning names n a) (with_meaning names n a ++ (name, fresh) ∷ [])) (number_in-with_meaning names n a name))
    where
      by : (b : Bool) → with_meaning (cond b names (names ++ (name, fresh) ∷ [])) n a ≡ cond b (with_meaning names n a) (with_meaning names n a ++ (name, fresh) ∷ [])
      by true = refl
      by false = with_meaning-before names ((name, fresh) ∷ []) n a lt

  length-with_name-le : (names : Names M) (name : List ℕ) (fresh : M) → length names ≤ length (with_name names name fresh)
  length-with_name-le names name fresh = by (is_some (number_in names name))
    where
      by : (b : Bool) → length names ≤ length (cond b names (names ++ (name, fresh) ∷ []))
      by true = omega arith
      by false = omega (arith, length-append names ((name, fresh) ∷ []))

  -- a group is open, and what it saved is of symbols and internals that there are
  abbrev pub IsInGroup : ℕ → ℕ → List (Saved M) → Type 0
  IsInGroup names internals [] = ⊥
  IsInGroup names internals (Boundary ∷ older) = Unit {0}
  IsInGroup names internals (Meaning symbol old ∷ older) = (symbol < names) × IsInGroup names internals older
  IsInGroup names internals (Number k old ∷ older) = (k < internals) × IsInGroup names internals older

  abbrev pub IsInside : Table M → Type 0
  IsInside t = IsInGroup (length t.names) (length t.internals) t.saved

  IsInGroup-more : (a b c d : ℕ) (saved : List (Saved M)) → a ≤ c → b ≤ d → IsInGroup a b saved → IsInGroup c d saved
  IsInGroup-more a b c d [] ac bd i = absurd i
  IsInGroup-more a b c d (Boundary ∷ older) ac bd i = tt
  IsInGroup-more a b c d (Meaning symbol old ∷ older) ac bd i = (omega (arith, i.0), IsInGroup-more a b c d older ac bd i.1)
  IsInGroup-more a b c d (Number k old ∷ older) ac bd i = (omega (arith, i.0), IsInGroup-more a b c d older ac bd i.1)

  is_open-in : (a b : ℕ) (saved : List (Saved M)) → IsInGroup a b saved → is_open saved ≡ true
  is_open-in a b [] i = absurd i
  is_open-in a b (Boundary ∷ older) i = refl
  is_open-in a b (Meaning symbol old ∷ older) i = is_open-in a b older i.1
  is_open-in a b (Number k old ∷ older) i = is_open-in a b older i.1

  -- the names, the internals and what is left to undo, when the innermost group has ended
  abbrev pub names_back : List (Saved M) → Names M → Names M
  names_back [] names = names
  names_back (Boundary ∷ older) names = names
  names_back (Meaning symbol old ∷ older) names = names_back older (with_meaning names symbol old)
  names_back (Number k old ∷ older) names = names_back older names

  abbrev pub values_back : List (Saved M) → List ℤ → List ℤ
  values_back [] values = values
  values_back (Boundary ∷ older) values = values
  values_back (Meaning symbol old ∷ older) values = values_back older values
  values_back (Number k old ∷ older) values = values_back older (slice_set values k old)

  abbrev pub outer : List (Saved M) → List (Saved M)
  outer [] = []
  outer (Boundary ∷ older) = older
  outer (Meaning symbol old ∷ older) = outer older
  outer (Number k old ∷ older) = outer older

  abbrev pub table_of : Names M → List ℤ → List (Saved M) → Table M
  table_of names values saved = record { names = names; internals = values; saved = saved }

  ended-parts : (names : Names M) (values : List ℤ) (saved : List (Saved M))
      → ended_by saved (table_of names values saved) ≡ table_of (names_back saved names) (values_back saved values) (outer saved)
  ended-parts names values [] = refl
  ended-parts names values (Boundary ∷ older) = refl
  ended-parts names values (Meaning symbol old ∷ older) = ended-parts (with_meaning names symbol old) values older
  ended-parts names values (Number k old ∷ older) = ended-parts names (slice_set values k old) older

  -- a new name lasts
  back-name : (saved : List (Saved M)) (names : Names M) (b : ℕ) (name : List ℕ) (fresh : M) → IsInGroup (length names) b saved
      → names_back saved (with_name names name fresh) ≡ with_name (names_back saved names) name fresh
  back-name [] names b name fresh i = refl
  back-name (Boundary ∷ older) names b name fresh i = refl
  back-name (Meaning symbol old ∷ older) names b name fresh i =
      ap (names_back older) (with_meaning-with_name names symbol old name fresh i.0)
      ∙ back-name older (with_meaning names symbol old) b name fresh (rw (length-with_meaning names symbol old) i.1)
  back-name (Number k old ∷ older) names b name fresh i = back-name older names b name fresh i.1

  -- a new internal lasts
  back-value : (saved : List (Saved M)) (values : List ℤ) (a : ℕ) (value : ℤ) → IsInGroup a (length values) saved
      → values_back saved (values ++ value ∷ []) ≡ values_back saved values ++ value ∷ []
  back-value [] values a value i = refl
  back-value (Boundary ∷ older) values a value i = refl
  back-value (Meaning symbol old ∷ older) values a value i = back-value older values a value i.1
  back-value (Number k old ∷ older) values a value i =
      ap (values_back older) (slice_set-before values (value ∷ []) k old i.0)
      ∙ back-value older (slice_set values k old) a value (rw (length-slice_set values k old) i.1)

  -- another meaning lasts, unless the symbol was saved
  back-set : (saved : List (Saved M)) (names : Names M) (n : ℕ) (new : M)
      → names_back saved (with_meaning names n new) ≡ cond (has_saved n saved) (names_back saved names) (with_meaning (names_back saved names) n new)
  back-set [] names n new = refl
  back-set (Boundary ∷ older) names n new = refl
  back-set (Number k old ∷ older) names n new = back-set older names n new
  back-set (Meaning symbol old ∷ older) names n new = by (nat_eq n symbol) refl (back-set older (with_meaning names symbol old) n new)
    where
      after : Names M
      after = names_back older (with_meaning names symbol old)

      by : (b : Bool) → nat_eq n symbol ≡ b → names_back older (with_meaning (with_meaning names symbol old) n new) ≡ cond (has_saved n older) after (with_meaning after n new)
          → names_back older (with_meaning (with_meaning names n new) symbol old) ≡ cond (nat_eq n symbol || has_saved n older) after (with_meaning after n new)
      by true e others =
          ap (λ k. names_back older (with_meaning (with_meaning names k new) symbol old)) (eqb-true n symbol e)
          ∙ ap (names_back older) (with_meaning-twice names symbol new old)
          ∙ sym (ap (λ b. cond (b || has_saved n older) after (with_meaning after n new)) e)
      by false e others =
          ap (names_back older) (with_meaning-apart names n symbol new old e)
          ∙ others
          ∙ sym (ap (λ b. cond (b || has_saved n older) after (with_meaning after n new)) e)

  -- another value lasts, unless the internal was saved
  back-value_set : (saved : List (Saved M)) (values : List ℤ) (k : ℕ) (new : ℤ)
      → values_back saved (slice_set values k new) ≡ cond (has_saved_internal k saved) (values_back saved values) (slice_set (values_back saved values) k new)
  back-value_set [] values k new = refl
  back-value_set (Boundary ∷ older) values k new = refl
  back-value_set (Meaning symbol old ∷ older) values k new = back-value_set older values k new
  back-value_set (Number other old ∷ older) values k new = by (nat_eq k other) refl (back-value_set older (slice_set values other old) k new)
    where
      after : List ℤ
      after = values_back older (slice_set values other old)

      by : (b : Bool) → nat_eq k other ≡ b → values_back older (slice_set (slice_set values other old) k new) ≡ cond (has_saved_internal k older) after (slice_set after k new)
          → values_back older (slice_set (slice_set values k new) other old) ≡ cond (nat_eq k other || has_saved_internal k older) after (slice_set after k new)
      by true e others =
          ap (λ j. values_back older (slice_set (slice_set values j new) other old)) (eqb-true k other e)
          ∙ ap (values_back older) (slice_set-twice values other new old)
          ∙ sym (ap (λ b. cond (b || has_saved_internal k older) after (slice_set after k new)) e)
      by false e others =
          ap (values_back older) (slice_set-apart values k other new old e)
          ∙ others
          ∙ sym (ap (λ b. cond (b || has_saved_internal k older) after (slice_set after k new)) e)

  -- what the end of the group makes of a change
  abbrev pub chosen : Bool → Change M → Table M → Table M
  chosen given change e = cond given e (changed e change)

  chosen-names : (given : Bool) (symbol : ℕ) (new : M) (names names' : Names M) (values : List ℤ) (saved : List (Saved M))
      → names' ≡ cond given names (with_meaning names symbol new) → table_of names' values saved ≡ chosen given (SetMeaning symbol new) (table_of names values saved)
  chosen-names true symbol new names names' values saved e = ap (λ n. table_of n values saved) e
  chosen-names false symbol new names names' values saved e = ap (λ n. table_of n values saved) e

  chosen-values : (given : Bool) (k : ℕ) (new : ℤ) (names : Names M) (values values' : List ℤ) (saved : List (Saved M))
      → values' ≡ cond given values (slice_set values k new) → table_of names values' saved ≡ chosen given (SetInternal k new) (table_of names values saved)
  chosen-values true k new names values values' saved e = ap (λ v. table_of names v saved) e
  chosen-values false k new names values values' saved e = ap (λ v. table_of names v saved) e

  ended-changed : (t : Table M) (change : Change M) → IsInside t → ended (changed t change) ≡ chosen (is_given_back t.saved change) change (ended t)
  ended-changed t (NumberOf name fresh) i =
      ended-parts (with_name t.names name fresh) t.internals t.saved
      ∙ ap (λ n. table_of n (values_back t.saved t.internals) (outer t.saved)) (back-name t.saved t.names _ name fresh i)
      ∙ sym (ap (λ e. changed e (NumberOf name fresh)) (ended-parts t.names t.internals t.saved))
  ended-changed t (SetMeaning symbol new) i =
      ended-parts (with_meaning t.names symbol new) t.internals t.saved
      ∙ chosen-names (has_saved symbol t.saved) symbol new _ _ _ _ (back-set t.saved t.names symbol new)
      ∙ sym (ap (chosen (has_saved symbol t.saved) (SetMeaning symbol new)) (ended-parts t.names t.internals t.saved))
  ended-changed t (NewInternal value) i =
      ended-parts t.names (t.internals ++ value ∷ []) t.saved
      ∙ ap (λ v. table_of (names_back t.saved t.names) v (outer t.saved)) (back-value t.saved t.internals _ value i)
      ∙ sym (ap (λ e. changed e (NewInternal value)) (ended-parts t.names t.internals t.saved))
  ended-changed t (SetInternal k new) i =
      ended-parts t.names (slice_set t.internals k new) t.saved
      ∙ chosen-values (has_saved_internal k t.saved) k new _ _ _ _ (back-value_set t.saved t.internals k new)
      ∙ sym (ap (chosen (has_saved_internal k t.saved) (SetInternal k new)) (ended-parts t.names t.internals t.saved))

  IsInside-changed : (t : Table M) (change : Change M) → IsInside t → IsInside (changed t change)
  IsInside-changed t (NumberOf name fresh) i = IsInGroup-more _ _ _ _ t.saved (length-with_name-le t.names name fresh) (omega arith) i
  IsInside-changed t (SetMeaning symbol new) i = subst (λ n. IsInGroup n (length t.internals) t.saved) (sym (length-with_meaning t.names symbol new)) i
  IsInside-changed t (NewInternal value) i = IsInGroup-more _ _ _ _ t.saved (omega arith) (omega (arith, length-append t.internals (value ∷ []))) i
  IsInside-changed t (SetInternal k new) i = rw (length-slice_set t.internals k new) i

  saved-changed : (t : Table M) (change : Change M) → (changed t change).saved ≡ t.saved
  saved-changed t (NumberOf name fresh) = refl
  saved-changed t (SetMeaning symbol new) = refl
  saved-changed t (NewInternal value) = refl
  saved-changed t (SetInternal k new) = refl

  -- a table after which the group leaves these changes of the first
  record Leaves (t new : Table M) (changes : List (Change M)) : Type 0 where
    inside : IsInside new
    left : ended new ≡ fold changed (ended t) changes

  -- what is saved leaves nothing
  Leaves-save : (t : Table M) (symbol : ℕ) (fresh : M) (o : Option M) → meaning_in t.names symbol ≡ o → IsInside t → Leaves t (save_by o t symbol fresh) []
  Leaves-save t symbol fresh None at i = record { inside = i; left = refl }
  Leaves-save t symbol fresh (Some old) at i =
      let is : table_of (with_meaning t.names symbol fresh) t.internals (Meaning symbol old ∷ t.saved) ≡ save_by (Some old) t symbol fresh =
      ap (λ b. table_of (with_meaning t.names symbol fresh) t.internals (cond b (Meaning symbol old ∷ t.saved) t.saved)) (sym (is_open-in _ _ t.saved i)) in
      let same = length-with_meaning t.names symbol fresh in
      let known = known-some t.names symbol old at in
      subst (λ new. Leaves t new []) is
      (record {
        inside = (omega (arith, same, known), subst (λ n. IsInGroup n (length t.internals) t.saved) (sym same) i);
        left = ended-parts (with_meaning t.names symbol fresh) t.internals (Meaning symbol old ∷ t.saved)
            ∙ ap (λ n. table_of (names_back t.saved n) (values_back t.saved t.internals) (outer t.saved)) (with_meaning-twice t.names symbol fresh old ∙ with_meaning-own t.names symbol old at)
            ∙ sym (ended-parts t.names t.internals t.saved);
      })

  Leaves-save_internal : (t : Table M) (k : ℕ) (o : Option ℤ) → slice_get t.internals k ≡ o → IsInside t → Leaves t (save_internal_by o t k) []
  Leaves-save_internal t k None at i = record { inside = i; left = refl }
  Leaves-save_internal t k (Some value) at i =
      let is : table_of t.names t.internals (Number k value ∷ t.saved) ≡ save_internal_by (Some value) t k =
      ap (λ b. table_of t.names t.internals (cond b (Number k value ∷ t.saved) t.saved)) (sym (is_open-in _ _ t.saved i)) in
      subst (λ new. Leaves t new []) is
      (record {
        inside = (within-some t.internals k value at, i);
        left = ended-parts t.names t.internals (Number k value ∷ t.saved)
            ∙ ap (λ v. table_of (names_back t.saved t.names) (values_back t.saved v) (outer t.saved)) (slice_set-own t.internals k value at)
            ∙ sym (ended-parts t.names t.internals t.saved);
      })

  chosen-first : (given : Bool) (change : Change M) (e : Table M) (more : List (Change M)) → fold changed (chosen given change e) more ≡ fold changed e (cond given more (change ∷ more))
  chosen-first true change e more = refl
  chosen-first false change e more = refl

  filtered-first : (given : Bool) (change : Change M) (e : Table M) (more : List (Change M)) → fold changed (chosen given change e) more ≡ fold changed e (cond (not given) (change ∷ more) more)
  filtered-first true change e more = refl
  filtered-first false change e more = refl

  -- after changes, as those that an inner group left
  Leaves-changes : (changes : List (Change M)) (t : Table M) → IsInside t → Leaves t (fold changed t changes) (filter (λ c. not (is_given_back t.saved c)) changes)
  Leaves-changes [] t i = record { inside = i; left = refl }
  Leaves-changes (change ∷ more) t i =
      let rest = Leaves-changes more (changed t change) (IsInside-changed t change i) in
      let those = λ (saved : List (Saved M)). filter (λ c. not (is_given_back saved c)) more in
      record {
        inside = rest.inside;
        left = rest.left
            ∙ ap (λ saved. fold changed (ended (changed t change)) (those saved)) (saved-changed t change)
            ∙ ap (λ e. fold changed e (those t.saved)) (ended-changed t change i)
            ∙ filtered-first (is_given_back t.saved change) change (ended t) (those t.saved);
      }

  Leaves-then : (t next new : Table M) (more : List (Change M)) → Leaves t next [] → Leaves next new more → Leaves t new more
  Leaves-then t next new more first rest = record { inside = rest.inside; left = rest.left ∙ ap (λ e. fold changed e more) first.left }

  -- what is done in a group leaves what lasts of it
  Leaves-inside : (inside : Inside M) (t : Table M) → IsInside t → Leaves t (after inside t) (lasting inside t)
  Leaves-inside End t i = record { inside = i; left = refl }
  Leaves-inside (Then change more) t i =
      let rest = Leaves-inside more (changed t change) (IsInside-changed t change i) in
      record {
        inside = rest.inside;
        left = rest.left ∙ ap (λ e. fold changed e (lasting more (changed t change))) (ended-changed t change i)
            ∙ chosen-first (is_given_back t.saved change) change (ended t) (lasting more (changed t change));
      }
  Leaves-inside (Saves symbol fresh more) t i =
      let first = Leaves-save t symbol fresh (meaning_in t.names symbol) refl i in
      Leaves-then t (save t symbol fresh) _ _ first (Leaves-inside more (save t symbol fresh) first.inside)
  Leaves-inside (SavesInternal k more) t i =
      let first = Leaves-save_internal t k (slice_get t.internals k) refl i in
      Leaves-then t (save_internal t k) _ _ first (Leaves-inside more (save_internal t k) first.inside)
  Leaves-inside (Group inner more) t i =
      let changes = lasting inner (open_group t) in
      let next = ended (after inner (open_group t)) in
      let is : next ≡ fold changed t changes = (Leaves-inside inner (open_group t) tt).left in
      let first = Leaves-changes changes t i in
      let rest = Leaves-inside more next (subst IsInside (sym is) first.inside) in
      record {
        inside = rest.inside;
        left = rest.left ∙ ap (λ e. fold changed e (lasting more next)) (ap ended is ∙ first.left)
            ∙ sym (fold-append changed (ended t) (filter (λ c. not (is_given_back t.saved c)) changes) (lasting more next));
      }

  pub GivesBack-inside : (table : Table M) (inside : Inside M) → GivesBack table inside
  GivesBack-inside table inside = (Leaves-inside inside (open_group table) tt).left
