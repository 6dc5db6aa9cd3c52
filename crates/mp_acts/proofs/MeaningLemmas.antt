-- Changes of the table of names, after which meanings still speak of what there is.
use Rattle.std.proofs.Common.{◌≡◌, ℕ, zero, suc, ◌+◌, ◌≤◌, ℤ, Bool, true, false, if◌then◌else◌, List, [], ◌∷◌, ◌++◌, Option, Some, None, length, map, drop, refl, sym, ap, subst, arith, length-append}
use Rattle.std.specs.Prelude.{slice_set, slice_get, is_some, cond, codes}
use Rattle.std.specs.List.{All}
use Rattle.std.proofs.lemmas.List.{length-set, length-map}
use Rattle.std.proofs.lemmas.List.Elements.{All-nil, All-cons, All-head, All-tail, All-push, All-append, All-map}
use Rattle.mp_symbols.specs.Names.{Names, number_in, with_name, with_meaning, meaning_in}
use Rattle.mp_symbols.specs.Tables.{Table, is_open}
use Rattle.mp_symbols.specs.Groups.{with_symbol, with_internal, open_group, with_saved_in_group, save, save_by, save_internal, save_internal_by, close_by, close_group}
use Rattle.mp_symbols.specs.declared.saved.Saved.{Saved}
use Rattle.mp_symbols.specs.declared.saved.Saved.TheVariants as saved
use Rattle.mp_tokens.specs.Items.{Item, with_item, with_items, with_names_of}
use Rattle.mp_tokens.specs.Items as item
use Rattle.mp_solver.specs.States.{States, Unknowns}
use Rattle.mp_solver.specs.Replay.{Event}
use Rattle.mp_values.specs.declared.meaning.Meaning.{Meaning}
use Rattle.mp_values.specs.declared.meaning.Meaning.TheVariants.{NewTag, Internal, Left, Right}
use Rattle.mp_values.specs.declared.word.Word.{Word}
use Rattle.mp_values.specs.declared.word.Word.TheVariants.{Begingroup, Endgroup}
use Rattle.mp_values.specs.Words.{words}
use Rattle.mp_values.specs.declared.value.Value.{Value}
use Rattle.mp_vartree.specs.Variables.{Variables}
use Rattle.mp_acts.specs.Counts.{Counts, IsWithin}
use Rattle.mp_acts.specs.State.{counts_of}
use Rattle.mp_acts.specs.Start.{with_entries, word_entry, unbuilt_entry, internal_entries, first_internals, delimiter_entries, unbuilt_words, first_entries, first_symbols}
use Rattle.mp_acts.specs.Reach.{reach_of_meaning, reach_of_pair, reach_of_saved}
use Rattle.mp_acts.specs.Kept.{IsKept}
use Rattle.mp_acts.proofs.WithinLemmas.{nothing_within, within_more, meanings_more, saved_more, with_table}

pub length-with_meaning : {M : Type 0} (names : Names M) (symbol : ℕ) (new : M) → length (with_meaning names symbol new) ≡ length names
length-with_meaning [] symbol new = refl
length-with_meaning (entry ∷ more) zero new = refl
length-with_meaning (entry ∷ more) (suc symbol) new = ap suc (length-with_meaning more symbol new)

All-always : {A : Type 0} (P : A → Type 0) → ((x : A) → P x) → (xs : List A) → All P xs
All-always P every [] = All-nil P
All-always P every (x ∷ xs) = All-cons P x xs (every x) (All-always P every xs)

-- so many of each for all meanings, and for all that groups give back
abbrev AreIn : Counts → Names Meaning → Type 0
AreIn n names = All (λ entry. IsWithin (reach_of_meaning entry.1) n) names

abbrev AreSavedIn : Counts → List (Saved Meaning) → Type 0
AreSavedIn n entries = All (λ entry. IsWithin (reach_of_saved entry) n) entries

module _ (n : Counts) where
  abbrev P : (List ℕ × Meaning) → Type 0
  P entry = IsWithin (reach_of_meaning entry.1) n

  abbrev Q : Saved Meaning → Type 0
  Q entry = IsWithin (reach_of_saved entry) n

  set_in : (names : Names Meaning) (symbol : ℕ) (new : Meaning) → IsWithin (reach_of_meaning new) n → AreIn n names → AreIn n (with_meaning names symbol new)
  set_in [] symbol new h is = is
  set_in (entry ∷ more) zero new h is = All-cons P (entry.0, new) more h (All-tail P entry more is)
  set_in (entry ∷ more) (suc symbol) new h is = All-cons P entry (with_meaning more symbol new) (All-head P entry more is) (set_in more symbol new h (All-tail P entry more is))

  pub meaning_in_is : (names : Names Meaning) (symbol : ℕ) (m : Meaning) → meaning_in names symbol ≡ Some m → AreIn n names → IsWithin (reach_of_meaning m) n
  meaning_in_is [] symbol m e is = absurd (none e)
    where
      none : {A : Type 0} {x : A} → None ≡ Some x → ⊥
      none e = cc
  meaning_in_is (entry ∷ more) zero m e is = subst (λ (x : Meaning). IsWithin (reach_of_meaning x) n) (same e) (All-head P entry more is)
    where
      same : {A : Type 0} {x y : A} → Some x ≡ Some y → x ≡ y
      same e = cc
  meaning_in_is (entry ∷ more) (suc symbol) m e is = meaning_in_is more symbol m e (All-tail P entry more is)

  saved_in_group : (entries : List (Saved Meaning)) (entry : Saved Meaning) (opened : Bool) → IsWithin (reach_of_saved entry) n → AreSavedIn n entries → AreSavedIn n (if opened then entry ∷ entries else entries)
  saved_in_group entries entry true h is = All-cons Q entry entries h is
  saved_in_group entries entry false h is = is

  named_in : (names : Names Meaning) (name : List ℕ) (new : Meaning) (there : Bool) → IsWithin (reach_of_meaning new) n → AreIn n names → AreIn n (cond there names (names ++ (name, new) ∷ []))
  named_in names name new true h is = is
  named_in names name new false h is = All-push P names (name, new) is h

-- names that items bring
length-named : (names : Names Meaning) (name : List ℕ) (new : Meaning) (there : Bool) → length names ≤ length (cond there names (names ++ (name, new) ∷ []))
length-named names name new true = omega arith
length-named names name new false = omega (arith, length-append names ((name, new) ∷ []))

with_item-grows : (names : Names Meaning) (x : Item) → length names ≤ length (with_item NewTag names x)
with_item-grows names (item.Symbol name) = length-named names name NewTag (is_some (number_in names name))
with_item-grows names (item.Number value) = omega arith
with_item-grows names (item.Quoted text) = omega arith
with_item-grows names (item.Bad cause) = omega arith
with_item-grows names (item.LineEnd n) = omega arith

pub length-with_items : (names : Names Meaning) (items : List Item) → length names ≤ length (with_items NewTag names items)
length-with_items names [] = omega arith
length-with_items names (x ∷ xs) = omega (arith, with_item-grows names x, length-with_items (with_item NewTag names x) xs)

item_in : (n : Counts) (names : Names Meaning) (x : Item) → AreIn n names → AreIn n (with_item NewTag names x)
item_in n names (item.Symbol name) is = named_in n names name NewTag (is_some (number_in names name)) (nothing_within n) is
item_in n names (item.Number value) is = is
item_in n names (item.Quoted text) is = is
item_in n names (item.Bad cause) is = is
item_in n names (item.LineEnd number) is = is

items_in : (n : Counts) (names : Names Meaning) (items : List Item) → AreIn n names → AreIn n (with_items NewTag names items)
items_in n names [] is = is
items_in n names (x ∷ xs) is = items_in n (with_item NewTag names x) xs (item_in n names x is)

-- what is kept of a state, with another table of names
module _ (count : ℕ) (unknowns : Unknowns) (v : Variables) (slots : List (Option Value)) (events : List Event) where
  abbrev pub Kept : Table Meaning → Type 0
  Kept table = IsKept count unknowns v slots table events

  abbrev pub there : Table Meaning → Counts
  there table = counts_of unknowns.states slots table

  -- symbols and internals that are as many
  as_many : (old new : Table Meaning) → length new.names ≡ length old.names → length new.internals ≡ length old.internals → IsWithin (there old) (there new)
  as_many old new names internals = record { unknowns = omega arith; slots = omega arith; symbols = omega (arith, names); internals = omega (arith, internals) }

  set_kept : (table : Table Meaning) (symbol : ℕ) (m : Meaning) → IsWithin (reach_of_meaning m) (there table) → Kept table → Kept (with_symbol table symbol m)
  set_kept table symbol m h is =
      let after = with_symbol table symbol m in
      let more = as_many table after (length-with_meaning table.names symbol m) refl in
      with_table more
      (set_in (there after) table.names symbol m (within_more (reach_of_meaning m) (there table) (there after) h more) (meanings_more table.names (there table) (there after) more is.within.meanings))
      (saved_more table.saved (there table) (there after) more is.within.saved) is

  keep_saved : (table : Table Meaning) (entries : List (Saved Meaning)) → AreSavedIn (there table) entries → Kept table → Kept (record table { saved = entries })
  keep_saved table entries saved is =
      let after = record table { saved = entries } in
      with_table (as_many table after refl refl) is.within.meanings saved is

  keep_internals : (table : Table Meaning) (internals : List ℤ) → length table.internals ≤ length internals → Kept table → Kept (record table { internals = internals })
  keep_internals table internals h is =
      let after = record table { internals = internals } in
      let more : IsWithin (there table) (there after) = record { unknowns = omega arith; slots = omega arith; symbols = omega arith; internals = omega (arith, h) } in
      with_table more (meanings_more table.names (there table) (there after) more is.within.meanings) (saved_more table.saved (there table) (there after) more is.within.saved) is

  by_saving : (table : Table Meaning) (symbol : ℕ) (old : Option Meaning) → meaning_in table.names symbol ≡ old → Kept table → Kept (save_by old table symbol NewTag)
  by_saving table symbol None e is = is
  by_saving table symbol (Some m) e is =
      let n = there table in
      let entries = saved_in_group n table.saved (saved.Meaning symbol m) (is_open table.saved) (meaning_in_is n table.names symbol m e is.within.meanings) is.within.saved in
      set_kept (with_saved_in_group table (saved.Meaning symbol m)) symbol NewTag (nothing_within n) (keep_saved table (with_saved_in_group table (saved.Meaning symbol m)).saved entries is)

  by_saving_internal : (table : Table Meaning) (k : ℕ) (old : Option ℤ) → Kept table → Kept (save_internal_by old table k)
  by_saving_internal table k None is = is
  by_saving_internal table k (Some value) is =
      let n = there table in
      keep_saved table (with_saved_in_group table (saved.Number k value)).saved (saved_in_group n table.saved (saved.Number k value) (is_open table.saved) (nothing_within n) is.within.saved) is

  by_closing : (table : Table Meaning) (entries : List (Saved Meaning)) → AreSavedIn (there table) entries → Kept table → Kept (close_by entries table).1
  by_closing table [] h is = is
  by_closing table (saved.Boundary ∷ older) h is = keep_saved table older (All-tail (Q (there table)) saved.Boundary older h) is
  by_closing table (saved.Meaning symbol old ∷ older) h is =
      let kept = keep_saved table older (All-tail (Q (there table)) (saved.Meaning symbol old) older h) is in
      set_kept (record table { saved = older }) symbol old (All-head (Q (there table)) (saved.Meaning symbol old) older h) kept
  by_closing table (saved.Number k old ∷ older) h is =
      let kept = keep_saved table older (All-tail (Q (there table)) (saved.Number k old) older h) is in
      let same = length-set table.internals k old in
      keep_internals (record table { saved = older }) (slice_set table.internals k old) (omega (arith, same)) kept

  module _ (old new : Table Meaning) (is : Kept old) where
    same_kept : (table : Table Meaning) → new ≡ table → Kept table → Kept new
    same_kept table e kept = subst (λ (t : Table Meaning). IsKept count unknowns v slots t events) (sym e) kept

    pub meaning_set : (symbol : ℕ) (m : Meaning) → new ≡ with_symbol old symbol m → IsWithin (reach_of_meaning m) (there old) → Kept new
    meaning_set symbol m e h = same_kept (with_symbol old symbol m) e (set_kept old symbol m h is)

    pub meaning_saved : (symbol : ℕ) → new ≡ save old symbol NewTag → Kept new
    meaning_saved symbol e = same_kept (save old symbol NewTag) e (by_saving old symbol (meaning_in old.names symbol) refl is)

    pub internal_added : (value : ℤ) → new ≡ record old { internals = old.internals ++ value ∷ [] } → Kept new
    internal_added value e =
        let longer = length-append old.internals (value ∷ []) in
        same_kept (record old { internals = old.internals ++ value ∷ [] }) e (keep_internals old (old.internals ++ value ∷ []) (omega (arith, longer)) is)

    pub internal_set : (k : ℕ) (value : ℤ) → new ≡ with_internal old k value → Kept new
    internal_set k value e =
        let same = length-set old.internals k value in
        same_kept (with_internal old k value) e (keep_internals old (slice_set old.internals k value) (omega (arith, same)) is)

    pub internal_saved : (k : ℕ) → new ≡ save_internal old k → Kept new
    internal_saved k e = same_kept (save_internal old k) e (by_saving_internal old k (slice_get old.internals k) is)

    pub group_closed : new ≡ (close_group old).1 → Kept new
    group_closed e = same_kept (close_group old).1 e (by_closing old old.saved is.within.saved is)

    pub group_opened : new ≡ open_group old → Kept new
    group_opened e = same_kept (open_group old) e (keep_saved old (saved.Boundary ∷ old.saved) (All-cons (Q (there old)) saved.Boundary old.saved (nothing_within (there old)) is.within.saved) is)

    pub names_gained : (items : List Item) → new ≡ with_names_of NewTag old items → Kept new
    names_gained items e =
        let after = with_names_of NewTag old items in
        let grown = length-with_items old.names items in
        let more : IsWithin (there old) (there after) = record { unknowns = omega arith; slots = omega arith; symbols = omega (arith, grown); internals = omega arith } in
        same_kept after e
        (with_table more (items_in (there after) old.names items (meanings_more old.names (there old) (there after) more is.within.meanings))
        (saved_more old.saved (there old) (there after) more is.within.saved) is)

-- how much there is after it
module _ (unknowns : States) (slots : List (Option Value)) where
  grown : (old new : Table Meaning) → length old.names ≤ length new.names → length old.internals ≤ length new.internals → IsWithin (counts_of unknowns slots old) (counts_of unknowns slots new)
  grown old new names internals = record { unknowns = omega arith; slots = omega arith; symbols = omega (arith, names); internals = omega (arith, internals) }

  equal : (old new table : Table Meaning) → new ≡ table → length old.names ≤ length table.names → length old.internals ≤ length table.internals → IsWithin (counts_of unknowns slots old) (counts_of unknowns slots new)
  equal old new table e names internals = subst (λ (t : Table Meaning). IsWithin (counts_of unknowns slots old) (counts_of unknowns slots t)) (sym e) (grown old table names internals)

  pub more_set : (old new : Table Meaning) (symbol : ℕ) (m : Meaning) → new ≡ with_symbol old symbol m → IsWithin (counts_of unknowns slots old) (counts_of unknowns slots new)
  more_set old new symbol m e = equal old new (with_symbol old symbol m) e (omega (arith, length-with_meaning old.names symbol m)) (omega arith)

  by_saving_more : (table : Table Meaning) (symbol : ℕ) (old : Option Meaning) → IsWithin (counts_of unknowns slots table) (counts_of unknowns slots (save_by old table symbol NewTag))
  by_saving_more table symbol None = grown table table (omega arith) (omega arith)
  by_saving_more table symbol (Some m) = grown table (save_by (Some m) table symbol NewTag) (omega (arith, length-with_meaning table.names symbol NewTag)) (omega arith)

  pub more_saved : (old new : Table Meaning) (symbol : ℕ) → new ≡ save old symbol NewTag → IsWithin (counts_of unknowns slots old) (counts_of unknowns slots new)
  more_saved old new symbol e =
      subst (λ (t : Table Meaning). IsWithin (counts_of unknowns slots old) (counts_of unknowns slots t)) (sym e) (by_saving_more old symbol (meaning_in old.names symbol))

  by_closing_more : (table : Table Meaning) (entries : List (Saved Meaning)) → IsWithin (counts_of unknowns slots table) (counts_of unknowns slots (close_by entries table).1)
  by_closing_more table [] = grown table table (omega arith) (omega arith)
  by_closing_more table (saved.Boundary ∷ older) = grown table (record table { saved = older }) (omega arith) (omega arith)
  by_closing_more table (saved.Meaning symbol old ∷ older) =
      grown table (with_symbol (record table { saved = older }) symbol old) (omega (arith, length-with_meaning table.names symbol old)) (omega arith)
  by_closing_more table (saved.Number k old ∷ older) = grown table (with_internal (record table { saved = older }) k old) (omega arith) (omega (arith, length-set table.internals k old))

  pub more_closed : (old new : Table Meaning) → new ≡ (close_group old).1 → IsWithin (counts_of unknowns slots old) (counts_of unknowns slots new)
  more_closed old new e = subst (λ (t : Table Meaning). IsWithin (counts_of unknowns slots old) (counts_of unknowns slots t)) (sym e) (by_closing_more old old.saved)

  pub more_named : (old new : Table Meaning) (items : List Item) → new ≡ with_names_of NewTag old items → IsWithin (counts_of unknowns slots old) (counts_of unknowns slots new)
  more_named old new items e = equal old new (with_names_of NewTag old items) e (length-with_items old.names items) (omega arith)

-- the table at the start
entries_in : (n : Counts) (names : Names Meaning) (entries : List (List ℕ × Meaning)) → AreIn n names → AreIn n entries → AreIn n (with_entries names entries)
unfolding with_entries
entries_in n names [] is new = is
entries_in n names (entry ∷ more) is new =
    entries_in n (with_name names entry.0 entry.1) more
    (named_in n names entry.0 entry.1 (is_some (number_in names entry.0)) (All-head (P n) entry more new) is) (All-tail (P n) entry more new)

length-with_entries : (names : Names Meaning) (entries : List (List ℕ × Meaning)) → length names ≤ length (with_entries names entries)
unfolding with_entries
length-with_entries names [] = omega arith
length-with_entries names (entry ∷ more) =
    omega (arith, length-named names entry.0 entry.1 (is_some (number_in names entry.0)), length-with_entries (with_name names entry.0 entry.1) more)

words_in : (n : Counts) (ws : List Word) → AreIn n (map word_entry ws)
words_in n ws = All-map (P n) word_entry ws (All-always (λ w. IsWithin (reach_of_meaning (word_entry w).1) n) (λ w. nothing_within n) ws)

unbuilt_in : (n : Counts) (names : List (List ℕ)) → AreIn n (map unbuilt_entry names)
unbuilt_in n names = All-map (P n) unbuilt_entry names (All-always (λ name. IsWithin (reach_of_meaning (unbuilt_entry name).1) n) (λ name. nothing_within n) names)

internals_in : (n : Counts) (k : ℕ) (internals : List (List ℕ × ℤ)) → k + length internals ≤ n.internals → AreIn n (internal_entries k internals)
internals_in n k [] h = All-nil (P n)
internals_in n k (x ∷ xs) h =
    All-cons (P n) (x.0, Internal k) (internal_entries (k + 1) xs) (record { unknowns = omega arith; slots = omega arith; symbols = omega arith; internals = omega (arith, h) })
    (internals_in n (k + 1) xs (omega (arith, h)))

delimiters_in : (n : Counts) → 2 ≤ n.symbols → AreIn n delimiter_entries
delimiters_in n h =
    let both : IsWithin (reach_of_pair (record { left = 0; right = 1 })) n = record { unknowns = omega arith; slots = omega arith; symbols = omega (arith, h); internals = omega arith } in
    All-cons (P n) (codes "(", Left (record { left = 0; right = 1 })) ((codes ")", Right (record { left = 0; right = 1 })) ∷ []) both
    (All-cons (P n) (codes ")", Right (record { left = 0; right = 1 })) [] both (All-nil (P n)))

two_delimiters : (more : List (List ℕ × Meaning)) → 2 ≤ length (with_entries [] (delimiter_entries ++ more))
unfolding with_entries
two_delimiters more = length-with_entries delimiter_entries more

four_words : (more : List Word) (others : List (List ℕ × Meaning)) → 4 ≤ length (with_entries [] (delimiter_entries ++ (map word_entry (Begingroup ∷ Endgroup ∷ more) ++ others)))
unfolding with_entries
four_words more others = length-with_entries (with_entries [] (delimiter_entries ++ map word_entry (Begingroup ∷ Endgroup ∷ []))) (map word_entry more ++ others)

first_in : (n : Counts) → 2 ≤ n.symbols → length first_internals ≤ n.internals → AreIn n first_symbols.names
unfolding first_symbols
first_in n symbols internals =
    let rest = internal_entries 0 first_internals ++ map unbuilt_entry unbuilt_words in
    entries_in n [] first_entries (All-nil (P n))
    (All-append (P n) delimiter_entries (map word_entry words ++ rest) (delimiters_in n symbols)
    (All-append (P n) (map word_entry words) rest (words_in n words)
    (All-append (P n) (internal_entries 0 first_internals) (map unbuilt_entry unbuilt_words) (internals_in n 0 first_internals (omega (arith, internals))) (unbuilt_in n unbuilt_words))))

first_there : (unknowns : States) (slots : List (Option Value)) → AreIn (counts_of unknowns slots first_symbols) first_symbols.names
unfolding first_symbols
first_there unknowns slots =
    let rest = internal_entries 0 first_internals ++ map unbuilt_entry unbuilt_words in
    first_in (counts_of unknowns slots first_symbols) (two_delimiters (map word_entry words ++ rest)) (omega (arith, length-map first_internals (λ internal. internal.1)))

none_saved : (n : Counts) → AreSavedIn n first_symbols.saved
unfolding first_symbols
none_saved n = All-nil (Q n)

pub first_meanings : (unknowns : States) (slots : List (Option Value)) (symbols : Table Meaning) → symbols ≡ first_symbols
    → All (λ entry. IsWithin (reach_of_meaning entry.1) (counts_of unknowns slots symbols)) symbols.names
first_meanings unknowns slots symbols e = subst (λ (t : Table Meaning). AreIn (counts_of unknowns slots t) t.names) (sym e) (first_there unknowns slots)

first_four : 4 ≤ length first_symbols.names
unfolding first_symbols
first_four = four_words (drop 2 words) (internal_entries 0 first_internals ++ map unbuilt_entry unbuilt_words)

pub first_words : (symbols : Table Meaning) → symbols ≡ first_symbols → 4 ≤ length symbols.names
first_words symbols e = subst (λ (t : Table Meaning). 4 ≤ length t.names) (sym e) first_four

pub first_saved : (n : Counts) (symbols : Table Meaning) → symbols ≡ first_symbols → All (λ entry. IsWithin (reach_of_saved entry) n) symbols.saved
first_saved n symbols e = subst (λ (t : Table Meaning). AreSavedIn n t.saved) (sym e) (none_saved n)
