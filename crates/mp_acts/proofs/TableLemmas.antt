-- The table of names: names added one by one.
use Rattle.std.proofs.Common.{◌≡◌, ℕ, ◌+◌, ◌≤◌, ◌<◌, ℤ, List, [], ◌∷◌, ◌++◌, map, length, get_or, drop, sym, ap, ◌∙◌, add-one, drop-cons, length-append}
use Rattle.std.specs.List.{fold}
use Rattle.std.proofs.lemmas.List.{drop_all, append-nil, append_assoc, map-append}
use Rattle.std.proofs.lemmas.List.Sums.{fold-append}
use Rattle.mp_symbols.specs.Names.{Names, with_name}
use Rattle.mp_symbols.specs.Tables.{Table}
use Rattle.mp_values.specs.declared.meaning.Meaning.{Meaning}
use Rattle.mp_values.specs.declared.meaning.Meaning.TheVariants.{Internal}
use Rattle.mp_acts.specs.Start.{with_entries, internal_entries, with_more_names, with_more_internals, unbuilt_entry}

-- the names of what is left of a list, when the next of them was added
length-push : {X : Type 0} (xs : List X) (x : X) → length (xs ++ x ∷ []) ≡ length xs + 1
length-push xs x = length-append xs (x ∷ [])

module _ {X : Type 0} (entry : X → List ℕ × Meaning) (xs : List X) where
  pub names_step : (old new : Table Meaning) (i : ℕ) (d : X) → i < length xs
      → new ≡ record old { names = with_name old.names (entry (get_or xs i d)).0 (entry (get_or xs i d)).1 }
      → with_more_names new (map entry (drop (i + 1) xs)) ≡ with_more_names old (map entry (drop i xs))
  unfolding with_entries
  names_step old new i d within added =
      let next : drop i xs ≡ get_or xs i d ∷ drop (i + 1) xs = rw add-one (drop-cons xs i d within) in
      ap (λ table. with_more_names table (map entry (drop (i + 1) xs))) added ∙ sym (ap (λ left. with_more_names old (map entry left)) next)

  pub names_end : (table : Table Meaning) (i : ℕ) → length xs ≤ i → with_more_names table (map entry (drop i xs)) ≡ table
  unfolding with_entries
  names_end table i past = ap (λ left. with_more_names table (map entry left)) (drop_all i xs past)

-- names, and then more
names_append : (table : Table Meaning) (first more : List (List ℕ × Meaning)) → with_more_names (with_more_names table first) more ≡ with_more_names table (first ++ more)
unfolding with_entries
names_append table first more = ap (λ names. record table { names = names }) (sym (fold-append (λ names entry. with_name names entry.0 entry.1) table.names first more))

pub names_appended : (table : Table Meaning) (first more : List (List ℕ)) → with_more_names (with_more_names table (map unbuilt_entry first)) (map unbuilt_entry more) ≡ with_more_names table (map unbuilt_entry (first ++ more))
names_appended table first more =
    names_append table (map unbuilt_entry first) (map unbuilt_entry more) ∙ ap (with_more_names table) (sym (map-append unbuilt_entry first more))

-- names of five lists
pub names_of_five : (t0 t1 t2 t3 t4 t5 : Table Meaning) (a b c d e : List (List ℕ))
    → t1 ≡ with_more_names t0 (map unbuilt_entry a) → t2 ≡ with_more_names t1 (map unbuilt_entry b) → t3 ≡ with_more_names t2 (map unbuilt_entry c)
    → t4 ≡ with_more_names t3 (map unbuilt_entry d) → t5 ≡ with_more_names t4 (map unbuilt_entry e)
    → t5 ≡ with_more_names t0 (map unbuilt_entry (a ++ (b ++ (c ++ (d ++ e)))))
names_of_five t0 t1 t2 t3 t4 t5 a b c d e h1 h2 h3 h4 h5 =
    let next = λ (s : List (List ℕ)) (t : Table Meaning). with_more_names t (map unbuilt_entry s) in
    h5 ∙ ap (next e) h4 ∙ names_appended t3 d e
    ∙ ap (next (d ++ e)) h3 ∙ names_appended t2 c (d ++ e)
    ∙ ap (next (c ++ (d ++ e))) h2 ∙ names_appended t1 b (c ++ (d ++ e))
    ∙ ap (next (b ++ (c ++ (d ++ e)))) h1 ∙ names_appended t0 a (b ++ (c ++ (d ++ e)))

-- the same of internals
module _ {X : Type 0} (internal : X → List ℕ × ℤ) (xs : List X) where
  pub internals_step : (old new : Table Meaning) (i : ℕ) (d : X) → i < length xs
      → new ≡ record old {
        names = with_name old.names (internal (get_or xs i d)).0 (Internal (length old.internals));
        internals = old.internals ++ (internal (get_or xs i d)).1 ∷ [];
      }
      → with_more_internals new (map internal (drop (i + 1) xs)) ≡ with_more_internals old (map internal (drop i xs))
  unfolding with_entries
  internals_step old new i d within added =
      let next : drop i xs ≡ get_or xs i d ∷ drop (i + 1) xs = rw add-one (drop-cons xs i d within) in
      let after = record old {
        names = with_name old.names (internal (get_or xs i d)).0 (Internal (length old.internals));
        internals = old.internals ++ (internal (get_or xs i d)).1 ∷ [];
      } in
      let rest = map internal (drop (i + 1) xs) in
      ap (λ table. with_more_internals table rest) added
      ∙ ap (λ k. record after { names = with_entries after.names (internal_entries k rest); internals = after.internals ++ map (λ x. x.1) rest }) (length-push old.internals (internal (get_or xs i d)).1)
      ∙ ap (λ values. record after { names = with_entries after.names (internal_entries (length old.internals + 1) rest); internals = values })
      (append_assoc old.internals ((internal (get_or xs i d)).1 ∷ []) (map (λ x. x.1) rest))
      ∙ sym (ap (λ left. with_more_internals old (map internal left)) next)

  pub internals_end : (table : Table Meaning) (i : ℕ) → length xs ≤ i → with_more_internals table (map internal (drop i xs)) ≡ table
  unfolding with_entries
  internals_end table i past =
      ap (λ left. with_more_internals table (map internal left)) (drop_all i xs past)
      ∙ ap (λ values. record table { internals = values }) (append-nil table.internals)

-- names, names, internals and names, from an empty table on
pub first_table : (t0 t1 t2 t3 t4 : Table Meaning) (a b : List (List ℕ × Meaning)) (i : List (List ℕ × ℤ)) (d : List (List ℕ × Meaning))
    → t0 ≡ record { names = []; internals = []; saved = [] } → t1 ≡ with_more_names t0 a → t2 ≡ with_more_names t1 b
    → t3 ≡ with_more_internals t2 i → t4 ≡ with_more_names t3 d
    → t4 ≡ record { names = with_entries [] (a ++ (b ++ (internal_entries 0 i ++ d))); internals = map (λ x. x.1) i; saved = [] }
unfolding with_entries
first_table t0 t1 t2 t3 t4 a b i d h0 h1 h2 h3 h4 =
    let add = λ (names : Names Meaning) (entry : List ℕ × Meaning). with_name names entry.0 entry.1 in
    h4 ∙ ap (λ t. with_more_names t d) (h3 ∙ ap (λ t. with_more_internals t i) (h2 ∙ ap (λ t. with_more_names t b) (h1 ∙ ap (λ t. with_more_names t a) h0)))
    ∙ ap (λ names. record { names = names; internals = map (λ x. x.1) i; saved = [] })
    (sym (fold-append add [] a (b ++ (internal_entries 0 i ++ d))
    ∙ fold-append add (fold add [] a) b (internal_entries 0 i ++ d)
    ∙ fold-append add (fold add (fold add [] a) b) (internal_entries 0 i) d))
