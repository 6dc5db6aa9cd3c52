-- The names that contracts see, and the entries that are stored.
use Rattle.std.proofs.Common.{◌≡◌, ℕ, zero, suc, ◌+◌, ◌<◌, ◌≤◌, Bool, true, false, not, cond, nat_lt, List, [], ◌∷◌, ◌++◌, length, map, get_or, position, slice_get, Option, Some, None, is_some, IsSome, subst, refl, sym, ap, ◌∙◌, inl, inr, arith, length-append}
use Rattle.std.specs.List.{position_or_len, IsDistinct}
use Rattle.std.specs.Map.{keys_of, values_of}
use Rattle.std.specs.Option.{option_map}
use Rattle.std.specs.Str.{bytes_eq}
use Rattle.std.specs.Cmp.Lexicographic.{bytes_decides}
use Rattle.std.proofs.lemmas.Option.{slice_get-map, slice_get_within, get_or_from_slice_get, none-some, cond_some}
use Rattle.std.proofs.lemmas.Map.Keys.{apart_from_distinct}
use Rattle.std.proofs.lemmas.List.Sums.{position_or_len_is, prefix_len-le-length}
use Rattle.std.proofs.lemmas.List.Folds.{position_or_len_push}
use Rattle.std.proofs.lemmas.List.{length-map, map-append}
use Rattle.std.proofs.lemmas.List.Quantifiers.{position-Some}
use Rattle.std.proofs.lemmas.Bool.{cases_lt, lt-ltb, eq-eqb, ltb-true, ne_eqb}
use Rattle.std.proofs.lemmas.Cmp.{nat_list_eq_equiv}
use Rattle.std.proofs.Math.Nat.{add-zero}
use Rattle.indexmap.specs.IndexMap.{IndexMap, insert_entry, get, get_by, set_value_at}
use Rattle.indexmap.proofs.CallerLemmas.{insert_entry-new}
use Rattle.mp_symbols.specs.Names.{Names, number_in, meaning_in, with_name, with_meaning}

pub position_is : {X : Type 0} (p : X → Bool) (xs : List X) (n m : ℕ) → position_or_len p xs ≡ n → length xs ≡ m → position p xs ≡ cond (nat_lt n m) (Some n) None
position_is p xs n m place long =
    ap (λ k. cond (nat_lt k (length xs)) (Some k) None) place ∙ ap (λ k. cond (nat_lt n k) (Some n) None) long

option_map-twice : {A B C : Type 0} (f : A → B) (g : B → C) (o : Option A) → option_map g (option_map f o) ≡ option_map (λ x. g (f x)) o
option_map-twice f g None = refl
option_map-twice f g (Some x) = refl

place_none : {X : Type 0} (p : X → Bool) (xs : List X) → position p xs ≡ None → length xs ≤ position_or_len p xs
place_none p xs none =
    elim (cases_lt (position_or_len p xs) (length xs)) [
      | inl before ↦ absurd (none-some (position_or_len p xs) (sym none ∙ ap (λ b. cond b (Some (position_or_len p xs)) None) (lt-ltb _ _ before)))
      | inr past ↦ past
    ]

absent : {X : Type 0} (o : Option X) → is_some o ≡ false → o ≡ None
absent None e = refl
absent (Some x) e = cc

bytes_eq_refl : (xs : List ℕ) → bytes_eq xs xs ≡ true
bytes_eq_refl xs = (bytes_decides xs xs).1 refl

bytes_eq_comm : (xs ys : List ℕ) → bytes_eq xs ys ≡ bytes_eq ys xs
bytes_eq_comm xs ys = nat_list_eq_equiv.symm xs ys

module _ {K M : Type 0} (bytes : K → List ℕ) where
  -- the names of stored entries
  abbrev pub names_of : List (K × M) → Names M
  names_of entries = map (λ e. (bytes e.0, e.1)) entries

  place-names_of : (name : List ℕ) (entries : List (K × M)) → position_or_len (λ e. bytes_eq name e.0) (names_of entries) ≡ position_or_len (λ k. bytes_eq name (bytes k)) (keys_of entries)
  place-names_of name [] = refl
  place-names_of name (e ∷ es) = ap (λ n. cond (not (bytes_eq name (bytes e.0))) (1 + n) 0) (place-names_of name es)

  -- a name has the index that the stored entries have for it
  pub number_in-names_of : (name : List ℕ) (entries : List (K × M)) → number_in (names_of entries) name ≡ position (λ k. bytes_eq name (bytes k)) (keys_of entries)
  number_in-names_of name entries =
      position_is _ (names_of entries) _ _ (place-names_of name entries)
      (length-map entries (λ e. (bytes e.0, e.1)) ∙ sym (length-map entries (λ e. e.0)))

  -- a name that has no index is not there
  pub number_in-not : (name : List ℕ) (entries : List (K × M)) → None ≡ position (λ k. bytes_eq name (bytes k)) (keys_of entries) → IsSome (number_in (names_of entries) name) → ⊥
  number_in-not name entries none there = let e : false ≡ true = subst IsSome (number_in-names_of name entries ∙ sym none) there in cc

  -- the meaning at an index
  pub meaning_in-names_of : (entries : List (K × M)) (i : ℕ) (v : M) → slice_get (values_of entries) i ≡ Some v → meaning_in (names_of entries) i ≡ Some v
  meaning_in-names_of entries i v at =
      ap (option_map (λ e. e.1)) (slice_get-map (λ e. (bytes e.0, e.1)) entries i)
      ∙ option_map-twice (λ e. (bytes e.0, e.1)) (λ e. e.1) (slice_get entries i)
      ∙ sym (slice_get-map (λ e. e.1) entries i) ∙ at

  pub length-names_of : (entries : List (K × M)) → length (names_of entries) ≡ length entries
  length-names_of entries = length-map entries (λ e. (bytes e.0, e.1))

  -- another value at an index
  pub names_of-set_value_at : (entries : List (K × M)) (i : ℕ) (v : M) → names_of (set_value_at entries i v) ≡ with_meaning (names_of entries) i v
  names_of-set_value_at [] i v = refl
  names_of-set_value_at (e ∷ es) zero v = refl
  names_of-set_value_at (e ∷ es) (suc i) v = ap (λ rest. (bytes e.0, e.1) ∷ rest) (names_of-set_value_at es i v)

  -- where no two stored names are the same, a stored name has its own index as its number
  pub number_in-own : (entries : List (K × M)) (i : ℕ) (k : K) (v : M) → IsDistinct (λ a b. bytes_eq (bytes a) (bytes b)) (keys_of entries) → slice_get entries i ≡ Some (k, v) → number_in (names_of entries) (bytes k) ≡ Some i
  number_in-own entries i k v apart at =
      let keys = keys_of entries in
      let within : i < length keys = rw (length-map entries (λ e. e.0)) (slice_get_within entries i (k, v) at) in
      let here : get_or keys i k ≡ k =
      get_or_from_slice_get keys i k k (slice_get-map (λ e. e.0) entries i ∙ ap (option_map (λ e. e.0)) at) in
      let place : position_or_len (λ x. bytes_eq (bytes k) (bytes x)) keys ≡ i =
      position_or_len_is (λ x. bytes_eq (bytes k) (bytes x)) keys i k (omega arith)
      (λ j before. ap (λ x. bytes_eq (bytes x) (bytes (get_or keys j k))) (sym here)
      ∙ bytes_eq_comm (bytes (get_or keys i k)) (bytes (get_or keys j k))
      ∙ apart_from_distinct (λ a b. bytes_eq (bytes a) (bytes b)) keys j i k apart before within)
      (λ _. ap (λ x. bytes_eq (bytes k) (bytes x)) here ∙ bytes_eq_refl (bytes k)) in
      number_in-names_of (bytes k) entries
      ∙ position_is _ keys i (length keys) place refl
      ∙ ap (λ b. cond b (Some i) None) (lt-ltb i (length keys) within)

module _ {M : Type 0} (names : Names M) (name : List ℕ) (fresh : M) where
  -- a new name goes last
  pub with_name-new : number_in names name ≡ None → with_name names name fresh ≡ names ++ (name, fresh) ∷ []
  with_name-new none = ap (λ o. cond (is_some o) names (names ++ (name, fresh) ∷ [])) none

  -- a name that is there changes nothing
  pub with_name-present : (i : ℕ) → number_in names name ≡ Some i → with_name names name fresh ≡ names
  with_name-present i some = ap (λ o. cond (is_some o) names (names ++ (name, fresh) ∷ [])) some

  -- and its number is the one that was next
  pub number_in-new : number_in names name ≡ None → number_in (names ++ (name, fresh) ∷ []) name ≡ Some (length names)
  number_in-new none =
      let test = λ (e : List ℕ × M). bytes_eq name e.0 in
      let last : position_or_len test names ≡ length names = omega (arith, place_none test names none, prefix_len-le-length (λ e. not (test e)) names) in
      let place : position_or_len test (names ++ (name, fresh) ∷ []) ≡ length names =
      position_or_len_push test names (name, fresh)
      ∙ ap (λ b. cond b (length names + cond (test (name, fresh)) 0 1) (position_or_len test names)) (eq-eqb _ _ last)
      ∙ ap (λ b. length names + cond b 0 1) (bytes_eq_refl name)
      ∙ add-zero (length names) in
      position_is test (names ++ (name, fresh) ∷ []) _ _ place (length-append names ((name, fresh) ∷ []))
      ∙ ap (λ b. cond b (Some (length names)) None) (lt-ltb _ _ (omega arith))

module _ {M : Type 0} (names : Names M) (name other : List ℕ) (fresh : M) where
  -- one more name leaves the numbers of the others
  pub number_in-with_name : (k : ℕ) → number_in names name ≡ Some k → number_in (with_name names other fresh) name ≡ Some k
  number_in-with_name k at = by (number_in names other) refl
    where
      test : List ℕ × M → Bool
      test e = bytes_eq name e.0

      pushed : number_in (names ++ (other, fresh) ∷ []) name ≡ Some k
      pushed =
          let found = cond_some (nat_lt (position_or_len (λ e. bytes_eq name e.0) names) (length names)) _ k at in
          let within : position_or_len (λ e. bytes_eq name e.0) names < length names = ltb-true _ _ found.0 in
          let place : position_or_len (λ e. bytes_eq name e.0) (names ++ (other, fresh) ∷ []) ≡ k =
          position_or_len_push (λ e. bytes_eq name e.0) names (other, fresh)
          ∙ ap (λ b. cond b (length names + cond (bytes_eq name other) 0 1) (position_or_len (λ e. bytes_eq name e.0) names)) (ne_eqb _ _ (λ e. absurd (omega arith)))
          ∙ found.1 in
          position_is (λ e. bytes_eq name e.0) (names ++ (other, fresh) ∷ []) _ _ place (length-append names ((other, fresh) ∷ []))
          ∙ ap (λ b. cond b (Some k) None) (lt-ltb _ _ (omega arith))

      by : (o : Option ℕ) → number_in names other ≡ o → number_in (with_name names other fresh) name ≡ Some k
      by None e = ap (λ t. number_in t name) (with_name-new names other fresh e) ∙ pushed
      by (Some i) e = ap (λ t. number_in t name) (with_name-present names other fresh i e) ∙ at

-- a table that was given a name has a number for it
pub with_name-given : {M : Type 0} (names : Names M) (name : List ℕ) (fresh : M) → IsSome (number_in (with_name names name fresh) name)
with_name-given {M} names name fresh = by (number_in names name) refl
  where
    by : (o : Option ℕ) → number_in names name ≡ o → IsSome (number_in (with_name names name fresh) name)
    by None e = ap is_some (ap (λ t. number_in t name) (with_name-new names name fresh e) ∙ number_in-new names name fresh e)
    by (Some i) e = ap is_some (ap (λ t. number_in t name) (with_name-present names name fresh i e) ∙ e)

-- what the table is after a new entry
pub record Adds {K M : Type 0} (bytes : K → List ℕ) (entries new : List (K × M)) (name : List ℕ) (fresh : M) : Type 0 where
  pub names : names_of bytes new ≡ with_name (names_of bytes entries) name fresh
  pub number : number_in (names_of bytes new) name ≡ Some (length entries)

pub Adds-insert : {K M S : Type 0} (bytes : K → List ℕ) (map : IndexMap K M S) (new : List (K × M)) (k : K) (fresh : M) (name : List ℕ)
    → bytes k ≡ name → new ≡ insert_entry (λ a b. bytes_eq (bytes a) (bytes b)) map.entries k fresh
    → false ≡ is_some (get_by (λ x. bytes_eq name (bytes x)) map) → None ≡ position (λ x. bytes_eq name (bytes x)) (keys_of map.entries)
    → Adds bytes map.entries new name fresh
Adds-insert {K} {M} bytes map new k fresh name own inserted unfound unplaced =
    let unfound' : get (λ a b. bytes_eq (bytes a) (bytes b)) map k ≡ None =
    absent _ (ap (λ n. is_some (get_by (λ x. bytes_eq n (bytes x)) map)) own ∙ sym unfound) in
    let grown : new ≡ map.entries ++ (k, fresh) ∷ [] =
    inserted ∙ insert_entry-new (λ a b. bytes_eq (bytes a) (bytes b)) map k fresh unfound' in
    let none : number_in (names_of bytes map.entries) name ≡ None = number_in-names_of bytes name map.entries ∙ sym unplaced in
    let pushed : names_of bytes new ≡ names_of bytes map.entries ++ (name, fresh) ∷ [] =
    ap (names_of bytes) grown ∙ map-append (λ e. (bytes e.0, e.1)) map.entries ((k, fresh) ∷ [])
    ∙ ap (λ n. names_of bytes map.entries ++ (n, fresh) ∷ []) own in
    record {
      names = pushed ∙ sym (with_name-new (names_of bytes map.entries) name fresh none);
      number = ap (λ t. number_in t name) pushed ∙ number_in-new (names_of bytes map.entries) name fresh none
          ∙ ap Some (length-map map.entries (λ e. (bytes e.0, e.1)));
    }

module _ {M : Type 0} where
  -- a number is one of the table's
  pub number_in-within : (names : Names M) (name : List ℕ) (some : M) (k : ℕ) → number_in names name ≡ Some k → k < length names
  number_in-within names name some k at = (position-Some (λ e. bytes_eq name e.0) names k (name, some) at).0

  -- another meaning leaves the names
  pub length-with_meaning : (names : Names M) (symbol : ℕ) (new : M) → length (with_meaning names symbol new) ≡ length names
  length-with_meaning [] symbol new = refl
  length-with_meaning (entry ∷ more) zero new = refl
  length-with_meaning (entry ∷ more) (suc symbol) new = ap suc (length-with_meaning more symbol new)
