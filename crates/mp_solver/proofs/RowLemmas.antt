-- The lists of rows: which rows stay listed, and the forms that they name.
use Rattle.std.proofs.Common.{◌≡◌, ◌≢◌, ◌⊎◌, ℕ, ◌+◌, ◌-◌, ◌<◌, ◌≤◌, Bool, true, false, ◌&&◌, List, [], ◌∷◌, ◌++◌, Option, Some, None, zero, suc, length, get_or, set, refl, sym, ap, ◌∙◌, subst, inl, inr, arith, length-set, get_or-set_same, get_or-set_other}
use Rattle.std.specs.List.{All, AllPairs, Contains, sum_by}
use Rattle.std.proofs.lemmas.Bool.{cases_lt}
use Rattle.std.proofs.lemmas.List.{get_or_past, length-append}
use Rattle.std.proofs.lemmas.List.Kept.{AllPairs-from_increasing}
use Rattle.mp_pool.specs.declared.Term.{Term}
use Rattle.mp_forms.specs.Forms.{LinearForm}
use Rattle.mp_solver.specs.declared.limits.TheConstants.{UNKNOWN_LIMIT}
use Rattle.mp_solver.specs.States.{States, with_fresh}
use Rattle.mp_solver.specs.Storage.Rows.{Holders, holders_of, terms_in, IsListedFor, AreListed, IsInOrder, StaysListed, AreHolders, IsIndexed}
use Rattle.mp_solver.specs.Solved.{IsSolvedForm}
use Rattle.mp_solver.specs.Elimination.{term_count}
use Rattle.mp_solver.proofs.StateLemmas.{IsSystem-with_fresh, forms_in-with_fresh}
use Rattle.mp_solver.proofs.StepLemmas.{holds-at}

pub StaysListed-trans : (first second third : Holders) → StaysListed first second → StaysListed second third → StaysListed first third
StaysListed-trans first second third one two = record {
  same_length = two.same_length ∙ one.same_length;
  rows = λ serial row listed. two.rows serial row (one.rows serial row listed);
}

pub IsListedFor-stays : (before after : Holders) (row : ℕ) (ts : List Term) → StaysListed before after → IsListedFor before row ts → IsListedFor after row ts
IsListedFor-stays before after row ts stays listed = λ i d lt. stays.rows (get_or ts i d).serial row (listed i d lt)

-- two numbers are the same, or they are not
same_or_other : (m n : ℕ) → (m ≡ n) ⊎ (m ≢ n)
same_or_other m n =
    elim (cases_lt m n) [
      | inl less ↦ inr (λ same. omega (arith, less, same))
      | inr le ↦ elim (cases_lt n m) [ inl greater ↦ inr (λ same. omega (arith, greater, same)) | inr ge ↦ inl (omega (arith, le, ge)) ]
    ]

-- a new form at one row
pub AreListed-with_form : (states : States) (before after : Holders) (row : ℕ) (form : LinearForm) → row < length states → StaysListed before after → IsListedFor after row form.terms →
    AreListed states before → AreListed (set states row (Some form)) after
AreListed-with_form states before after row form at stays new listed = record {
  each = λ other p some.
      elim (same_or_other other row) [
        | inl same ↦
            let is : Some form ≡ Some p = sym (get_or-set_same states row (Some form) None at) ∙ ap (λ k. get_or (set states row (Some form)) k None) (sym same) ∙ some in
            let form_is : form ≡ p = cc in
            subst (λ k. IsListedFor after k p.terms) (sym same) (subst (λ q. IsListedFor after row q.terms) form_is new)
        | inr apart ↦
            let was : get_or states other None ≡ Some p = sym (get_or-set_other states row other (Some form) None apart) ∙ some in
            IsListedFor-stays before after other p.terms stays (listed.each other p was)
      ];
}

get_or-default : {X : Type 0} (xs : List X) (d : X) (i : ℕ) → get_or (xs ++ d ∷ []) i d ≡ get_or xs i d
get_or-default [] d zero = refl
get_or-default [] d (suc i) = refl
get_or-default (x ∷ xs) d zero = refl
get_or-default (x ∷ xs) d (suc i) = get_or-default xs d i

-- one more unknown, for which no row is listed
pub AreListed-with_fresh : (states : States) (holders : Holders) → AreListed states holders → AreListed (with_fresh states) (holders ++ [] ∷ [])
AreListed-with_fresh states holders listed = record {
  each = λ row p some i d lt.
      let was : get_or states row None ≡ Some p = sym (get_or-default states None row) ∙ some in
      subst (λ rows. Contains rows row) (sym (get_or-default holders [] ((get_or p.terms i d).serial - 1))) (listed.each row p was i d lt);
}

contains_cons : (x : ℕ) (xs : List ℕ) (y : ℕ) → Contains (x ∷ xs) y → (x ≡ y) ⊎ Contains xs y
contains_cons x xs y (zero, within, is) = inl is
contains_cons x xs y (suc k, within, is) = inr (k, omega (arith, within), is)

-- the rows that are listed for an unknown, in order
pub AreHolders-from : (states : States) (serial from : ℕ) (rows : List ℕ) → AllPairs (λ x y. x < y) rows → All (λ row. from ≤ row) rows →
    ((row : ℕ) (p : LinearForm) → from ≤ row → get_or states row None ≡ Some p → All (λ t. t.serial ≡ serial → Contains rows row) p.terms) → AreHolders states serial from rows
AreHolders-from states serial from [] rises above all = λ row le p some i d lt same.
    let found = all row p le some i d lt same in omega (arith, found.1)
AreHolders-from states serial from (x ∷ xs) rises above all =
    let first : from ≤ x = above 0 0 (omega arith) in
    let later : All (λ y. x + 1 ≤ y) xs = λ i d lt. let less = rises 0 (suc i) d (omega arith) (omega (arith, lt)) in omega (arith, less) in
    let in_xs : (y : ℕ) → Contains xs y → x + 1 ≤ y = λ y found. let le = later found.0 y found.1 in rw (found.2) at le in (
      first,
      λ row le less p some i d lt same.
          elim (contains_cons x xs row (all row p le some i d lt same)) [
            | inl is ↦ omega (arith, less, is)
            | inr found ↦ let le' = in_xs row found in omega (arith, less, le')
          ],
      AreHolders-from states serial (x + 1) xs (λ i j d lt within. rises (suc i) (suc j) d (omega (arith, lt)) (omega (arith, within))) later
          (λ row p le some i d lt same.
          elim (contains_cons x xs row (all row p (omega (arith, first, le)) some i d lt same)) [ inl is ↦ absurd (omega (arith, le, is)) | inr found ↦ found ]),
    )

-- the form of a state is listed
pub listed_in : (states : States) (holders : Holders) (row : ℕ) (state : Option LinearForm) → AreListed states holders → state ≡ get_or states row None → IsListedFor holders row (terms_in state)
listed_in states holders row None listed is = λ i d lt. absurd (omega (arith, lt))
listed_in states holders row (Some p) listed is = listed.each row p (sym is)

pub AreHolders-listed : (states : States) (holders : Holders) (serial : ℕ) (rows : List ℕ) → AreListed states holders → IsInOrder (Contains (holders_of holders serial)) rows → AreHolders states serial 0 rows
AreHolders-listed states holders serial rows listed order =
    AreHolders-from states serial 0 rows (AllPairs-from_increasing rows order.rises) (λ i d lt. omega arith)
    (λ row p le some i d lt same. order.all row (subst (λ s. Contains (holders_of holders s) row) same (listed.each row p some i d lt)))

-- a row with a form is one of the states
pub row_within : (states : States) (row : ℕ) (p : LinearForm) → get_or states row None ≡ Some p → row < length states
row_within states row p some =
    elim (cases_lt row (length states)) [ inl within ↦ within | inr past ↦ let none = get_or_past states row None past in absurd cc ]

pub AreHolders-all : (states : States) (serial : ℕ) (rows : List ℕ) → IsInOrder (λ row. row < length states) rows → AreHolders states serial 0 rows
AreHolders-all states serial rows order =
    AreHolders-from states serial 0 rows (AllPairs-from_increasing rows order.rises) (λ i d lt. omega arith)
    (λ row p le some i d lt same. order.all row (row_within states row p some))

pub IsIndexed-with_fresh : (states : States) (names : List (Option (List ℕ))) (name : Option (List ℕ)) (dependent terms : ℕ) (holders : Holders) (is_listed : Bool) → length states < UNKNOWN_LIMIT → IsIndexed states names dependent terms holders is_listed →
    IsIndexed (with_fresh states) (names ++ name ∷ []) dependent terms (holders ++ [] ∷ []) is_listed
IsIndexed-with_fresh states names name dependent terms holders is_listed room indexed =
    let longer = length-append states (None ∷ []) in
    let more = length-append holders ([] ∷ []) in
    record {
      system = IsSystem-with_fresh states names name dependent terms room indexed.system;
      lists = omega (arith, longer, more, indexed.lists);
      listed = λ is. AreListed-with_fresh states holders (indexed.listed is);
    }

-- the same of the states after a call
pub IsIndexed-pushed : (states after : States) (names : List (Option (List ℕ))) (name : Option (List ℕ)) (dependent : ℕ) (holders : Holders) (is_listed : Bool) → after ≡ with_fresh states → length states < UNKNOWN_LIMIT →
    IsIndexed states names dependent (term_count states) holders is_listed → IsIndexed after (names ++ name ∷ []) dependent (term_count after) (holders ++ [] ∷ []) is_listed
IsIndexed-pushed states after names name dependent holders is_listed is room indexed =
    let same : term_count (with_fresh states) ≡ term_count states = ap (sum_by (λ p. length p.terms)) (forms_in-with_fresh states) in
    rw is (rw same (IsIndexed-with_fresh states names name dependent (term_count states) holders is_listed room indexed))

pub both_true : (a b : Bool) → (a && b) ≡ true → (a ≡ true) × (b ≡ true)
both_true true b e = (refl, e)
both_true false b e = absurd cc

-- the list of a dependent unknown may be emptied, since no form holds that unknown
pub IsIndexed-forget : (states : States) (names : List (Option (List ℕ))) (dependent terms : ℕ) (holders : Holders) (is_listed : Bool) (row : ℕ) → get_or states row None ≢ None → IsIndexed states names dependent terms holders is_listed →
    IsIndexed states names dependent terms (set holders row []) is_listed
IsIndexed-forget states names dependent terms holders is_listed row some indexed = record {
  system = indexed.system;
  lists = length-set holders row [] ∙ indexed.lists;
  listed = λ is. record {
    each = λ other p is_form i d lt.
        let t = get_or p.terms i d in
        let independent = (holds-at (IsSolvedForm states) states other p indexed.system.solved.forms is_form).reduced i d lt in
        let apart : t.serial - 1 ≢ row = λ same. some (ap (λ k. get_or states k None) (sym same) ∙ independent) in
        subst (λ rows. Contains rows other) (sym (get_or-set_other holders row (t.serial - 1) [] [] apart)) ((indexed.listed is).each other p is_form i d lt);
  };
}
