-- The pivot is replaced, from one form that holds it to the next; those between them stay as they are.
use Rattle.std.proofs.Common.{◌≡◌, ℕ, ◌+◌, ◌-◌, ◌<◌, ◌≤◌, Bool, true, false, ◌&&◌, List, [], ◌∷◌, ◌++◌, Option, Some, None, zero, suc, map, length, get_or, set, take, drop, refl, sym, ap, ◌∙◌, subst, inl, inr, arith}
use Rattle.std.specs.List.{Contains, sum_by, list_any}
use Rattle.std.specs.Option.{option_map}
use Rattle.std.proofs.lemmas.Bool.{cases_lt}
use Rattle.std.proofs.lemmas.List.{take_more, drop_more, take_all, drop_all, append-nil, append_assoc, length-map, length-take-le, set_past, get_or_past}
use Rattle.std.proofs.lemmas.List.Sums.{sum_by-append}
use Rattle.std.proofs.lemmas.List.Elements.{filter_map-append, All-filter}
use Rattle.mp_pool.specs.Ratios.{times_fraction}
use Rattle.mp_pool.specs.declared.Term.{Term}
use Rattle.mp_forms.specs.Forms.{LinearForm}
use Rattle.mp_solver.specs.States.{States}
use Rattle.mp_solver.specs.Elimination.{without, term_of, replaced, replaced_term, forms_in, has_large_coefficient, has_large_constant, term_count}
use Rattle.mp_solver.specs.Solved.{IsSolvedForm, IsSolved}
use Rattle.mp_solver.specs.Storage.Solution.{Stays}
use Rattle.mp_solver.specs.Storage.Tally.{IsEnough}
use Rattle.mp_solver.specs.Storage.Rows.{Holders, holders_of, terms_in, IsListedFor, AreListed, StaysListed, IsWithout, AreHolders}
use Rattle.mp_solver.proofs.SubstitutionLemmas.{get_or-map}
use Rattle.mp_solver.proofs.EliminationLemmas.{all_fail}
use Rattle.mp_solver.proofs.StepLemmas.{holds-at}
use Rattle.mp_solver.proofs.TermLists.{Each-sum_terms, term_of-none}
use Rattle.mp_solver.proofs.RowLemmas.{AreListed-with_form, IsListedFor-stays, listed_in, both_true, row_within}

set-seam : (xs ys : States) (old y : Option LinearForm) (i : ℕ) → i ≡ length xs → set (xs ++ old ∷ ys) i y ≡ xs ++ y ∷ ys
set-seam [] ys old y zero is = refl
set-seam [] ys old y (suc i) is = absurd (omega (arith, is))
set-seam (x ∷ xs) ys old y zero is = absurd (omega (arith, is))
set-seam (x ∷ xs) ys old y (suc i) is = ap (λ zs. x ∷ zs) (set-seam xs ys old y i (omega (arith, is)))

get-seam : (xs ys : States) (s : Option LinearForm) (i : ℕ) → i ≡ length xs → get_or (xs ++ s ∷ ys) i None ≡ s
get-seam [] ys s zero is = refl
get-seam [] ys s (suc i) is = absurd (omega (arith, is))
get-seam (x ∷ xs) ys s zero is = absurd (omega (arith, is))
get-seam (x ∷ xs) ys s (suc i) is = get-seam xs ys s i (omega (arith, is))

set-same : (ss : States) (i : ℕ) → set ss i (get_or ss i None) ≡ ss
set-same [] i = refl
set-same (s ∷ ss) zero = refl
set-same (s ∷ ss) (suc i) = ap (λ xs. s ∷ xs) (set-same ss i)

count_of_both : (xs ys : States) → term_count (xs ++ ys) ≡ term_count xs + term_count ys
count_of_both xs ys = ap (sum_by (λ p. length p.terms)) (filter_map-append (λ form. form) xs ys) ∙ sum_by-append (λ p. length p.terms) (forms_in xs) (forms_in ys)

module _ (states : States) (serial : ℕ) (new : LinearForm) where
  abbrev pub mapped : States
  mapped = map (option_map (replaced serial new)) states

  abbrev pub partly : ℕ → States
  partly i = take i mapped ++ drop i states

  pub partly-count : (i : ℕ) → term_count (partly i) ≡ term_count (take i mapped) + term_count (drop i states)
  partly-count i = count_of_both (take i mapped) (drop i states)

  long : length mapped ≡ length states
  long = length-map states (option_map (replaced serial new))

  past : (i : ℕ) → length states ≤ i → partly i ≡ mapped
  past i over = ap (λ ss. take i mapped ++ ss) (drop_all i states over) ∙ append-nil (take i mapped) ∙ take_all i mapped (omega (arith, over, long))

  pub partly-all : (i : ℕ) → length states ≤ i → partly i ≡ mapped
  partly-all = past

  -- the form at the place that has been come to
  pub partly-at : (i : ℕ) → get_or (partly i) i None ≡ get_or states i None
  partly-at i =
      elim (cases_lt i (length states)) [
        | inl within ↦
            ap (λ ss. get_or (take i mapped ++ ss) i None) (drop_more states i None within)
            ∙ get-seam (take i mapped) (drop (i + 1) states) (get_or states i None) i (sym (length-take-le i mapped (omega (arith, within, long))))
        | inr over ↦ ap (λ ss. get_or ss i None) (past i over) ∙ get_or-map (replaced serial new) states i ∙ ap (option_map (replaced serial new)) (get_or_past states i None over) ∙ sym (get_or_past states i None over)
      ]

  -- it is replaced
  pub partly-next : (i : ℕ) → set (partly i) i (option_map (replaced serial new) (get_or states i None)) ≡ partly (i + 1)
  partly-next i =
      elim (cases_lt i (length states)) [
        | inl within ↦
            let next = option_map (replaced serial new) (get_or states i None) in
            let taken : take (i + 1) mapped ≡ take i mapped ++ next ∷ [] = take_more mapped i None (omega (arith, within, long)) ∙ ap (λ s. take i mapped ++ s ∷ []) (get_or-map (replaced serial new) states i) in
            ap (λ ss. set (take i mapped ++ ss) i next) (drop_more states i None within)
            ∙ set-seam (take i mapped) (drop (i + 1) states) (get_or states i None) next i (sym (length-take-le i mapped (omega (arith, within, long))))
            ∙ sym (append_assoc (take i mapped) (next ∷ []) (drop (i + 1) states))
            ∙ ap (λ ss. ss ++ drop (i + 1) states) (sym taken)
        | inr over ↦
            ap (λ ss. set ss i (option_map (replaced serial new) (get_or states i None))) (past i over)
            ∙ set_past mapped i (option_map (replaced serial new) (get_or states i None)) (omega (arith, over, long))
            ∙ sym (past (i + 1) (omega (arith, over)))
      ]

  unchanged_by : (i : ℕ) → IsWithout states serial i → (s : Option LinearForm) → get_or states i None ≡ s → option_map (replaced serial new) s ≡ s
  unchanged_by i without None at = refl
  unchanged_by i without (Some p) at = ap (λ (q : LinearForm). Some q) (ap (replaced_term serial new p) (term_of-none serial p.terms (without p at)))

  -- a form without the unknown stays
  skip_one : (i : ℕ) → IsWithout states serial i → partly i ≡ partly (i + 1)
  skip_one i without =
      sym (set-same (partly i) i)
      ∙ ap (λ s. set (partly i) i s) (partly-at i ∙ sym (unchanged_by i without (get_or states i None) refl))
      ∙ partly-next i

  skip : (n i : ℕ) → ((row : ℕ) → i ≤ row → row < i + n → IsWithout states serial row) → partly i ≡ partly (i + n)
  skip zero i without = ap partly (omega arith)
  skip (suc n) i without =
      skip n i (λ row le less. without row le (omega (arith, less)))
      ∙ skip_one (i + n) (without (i + n) (omega arith) (omega arith))
      ∙ ap partly (omega arith)

  pub partly-skip : (from row : ℕ) → from ≤ row → ((other : ℕ) → from ≤ other → other < row → IsWithout states serial other) → partly from ≡ partly row
  partly-skip from row le without =
      skip (row - from) from (λ other above below. without other above (omega (arith, le, below))) ∙ ap partly (omega (arith, le))

  pub partly-end : (from : ℕ) → ((row : ℕ) → from ≤ row → IsWithout states serial row) → partly from ≡ mapped
  partly-end from without =
      skip (length states) from (λ row le less. without row le) ∙ past (from + length states) (omega arith)

  -- a form stays in range, where all do
  pub stays-at : IsSolved states → list_any has_large_coefficient (forms_in mapped) ≡ false → list_any has_large_constant (forms_in mapped) ≡ false →
      (i : ℕ) (p : LinearForm) → get_or states i None ≡ Some p → Stays serial new p
  stays-at solved coefficients constants i p at =
      let q : get_or mapped i None ≡ Some (replaced serial new p) = get_or-map (replaced serial new) states i ∙ ap (option_map (replaced serial new)) at in
      record {
        terms = (holds-at (IsSolvedForm states) states i p solved.forms at).terms;
        coefficients = holds-at (λ f. has_large_coefficient f ≡ false) mapped i (replaced serial new p) (all_fail has_large_coefficient (forms_in mapped) coefficients) q;
        constant = holds-at (λ f. has_large_constant f ≡ false) mapped i (replaced serial new p) (all_fail has_large_constant (forms_in mapped) constants) q;
      }

listed_term : (holders : Holders) (row serial : ℕ) (new p : LinearForm) (t : Option Term) → IsListedFor holders row p.terms → IsListedFor holders row new.terms → IsListedFor holders row (replaced_term serial new p t).terms
listed_term holders row serial new p None old own = old
listed_term holders row serial new p (Some t) old own =
    Each-sum_terms (λ s. Contains (holders_of holders s) row) (times_fraction t.coefficient) (without serial p.terms) new.terms (All-filter _ (λ t. Contains (holders_of holders t.serial) row) p.terms old) own

-- the form of one row is replaced, and listed
module _ (states : States) (before after : Holders) (row serial : ℕ) (new : LinearForm) (stays : StaysListed before after) (lists : IsListedFor before row (terms_in (get_or states row None)) → IsListedFor after row new.terms) (listed : AreListed states before) where
  listed_by : (s : Option LinearForm) → get_or states row None ≡ s → AreListed (set states row (option_map (replaced serial new) s)) after
  listed_by None at =
      subst (λ (ss : States). AreListed ss after) (sym (ap (set states row) (sym at) ∙ set-same states row))
      (record { each = λ other p some. IsListedFor-stays before after other p.terms stays (listed.each other p some) })
  listed_by (Some p) at =
      let old = listed_in states before row (Some p) listed (sym at) in
      AreListed-with_form states before after row (replaced serial new p) (row_within states row p at) stays
      (listed_term after row serial new p (term_of serial p.terms) (IsListedFor-stays before after row p.terms stays old) (lists (subst (λ s. IsListedFor before row (terms_in s)) (sym at) old))) listed

  pub listed-next : AreListed (set states row (option_map (replaced serial new) (get_or states row None))) after
  listed-next = listed_by (get_or states row None) refl

-- how far the rewriting has come
pub record IsRewritten (states : States) (serial : ℕ) (new : LinearForm) (holders : Holders) (now : States) (now_holders : Holders) (rows : List ℕ) (all : Bool) : Type 0 where
  pub from : ℕ
  pub states_are : now ≡ partly states serial new from
  pub next : AreHolders states serial from rows
  pub lists : length now_holders ≡ length holders
  pub listed : all ≡ true → AreListed states holders → AreListed now now_holders

module _ (states : States) (serial : ℕ) (new : LinearForm) (holders : Holders) (now : States) (now_holders : Holders) (row : ℕ) (rows : List ℕ) (all : Bool) (so_far : IsRewritten states serial new holders now now_holders (row ∷ rows) all) where
  now_is : now ≡ partly states serial new row
  now_is = so_far.states_are ∙ partly-skip states serial new so_far.from row so_far.next.0 (λ other above below. so_far.next.1 other above below)

  pub now-at : get_or now row None ≡ get_or states row None
  now-at = ap (λ ss. get_or ss row None) now_is ∙ partly-at states serial new row

  -- the terms at the row, by how many there are at any time
  pub now-enough : (size : ℕ) → IsEnough states serial new size → term_count now + length new.terms ≤ size
  now-enough size enough = subst (λ ss. term_count ss + length new.terms ≤ size) (sym now_is) (enough row)

  pub IsRewritten-next : (next_holders : Holders) (added : Bool) → StaysListed now_holders next_holders → (added ≡ true → IsListedFor now_holders row (terms_in (get_or now row None)) → IsListedFor next_holders row new.terms) →
      IsRewritten states serial new holders (set now row (option_map (replaced serial new) (get_or now row None))) next_holders rows (all && added)
  IsRewritten-next next_holders added stays lists = record {
    from = row + 1;
    states_are =
        ap (λ s. set now row (option_map (replaced serial new) s)) now-at
        ∙ ap (λ ss. set ss row (option_map (replaced serial new) (get_or states row None))) now_is
        ∙ partly-next states serial new row;
    next = so_far.next.2;
    lists = stays.same_length ∙ so_far.lists;
    listed = λ both listed.
        let parts = both_true all added both in
        listed-next now now_holders next_holders row serial new stays (lists parts.1) (so_far.listed parts.0 listed);
  }

-- all rows have been visited
pub rewritten-all : (states : States) (serial : ℕ) (new : LinearForm) (holders : Holders) (now : States) (now_holders : Holders) (all : Bool) → IsRewritten states serial new holders now now_holders [] all → now ≡ map (option_map (replaced serial new)) states
rewritten-all states serial new holders now now_holders all so_far = so_far.states_are ∙ partly-end states serial new so_far.from (λ row le. so_far.next row le)
