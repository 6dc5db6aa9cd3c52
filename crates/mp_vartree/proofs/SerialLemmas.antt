-- Numbers in increasing order, and the unknowns that were made for variables.
use Rattle.std.proofs.Common.{◌≡◌, ℕ, Bool, true, false, ◌&&◌, ◌||◌, cond, T, List, [], ◌∷◌, map, Some, None, refl, sym, ap, ◌∙◌, subst}
use Rattle.std.specs.Ordering.{is_eq, is_lt, nat_cmp, eq_by_cmp, match_ordering}
use Rattle.std.specs.declared.cmp.Ordering.{Ordering}
use Rattle.std.specs.declared.cmp.Ordering.TheVariants.{Less, Equal, Greater}
use Rattle.std.specs.Cmp.{nat_cmp_total}
use Rattle.std.specs.List.{AllByRecursion}
use Rattle.std.specs.List.Sorted.{IsStrictlySortedBy}
use Rattle.std.specs.FinMap.{find, put, is_sorted, nat_cmp-IsAntisymmetric}
use Rattle.std.specs.FinMap.Entries.{by_order, below_all, find-put, is_sorted-put, same_entries}
use Rattle.mp_vartree.specs.Serials.{with_number, increasing}
use Rattle.mp_vartree.specs.Layout.Gathered.{has}

both : (a b : Bool) → T a → T b → T (a && b)
both true b p q = q
both false b p q = absurd p

abbrev units : List ℕ → List (ℕ × Unit {0})
units ns = map (λ n. (n, tt)) ns

units_back : (ns : List ℕ) → map (λ e. e.0) (units ns) ≡ ns
units_back [] = refl
units_back (n ∷ ns) = ap (λ ms. n ∷ ms) (units_back ns)

some_if : (a b : Bool) → cond a (Some tt) (cond b (Some tt) None) ≡ cond (a || b) (Some (tt {0})) None
some_if true b = refl
some_if false b = refl

find_units : (n : ℕ) (ns : List ℕ) → find nat_cmp n (units ns) ≡ cond (has n ns) (Some tt) None
find_units n [] = refl
find_units n (m ∷ ms) = ap (cond (is_eq (nat_cmp n m)) (Some tt)) (find_units n ms) ∙ some_if (is_eq (nat_cmp n m)) (has n ms)

by_cases : (r : Ordering) (n m : ℕ) (ms : List ℕ) (rest : List ℕ)
    → units (match_ordering r (n ∷ m ∷ ms) (m ∷ ms) (m ∷ rest)) ≡ by_order r ((n, tt) ∷ (m, tt) ∷ units ms) ((m, tt) ∷ units ms) ((m, tt) ∷ units rest)
by_cases Less n m ms rest = refl
by_cases Equal n m ms rest = refl
by_cases Greater n m ms rest = refl

units_with : (n : ℕ) (ms : List ℕ) → units (with_number n ms) ≡ put nat_cmp n tt (units ms)
units_with n [] = refl
units_with n (m ∷ ms) =
    by_cases (nat_cmp n m) n m ms (with_number n ms)
    ∙ ap (λ es. by_order (nat_cmp n m) ((n, tt) ∷ (m, tt) ∷ units ms) ((m, tt) ∷ units ms) ((m, tt) ∷ es)) (units_with n ms)

increasing_sorted : (ns : List ℕ) → T (is_sorted nat_cmp (units (increasing ns)))
increasing_sorted [] = tt
increasing_sorted (n ∷ ns) = subst (λ es. T (is_sorted nat_cmp es)) (sym (units_with n (increasing ns))) (is_sorted-put nat_cmp nat_cmp_total n tt (units (increasing ns)) (increasing_sorted ns))

find_increasing : (q : ℕ) (ns : List ℕ) → find nat_cmp q (units (increasing ns)) ≡ find nat_cmp q (units ns)
find_increasing q [] = refl
find_increasing q (n ∷ ns) =
    ap (find nat_cmp q) (units_with n (increasing ns)) ∙ find-put nat_cmp nat_cmp_total q n tt (units (increasing ns)) ∙ ap (cond (eq_by_cmp nat_cmp q n) (Some tt)) (find_increasing q ns)

less_all : (n : ℕ) (ns : List ℕ) → AllByRecursion (λ m. nat_cmp n m ≡ Less) ns → T (below_all nat_cmp n (units ns))
less_all n [] h = tt
less_all n (m ∷ ms) h = subst (λ r. T (is_lt r && below_all nat_cmp n (units ms))) (sym h.0) (less_all n ms h.1)

units_sorted : (ns : List ℕ) → IsStrictlySortedBy nat_cmp ns → T (is_sorted nat_cmp (units ns))
unfolding IsStrictlySortedBy
units_sorted [] h = tt
units_sorted (n ∷ ns) h = both (below_all nat_cmp n (units ns)) (is_sorted nat_cmp (units ns)) (less_all n ns h.0) (units_sorted ns h.1)

-- a list in increasing order is known by what it has
pub increasing_is : (ks ns : List ℕ) → IsStrictlySortedBy nat_cmp ks → ((n : ℕ) → has n ks ≡ has n ns) → ks ≡ increasing ns
increasing_is ks ns sorted same =
    sym (units_back ks)
    ∙ ap (map (λ e. e.0)) (same_entries nat_cmp nat_cmp_total nat_cmp-IsAntisymmetric (units ks) (units (increasing ns)) (units_sorted ks sorted) (increasing_sorted ns)
    (λ q. find_units q ks ∙ ap (λ b. cond b (Some tt) None) (same q) ∙ sym (find_units q ns) ∙ sym (find_increasing q ns)))
    ∙ units_back (increasing ns)
