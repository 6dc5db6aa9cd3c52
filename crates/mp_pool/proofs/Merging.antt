-- The steps of a merge.
use Rattle.std.proofs.Common.{◌≡◌, ◌<◌, ◌∷◌, [], ◌++◌, List, arith, append_assoc, refl, ap, take, drop, length, get_or, sym, ◌∙◌, suc, subst}
use Rattle.std.specs.Prelude.{ℤ, ◌+ℤ◌}
use Rattle.std.proofs.lemmas.Bool.Decides.{nat_tests}
use Rattle.mp_pool.specs.declared.Term.{Term}
use Rattle.mp_pool.specs.Storage.Merge.{merge, kept, FrontBelow, AreSmall}

pub merge-greater : (change : ℤ → ℤ) (p : Term) (ps : List Term) (q : Term) (qs : List Term) → q.serial < p.serial → merge change (p ∷ ps) (q ∷ qs) ≡ p ∷ merge change ps (q ∷ qs)
unfolding merge
merge-greater change p ps q qs less = grind (arith, nat_tests)

pub merge-same : (change : ℤ → ℤ) (p : Term) (ps : List Term) (q : Term) (qs : List Term) → p.serial ≡ q.serial → merge change (p ∷ ps) (q ∷ qs) ≡ kept 2685 q.serial (p.coefficient +ℤ change q.coefficient) (merge change ps qs)
unfolding merge
merge-same change p ps q qs same = grind (arith, nat_tests)

-- a term that the list has not, and none greater before it
pub merge-new : (change : ℤ → ℤ) (ps : List Term) (q : Term) (qs : List Term) → FrontBelow q.serial ps → merge change ps (q ∷ qs) ≡ kept 1343 q.serial (change q.coefficient) (merge change ps qs)
unfolding merge
merge-new change [] q qs front = refl
merge-new change (p ∷ ps) q qs front = grind (arith, nat_tests)

pub merge-nil : (change : ℤ → ℤ) (ps : List Term) → merge change ps [] ≡ ps
unfolding merge
merge-nil change [] = refl
merge-nil change (p ∷ ps) = ap (λ rest. p ∷ rest) (merge-nil change ps)

-- one term passed
pub pass-step : (change : ℤ → ℤ) (done left : List Term) (q : Term) (qs : List Term) → (p : Term) (ps : List Term) → left ≡ p ∷ ps → q.serial < p.serial →
    (done ++ p ∷ []) ++ merge change ps (q ∷ qs) ≡ done ++ merge change left (q ∷ qs)
pass-step change done left q qs p ps is less = rw (is, merge-greater change p ps q qs less, append_assoc) refl

pub small-drop : (xs : List Term) → AreSmall xs → AreSmall (drop 1 xs)
small-drop [] small = small
small-drop (x ∷ xs) small = λ k d h. small (suc k) d (omega arith)

-- a term that the list has
pub add-same : (change : ℤ → ℤ) (q : Term) (left done after : List Term) (c m : ℤ) → left ≡ record { serial = q.serial; coefficient = c } ∷ drop 1 left →
    ((rest : List Term) → after ++ rest ≡ done ++ kept 2685 q.serial m rest) → m ≡ c +ℤ change q.coefficient →
    (qs : List Term) → after ++ merge change (drop 1 left) qs ≡ done ++ merge change left (q ∷ qs)
add-same change q left done after c m is kept_so sum qs =
    kept_so (merge change (drop 1 left) qs)
    ∙ ap (λ (x : ℤ). done ++ kept 2685 q.serial x (merge change (drop 1 left) qs)) sum
    ∙ ap (λ (xs : List Term). done ++ xs) (sym (merge-same change (record { serial = q.serial; coefficient = c }) (drop 1 left) q qs refl))
    ∙ ap (λ (xs : List Term). done ++ merge change xs (q ∷ qs)) (sym is)

-- a term that it has not
pub add-new : (change : ℤ → ℤ) (q : Term) (left done after : List Term) (m : ℤ) → FrontBelow q.serial left →
    ((rest : List Term) → after ++ rest ≡ done ++ kept 1343 q.serial m rest) → m ≡ change q.coefficient →
    (qs : List Term) → after ++ merge change left qs ≡ done ++ merge change left (q ∷ qs)
add-new change q left done after m front kept_so is qs =
    kept_so (merge change left qs)
    ∙ ap (λ (x : ℤ). done ++ kept 1343 q.serial x (merge change left qs)) is
    ∙ ap (λ (xs : List Term). done ++ xs) (sym (merge-new change left q qs front))

-- the first of a list that is passed
pub pass-first : (change : ℤ → ℤ) (done left : List Term) (p q : Term) (qs : List Term) → 0 < length left → p ≡ get_or left 0 p → q.serial < p.serial →
    (done ++ take 1 left) ++ merge change (drop 1 left) (q ∷ qs) ≡ done ++ merge change left (q ∷ qs)
pass-first change done [] p q qs some is less = absurd (omega arith)
pass-first change done (x ∷ xs) p q qs some is less = pass-step change done (x ∷ xs) q qs x xs refl (rw (← is) less)

pub small-rest : (xs : List Term) (y : Term) (ys : List Term) → xs ≡ y ∷ ys → AreSmall xs → AreSmall ys
small-rest xs y ys is small = let P : List Term → Type 0 = λ ts. AreSmall (drop 1 ts) in subst P is (small-drop xs small)
