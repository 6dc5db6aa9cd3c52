-- What stands at names, and what a pattern takes away.
use Rattle.std.proofs.Common.{◌≡◌, ℕ, Bool, true, false, cond, not, ◌&&◌, nat_eq, List, [], ◌∷◌, refl, sym, ap, ◌∙◌}
use Rattle.std.specs.Ordering.{is_eq, eq_by_cmp, nat_cmp}
use Rattle.std.specs.Cmp.{unsigned_ties, tied_itself, nat_cmp_total}
use Rattle.std.proofs.lemmas.Bool.{eqb-true, and_parts}
use mathlib.Core.Bool.{true≢false}
use Rattle.mp_vartree.specs.Names.{part_cmp, full_name, full_pattern, is_meant, begins, matches}
use Rattle.mp_vartree.specs.declared.names.Part.{Part}
use Rattle.mp_vartree.specs.declared.names.Part.TheVariants as part
use Rattle.mp_vartree.specs.declared.names.Shape.{Shape}
use Rattle.mp_vartree.specs.declared.names.Shape.TheVariants as shape

pub unless : (a b : Bool) → not (a && b) ≡ cond a (not b) true
unless true b = refl
unless false b = refl

-- the names that a pattern leaves alone
abbrev pub is_kept : Bool → List Shape → List Part → Bool
is_kept below_too pattern name = not (is_meant below_too pattern name)

pub kept_of_none : (below_too : Bool) (s : Shape) (rest : List Shape) → not (is_meant below_too (s ∷ rest) []) ≡ true
kept_of_none true s rest = refl
kept_of_none false s rest = refl

pub kept_behind : (below_too : Bool) (symbol : ℕ) (rest : List Shape) (q : Part) (qs : List Part)
    → is_kept below_too (shape.Sym symbol ∷ rest) (q ∷ qs) ≡ cond (eq_by_cmp part_cmp (part.Sym symbol) q) (is_kept below_too rest qs) true
kept_behind true symbol rest (part.Sym b) qs = ap (λ e. not (e && begins rest qs)) (unsigned_ties symbol b) ∙ unless (eq_by_cmp nat_cmp symbol b) (begins rest qs)
kept_behind false symbol rest (part.Sym b) qs = ap (λ e. not (e && matches rest qs)) (unsigned_ties symbol b) ∙ unless (eq_by_cmp nat_cmp symbol b) (matches rest qs)
kept_behind true symbol rest (part.Sub v) qs = refl
kept_behind false symbol rest (part.Sub v) qs = refl

pub equal_itself : (a : ℕ) → nat_eq a a ≡ true
equal_itself a = unsigned_ties a a ∙ ap is_eq (tied_itself nat_cmp_total a)

-- a name behind its root
pub meant_behind : (below : Bool) (a : ℕ) (pattern : List Shape) (name : List Part) → is_meant below (full_pattern a pattern) (full_name a name) ≡ is_meant below pattern name
meant_behind true a pattern name = ap (λ b. b && begins pattern name) (equal_itself a)
meant_behind false a pattern name = ap (λ b. b && matches pattern name) (equal_itself a)

-- names that are meant are behind the root
pub meant_root : (below : Bool) (a : ℕ) (pattern : List Shape) (k : List Part) → is_meant below (full_pattern a pattern) k ≡ true → (name : List Part) × (k ≡ full_name a name) × (is_meant below pattern name ≡ true)
meant_root below a pattern [] h = absurd (true≢false (sym (kept_of_none below (shape.Sym a) pattern) ∙ ap not h))
meant_root true a pattern (part.Sub v ∷ ps) h = cc
meant_root false a pattern (part.Sub v ∷ ps) h = cc
meant_root true a pattern (part.Sym b ∷ ps) h =
    let parts = and_parts (nat_eq a b) (begins pattern ps) h in
    (ps, ap (λ s. part.Sym s ∷ ps) (sym (eqb-true a b parts.0)), parts.1)
meant_root false a pattern (part.Sym b ∷ ps) h =
    let parts = and_parts (nat_eq a b) (matches pattern ps) h in
    (ps, ap (λ s. part.Sym s ∷ ps) (sym (eqb-true a b parts.0)), parts.1)
