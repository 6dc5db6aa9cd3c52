-- A name matches one pattern; the list of variables is a finite map.
use Rattle.std.proofs.Common.{◌≡◌, Bool, true, false, cond, not, List, [], ◌∷◌, Option, None, refl, sym, ap, ◌∙◌}
use Rattle.std.specs.Ordering.{is_eq}
use Rattle.std.specs.Cmp.{tied_itself}
use Rattle.std.specs.Cmp.Lexicographic.{lists_total}
use Rattle.std.proofs.lemmas.Bool.{eqb-true, and_parts, and_from}
use Rattle.std.specs.FinMap.{find, slice_cmp-IsAntisymmetric}
use Rattle.std.specs.FinMap.Entries.{find-put, find-where_key}
use Rattle.mp_vartree.specs.Names.{name_cmp, full_name, fits, matches, shape_of, pattern_of}
use Rattle.mp_vartree.specs.Laws.{MatchesOne, TellsApart, PutsOne, TakesThose}
use Rattle.mp_vartree.specs.declared.names.Part.{Part}
use Rattle.mp_vartree.specs.declared.names.Part.TheVariants as part
use Rattle.mp_vartree.specs.declared.names.Shape.{Shape}
use Rattle.mp_vartree.specs.declared.names.Shape.TheVariants as shape
use Rattle.mp_vartree.proofs.OrderLemmas.{by_part}
use Rattle.mp_vartree.proofs.TreeLemmas.{is_equal}
use Rattle.mp_vartree.proofs.NameLemmas.{equal_itself}

one_shape : (s : Shape) (p : Part) → fits s p ≡ true → s ≡ shape_of p
one_shape (shape.Sym a) (part.Sym b) e = ap shape.Sym (eqb-true a b e)
one_shape (shape.Sym a) (part.Sub v) e = cc
one_shape shape.Any (part.Sym b) e = cc
one_shape shape.Any (part.Sub v) e = refl

its_shape : (p : Part) → fits (shape_of p) p ≡ true
its_shape (part.Sym a) = equal_itself a
its_shape (part.Sub v) = refl

one_pattern : (pattern : List Shape) (name : List Part) → matches pattern name ≡ true → pattern ≡ pattern_of name
one_pattern [] [] e = refl
one_pattern [] (p ∷ ps) e = cc
one_pattern (s ∷ ss) [] e = cc
one_pattern (s ∷ ss) (p ∷ ps) e =
    let parts = and_parts (fits s p) (matches ss ps) e in
    λ i. one_shape s p parts.0 i ∷ one_pattern ss ps parts.1 i

its_pattern : (name : List Part) → matches (pattern_of name) name ≡ true
its_pattern [] = refl
its_pattern (p ∷ ps) = and_from (fits (shape_of p) p) (matches (pattern_of ps) ps) (its_shape p) (its_pattern ps)

pub matches_one : MatchesOne
matches_one pattern name = (one_pattern pattern name, λ e. ap (λ p. matches p name) e ∙ its_pattern name)

pub tells_apart : TellsApart
tells_apart a b =
    (λ e. slice_cmp-IsAntisymmetric by_part.only a b (is_equal (name_cmp a b) e), λ e. ap (λ c. is_eq (name_cmp a c)) (sym e) ∙ ap is_eq (tied_itself (lists_total by_part.total) a))

pub puts_one : PutsOne
puts_one v root name x other = find-put name_cmp (lists_total by_part.total) other (full_name root name) x v.variables

turned : {X : Type 0} (b : Bool) (o : Option X) → cond (not b) o None ≡ cond b None o
turned true o = refl
turned false o = refl

pub takes_those : TakesThose
takes_those v test name =
    find-where_key name_cmp (λ n. not (test n)) name (λ x e. ap (λ n. not (test n)) (sym (slice_cmp-IsAntisymmetric by_part.only name x e))) v.variables
    ∙ turned (test name) (find name_cmp name v.variables)
