-- The macros on the way along a name.
use Rattle.std.proofs.Common.{◌≡◌, ℕ, suc, ◌+◌, ◌<◌, Bool, true, false, ◌||◌, List, [], ◌∷◌, length, drop, get_or, Option, Some, None, is_some, refl, sym, ap, ◌∙◌, arith}
use Rattle.std.proofs.Math.Seq.{drop-cons}
use Rattle.std.specs.Option.{option_map}
use Rattle.mp_values.specs.declared.macros.Macro.{Macro}
use Rattle.mp_vartree.specs.declared.names.Part.{Part}
use Rattle.mp_vartree.specs.declared.names.Shape.{Shape}
use Rattle.mp_vartree.specs.Names.{shape_of, pattern_of}
use Rattle.mp_vartree.specs.Declarations.{or_else, first_macro, is_below_macro}

-- a macro that is met at once
pub met_here : (at : List Shape → Option Macro) (ss : List Shape) (n : ℕ) (m : Macro) → at [] ≡ Some m → first_macro at ss n ≡ Some (m, n)
met_here at [] n m e = ap (λ o. or_else o n None) e
met_here at (s ∷ ss) n m e = ap (λ o. or_else o n (first_macro (λ rest. at (s ∷ rest)) ss (suc n))) e

pub none_on : (ss : List Shape) (n : ℕ) → first_macro (λ rest. None) ss n ≡ None
none_on [] n = refl
none_on (s ∷ ss) n = none_on ss (suc n)

-- past a step it goes on from there
pub met_past : (at at' : List Shape → Option Macro) (s : Shape) (ss : List Shape) (n : ℕ) → at [] ≡ None → ((rest : List Shape) → at (s ∷ rest) ≡ at' rest) → first_macro at (s ∷ ss) n ≡ first_macro at' ss (suc n)
met_past at at' s ss n none e = ap (λ o. or_else o n (first_macro (λ rest. at (s ∷ rest)) ss (suc n))) none ∙ ap (λ f. first_macro f ss (suc n)) (λ i rest. e rest i)

-- no macro is met where nothing goes on
pub met_none : (at : List Shape → Option Macro) (s : Shape) (ss : List Shape) (n : ℕ) → at [] ≡ None → ((rest : List Shape) → at (s ∷ rest) ≡ None) → first_macro at (s ∷ ss) n ≡ None
met_none at s ss n none e = met_past at (λ rest. None) s ss n none e ∙ none_on ss (suc n)

or_same : (a b c : Bool) → a ≡ b → (a || c) ≡ (b || c)
or_same a b c e = ap (λ x. x || c) e

-- a pattern below a macro that is met at once
pub below_here : (at : List Shape → Option Macro) (s : Shape) (ss : List Shape) → is_some (at []) ≡ true → is_below_macro at (s ∷ ss) ≡ true
below_here at s ss e = or_same (is_some (at [])) true (is_below_macro (λ rest. at (s ∷ rest)) ss) e

pub below_past : (at at' : List Shape → Option Macro) (s : Shape) (ss : List Shape) → is_some (at []) ≡ false → ((rest : List Shape) → at (s ∷ rest) ≡ at' rest) → is_below_macro at (s ∷ ss) ≡ is_below_macro at' ss
below_past at at' s ss none e = or_same (is_some (at [])) false (is_below_macro (λ rest. at (s ∷ rest)) ss) none ∙ ap (λ f. is_below_macro f ss) (λ i rest. e rest i)

below_none_on : (ss : List Shape) → is_below_macro (λ rest. None) ss ≡ false
below_none_on [] = refl
below_none_on (s ∷ ss) = below_none_on ss

pub below_none : (at : List Shape → Option Macro) (s : Shape) (ss : List Shape) → is_some (at []) ≡ false → ((rest : List Shape) → at (s ∷ rest) ≡ None) → is_below_macro at (s ∷ ss) ≡ false
below_none at s ss none e = below_past at (λ rest. None) s ss none e ∙ below_none_on ss

one_more : (i : ℕ) → suc i ≡ i + 1
one_more i = omega arith

next_part : (names : List Part) (i : ℕ) (d : Part) (s : Shape) → i < length names → s ≡ shape_of (get_or names i d) → pattern_of (drop i names) ≡ s ∷ pattern_of (drop (suc i) names)
next_part names i d s within is = ap pattern_of (drop-cons names i d within) ∙ ap (λ x. x ∷ pattern_of (drop (suc i) names)) (sym is)

-- the same along a name, part by part
pub part_past : (at at' : List Shape → Option Macro) (names : List Part) (i : ℕ) (d : Part) (s : Shape) → i < length names → s ≡ shape_of (get_or names i d) → at [] ≡ None
    → ((rest : List Shape) → at (s ∷ rest) ≡ at' rest) → first_macro at' (pattern_of (drop (i + 1) names)) (i + 1) ≡ first_macro at (pattern_of (drop i names)) i
part_past at at' names i d s within is none e =
    ap (λ j. first_macro at' (pattern_of (drop j names)) j) (sym (one_more i)) ∙ sym (met_past at at' s (pattern_of (drop (suc i) names)) i none e)
    ∙ ap (λ pattern. first_macro at pattern i) (sym (next_part names i d s within is))

pub part_none : (at : List Shape → Option Macro) (names : List Part) (i : ℕ) (d : Part) (s : Shape) → i < length names → s ≡ shape_of (get_or names i d) → at [] ≡ None
    → ((rest : List Shape) → at (s ∷ rest) ≡ None) → None ≡ first_macro at (pattern_of (drop i names)) i
part_none at names i d s within is none e =
    sym (met_none at s (pattern_of (drop (suc i) names)) i none e) ∙ ap (λ pattern. first_macro at pattern i) (sym (next_part names i d s within is))

-- and along a pattern
pub shape_past : (at at' : List Shape → Option Macro) (shapes : List Shape) (i : ℕ) (d : Shape) → i < length shapes → is_some (at []) ≡ false
    → ((rest : List Shape) → at (get_or shapes i d ∷ rest) ≡ at' rest) → is_below_macro at' (drop (i + 1) shapes) ≡ is_below_macro at (drop i shapes)
shape_past at at' shapes i d within none e =
    ap (λ j. is_below_macro at' (drop j shapes)) (sym (one_more i)) ∙ sym (below_past at at' (get_or shapes i d) (drop (suc i) shapes) none e) ∙ ap (is_below_macro at) (sym (drop-cons shapes i d within))

pub shape_none : (at : List Shape → Option Macro) (shapes : List Shape) (i : ℕ) (d : Shape) → i < length shapes → is_some (at []) ≡ false
    → ((rest : List Shape) → at (get_or shapes i d ∷ rest) ≡ None) → false ≡ is_below_macro at (drop i shapes)
shape_none at shapes i d within none e = sym (below_none at (get_or shapes i d) (drop (suc i) shapes) none e) ∙ ap (is_below_macro at) (sym (drop-cons shapes i d within))

pub shape_here : (at : List Shape → Option Macro) (shapes : List Shape) (i : ℕ) (d : Shape) → i < length shapes → is_some (at []) ≡ true → true ≡ is_below_macro at (drop i shapes)
shape_here at shapes i d within some = sym (below_here at (get_or shapes i d) (drop (suc i) shapes) some) ∙ ap (is_below_macro at) (sym (drop-cons shapes i d within))

pub is_some_map : {A B : Type 0} (f : A → B) (o : Option A) (p : Option B) (b : Bool) → option_map f o ≡ p → b ≡ is_some o → is_some p ≡ b
is_some_map f None p b e is = ap is_some (sym e) ∙ sym is
is_some_map f (Some x) p b e is = ap is_some (sym e) ∙ sym is
