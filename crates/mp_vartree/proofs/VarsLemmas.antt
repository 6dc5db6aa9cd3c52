-- The variables and declarations that contracts see, by the tags of their roots.
use Rattle.std.proofs.Common.{◌≡◌, ℕ, Bool, true, false, cond, not, List, [], ◌∷◌, Option, Some, None, Ok, Err, BTreeMap, refl, sym, ap, ◌∙◌, subst}
use Rattle.std.specs.Option.{IsSome}
use Rattle.std.specs.Ordering.{is_eq, nat_cmp}
use Rattle.std.specs.Map.{lookup}
use Rattle.std.specs.Cmp.{unsigned_ties}
use Rattle.std.specs.Cmp.Lexicographic.{lists_total}
use Rattle.std.specs.BTreeMap as map
use Rattle.std.specs.FinMap.{FinMap, entries, get, insert, retain_keys, get-entries, get-empty, entries-insert, slice_cmp-IsAntisymmetric}
use Rattle.mp_vartree.specs.Names.{part_cmp, shape_cmp, name_cmp, pattern_cmp, full_pattern, pattern_of, is_meant, begins, is_of_root}
use Rattle.mp_vartree.specs.Declarations.{kind_in, macro_in, first_macro, is_below_macro}
use Rattle.mp_vartree.specs.Variables.{Variables, no_variables, declared_at, macro_at, variable_at, with_declared, without, with_variable, forget, macro_of, type_of, define, store_as, wanted_kind}
use Rattle.mp_values.specs.Kinds.{kind_of, is_kind}
use Rattle.mp_values.specs.declared.value.Value.{Value}
use Rattle.mp_vartree.specs.Layout.Tags.{declarations_in, variables_in}
use Rattle.mp_vartree.specs.declared.names.Part.{Part}
use Rattle.mp_vartree.specs.declared.names.Part.TheVariants as part
use Rattle.mp_vartree.specs.declared.names.Shape.{Shape}
use Rattle.mp_vartree.specs.declared.names.Shape.TheVariants as shape
use Rattle.mp_vartree.specs.declared.entry.Declared.{Declared}
use Rattle.mp_vartree.specs.declared.entry.Variable.{Variable}
use Rattle.mp_vartree.specs.declared.tag.Tag.{Tag}
use Rattle.mp_vartree.proofs.OrderLemmas.{by_part, by_shape}
use Rattle.mp_vartree.proofs.TreeLemmas.{retain_none}
use Rattle.mp_vartree.proofs.DeclarationLemmas.{none_on}
use Rattle.mp_vartree.proofs.EntryLemmas.{entries_empty, entries_retained}
use Rattle.mp_vartree.proofs.NameLemmas.{kept_of_none, kept_behind}
use Rattle.mp_vartree.proofs.RootLemmas as root
use Rattle.mp_vartree.proofs.RootLemmas.{part_roots, shape_roots}
use Rattle.mp_vartree.proofs.TagLemmas.{declarations_of, variables_of}

abbrev pub seen : ℕ → List (ℕ × Tag) → Variables
seen roots tags = record { roots = roots; declarations = entries (declarations_in tags); variables = entries (variables_in tags) }

-- the tag of a root
abbrev pub tag_at : List (ℕ × Tag) → ℕ → Option Tag
tag_at tags a = lookup (λ k. is_eq (nat_cmp a k)) tags

abbrev pub declared_by : Option Tag → FinMap pattern_cmp Declared
declared_by tag = root.tag_paths by_shape shape_roots declarations_of tag

abbrev pub held_by : Option Tag → FinMap name_cmp Variable
held_by tag = root.tag_paths by_part part_roots variables_of tag

pub seen_empty : seen 0 [] ≡ no_variables
seen_empty = λ i. record { roots = 0; declarations = entries_empty pattern_cmp i; variables = entries_empty name_cmp i }

pub declared_seen : (roots : ℕ) (tags : List (ℕ × Tag)) (a : ℕ) (pattern : List Shape) → declared_at (seen roots tags) (full_pattern a pattern) ≡ get (declared_by (tag_at tags a)) pattern
declared_seen roots tags a pattern = sym (get-entries (declarations_in tags) (shape.Sym a ∷ pattern)) ∙ root.get-rooted by_shape shape_roots declarations_of a tags pattern

pub held_seen : (roots : ℕ) (tags : List (ℕ × Tag)) (a : ℕ) (name : List Part) → variable_at (seen roots tags) a name ≡ get (held_by (tag_at tags a)) name
held_seen roots tags a name = sym (get-entries (variables_in tags) (part.Sym a ∷ name)) ∙ root.get-rooted by_part part_roots variables_of a tags name

pub macros_seen : (roots : ℕ) (tags : List (ℕ × Tag)) (a : ℕ) → macro_at (seen roots tags) a ≡ (λ pattern. macro_in (get (declared_by (tag_at tags a)) pattern))
macros_seen roots tags a = λ i pattern. macro_in (declared_seen roots tags a pattern i)

-- a pattern is defined in a tag
pub defined : (roots : ℕ) (tags new : List (ℕ × Tag)) (a : ℕ) (tag tag' : Tag) (name : List Shape) (d : Declared) (below : Bool) → Some tag ≡ tag_at tags a
    → ((q : ℕ) → tag_at new q ≡ cond (is_eq (nat_cmp a q)) (Some tag') (tag_at tags q))
    → tag'.declarations.paths ≡ insert tag.declarations.paths name d → tag'.variables ≡ retain_keys tag.variables (λ n. not (is_meant below name n))
    → seen roots new ≡ without (with_declared (seen roots tags) (full_pattern a name) d) (is_meant below (full_pattern a name))
defined roots tags new a tag tag' name d below was updates put kept =
    let declarations =
    ap entries (root.tag_inserted by_shape shape_roots declarations_of a tags new (Some tag) (Some tag') name d was updates put)
    ∙ entries-insert (lists_total by_shape.total) (declarations_in tags) (full_pattern a name) d in
    let variables =
    ap entries (root.tag_retained by_part part_roots variables_of a tags new (Some tag) (Some tag') (λ n. not (is_meant below (full_pattern a name) n)) (λ n. not (is_meant below name n)) was updates kept
    (kept_of_none below (shape.Sym a) name) (kept_behind below a name))
    ∙ entries_retained name_cmp (lists_total by_part.total) (slice_cmp-IsAntisymmetric by_part.only) (variables_in tags) (λ n. not (is_meant below (full_pattern a name) n)) in
    λ i. record { roots = roots; declarations = declarations i; variables = variables i }

-- a variable is put into a tag
pub stored : (roots : ℕ) (tags new : List (ℕ × Tag)) (a : ℕ) (tag tag' : Tag) (name : List Part) (x : Variable) → Some tag ≡ tag_at tags a
    → ((q : ℕ) → tag_at new q ≡ cond (is_eq (nat_cmp a q)) (Some tag') (tag_at tags q))
    → tag'.declarations.paths ≡ tag.declarations.paths → tag'.variables ≡ insert tag.variables name x
    → seen roots new ≡ with_variable (seen roots tags) a name x
stored roots tags new a tag tag' name x was updates same put =
    let declarations = ap entries (root.tag_kept by_shape shape_roots declarations_of a tags new (Some tag) (Some tag') was updates same) in
    let variables =
    ap entries (root.tag_inserted by_part part_roots variables_of a tags new (Some tag) (Some tag') name x was updates put)
    ∙ entries-insert (lists_total by_part.total) (variables_in tags) (part.Sym a ∷ name) x in
    λ i. record { roots = roots; declarations = declarations i; variables = variables i }

-- a tag whose paths stay
pub untouched : (roots : ℕ) (tags new : List (ℕ × Tag)) (a : ℕ) (tag tag' : Tag) → Some tag ≡ tag_at tags a
    → ((q : ℕ) → tag_at new q ≡ cond (is_eq (nat_cmp a q)) (Some tag') (tag_at tags q))
    → tag'.declarations.paths ≡ tag.declarations.paths → tag'.variables ≡ tag.variables → seen roots new ≡ seen roots tags
untouched roots tags new a tag tag' was updates same same' =
    let declarations = ap entries (root.tag_kept by_shape shape_roots declarations_of a tags new (Some tag) (Some tag') was updates same) in
    let variables = ap entries (root.tag_kept by_part part_roots variables_of a tags new (Some tag) (Some tag') was updates same') in
    λ i. record { roots = roots; declarations = declarations i; variables = variables i }

turned : (b : Bool) → not b ≡ cond b false true
turned true = refl
turned false = refl

other_roots : (a : ℕ) (q : Shape) (qs : List Shape) → not (is_of_root a (q ∷ qs)) ≡ cond (is_eq (shape_cmp (shape.Sym a) q)) false true
other_roots a (shape.Sym b) qs = ap not (unsigned_ties a b) ∙ turned (is_eq (nat_cmp a b))
other_roots a shape.Any qs = refl

-- a tag is taken away
pub forgotten : (roots : ℕ) (tags new : List (ℕ × Tag)) (a : ℕ) → ((q : ℕ) → tag_at new q ≡ cond (is_eq (nat_cmp a q)) None (tag_at tags q)) → seen roots new ≡ forget (seen roots tags) a
forgotten roots tags new a updates =
    let declarations =
    ap entries (root.tag_retained by_shape shape_roots declarations_of a tags new (tag_at tags a) None (λ n. not (is_of_root a n)) (λ n. false) refl updates
    (retain_none shape_cmp by_shape.total by_shape.only (declared_by (tag_at tags a))) refl (other_roots a))
    ∙ entries_retained pattern_cmp (lists_total by_shape.total) (slice_cmp-IsAntisymmetric by_shape.only) (declarations_in tags) (λ n. not (is_of_root a n)) in
    let variables =
    ap entries (root.tag_retained by_part part_roots variables_of a tags new (tag_at tags a) None (λ n. not (begins (full_pattern a []) n)) (λ n. false) refl updates
    (retain_none part_cmp by_part.total by_part.only (held_by (tag_at tags a))) refl (kept_behind true a []))
    ∙ entries_retained name_cmp (lists_total by_part.total) (slice_cmp-IsAntisymmetric by_part.only) (variables_in tags) (λ n. not (begins (full_pattern a []) n)) in
    λ i. record { roots = roots; declarations = declarations i; variables = variables i }

-- the macro along a name, by the tag of the root
pub macro_in_tag : (roots : ℕ) (tags : List (ℕ × Tag)) (a : ℕ) (name : List Part) (tag : Option Tag) → tag ≡ tag_at tags a
    → first_macro (λ pattern. macro_in (get (declared_by tag) pattern)) (pattern_of name) 0 ≡ macro_of (seen roots tags) a name
macro_in_tag roots tags a name tag is =
    ap (λ t. first_macro (λ pattern. macro_in (get (declared_by t) pattern)) (pattern_of name) 0) is ∙ ap (λ at. first_macro at (pattern_of name) 0) (sym (macros_seen roots tags a))

pub no_macro : (name : List Part) → None ≡ first_macro (λ pattern. macro_in (get (declared_by None) pattern)) (pattern_of name) 0
no_macro name = sym ((λ i. first_macro (λ pattern. macro_in (get-empty pattern_cmp pattern i)) (pattern_of name) 0) ∙ none_on (pattern_of name) 0)

-- the declared type, by the tag of the root
pub type_in : (roots : ℕ) (tags : List (ℕ × Tag)) (a : ℕ) (name : List Part) (tag : Option Tag) → tag ≡ tag_at tags a → kind_in (get (declared_by tag) (pattern_of name)) ≡ type_of (seen roots tags) a name
type_in roots tags a name tag is = ap (λ t. kind_in (get (declared_by t) (pattern_of name))) is ∙ ap kind_in (sym (declared_seen roots tags a (pattern_of name)))

pub no_type : (name : List Part) → None ≡ kind_in (get (declared_by None) (pattern_of name))
no_type name = ap kind_in (sym (get-empty pattern_cmp (pattern_of name)))

-- whether a pattern is below a macro, by the tag of the root
pub below_in : (roots : ℕ) (tags : List (ℕ × Tag)) (a : ℕ) (name : List Shape) (tag : Tag) → Some tag ≡ tag_at tags a
    → is_below_macro (λ pattern. macro_in (get tag.declarations.paths pattern)) name ≡ is_below_macro (macro_at (seen roots tags) a) name
below_in roots tags a name tag is =
    ap (λ t. is_below_macro (λ pattern. macro_in (get (declared_by t) pattern)) name) is ∙ ap (λ at. is_below_macro at name) (sym (macros_seen roots tags a))

-- what `get_mut` lends is written back as the tag of that root
pub written_tag : (tags new : BTreeMap ℕ Tag) (a : ℕ) (tag tag' : Tag) → Some tag ≡ map.get nat_cmp tags a → map.WritesThrough nat_cmp (nat_cmp a) tags tag' new
    → (q : ℕ) → tag_at new.entries q ≡ cond (is_eq (nat_cmp a q)) (Some tag') (tag_at tags.entries q)
written_tag tags new a tag tag' was through = (through.3 (subst IsSome was refl)).0

-- tags with the same names are seen alike
pub same_seen : (roots : ℕ) (tags mid : List (ℕ × Tag)) → declarations_in mid ≡ declarations_in tags → variables_in mid ≡ variables_in tags → seen roots mid ≡ seen roots tags
same_seen roots tags mid declarations variables = λ i. record { roots = roots; declarations = entries (declarations i); variables = entries (variables i) }

-- a definition that is refused
pub define_refused : (v w new : Variables) (a : ℕ) (name : List Shape) (d : Declared) (below : Bool) → w ≡ v → new ≡ w → true ≡ is_below_macro (macro_at w a) name → (Err (record {}), new) ≡ define v a name d below
define_refused v w new a name d below same is refused =
    (λ i. (Err (record {}), is i)) ∙ ap (λ b. cond b (Err (record {}), w) (Ok tt, without (with_declared w (full_pattern a name) d) (is_meant below (full_pattern a name)))) refused
    ∙ ap (λ u. define u a name d below) same

-- a definition that is accepted
pub define_accepted : (v w new : Variables) (a : ℕ) (name : List Shape) (d : Declared) (below : Bool) → w ≡ v → new ≡ without (with_declared w (full_pattern a name) d) (is_meant below (full_pattern a name))
    → false ≡ is_below_macro (macro_at w a) name → (Ok tt, new) ≡ define v a name d below
define_accepted v w new a name d below same is accepted =
    (λ i. (Ok tt, is i)) ∙ ap (λ b. cond b (Err (record {}), w) (Ok tt, without (with_declared w (full_pattern a name) d) (is_meant below (full_pattern a name)))) accepted
    ∙ ap (λ u. define u a name d below) same

-- a value that is refused
pub store_refused : (made : Bool) (v w new : Variables) (a : ℕ) (name : List Part) (value : Value) → w ≡ v → new ≡ w → false ≡ is_kind (wanted_kind w a name) (kind_of value) → (Err (record {}), new) ≡ store_as made v a name value
store_refused made v w new a name value same is refused =
    (λ i. (Err (record {}), is i)) ∙ ap (λ b. cond b (Ok tt, with_variable w a name (record { value = value; made = made })) (Err (record {}), w)) refused ∙ ap (λ u. store_as made u a name value) same

-- a value that is stored
pub store_accepted : (made : Bool) (v w new : Variables) (a : ℕ) (name : List Part) (value : Value) → w ≡ v → new ≡ with_variable w a name (record { value = value; made = made })
    → true ≡ is_kind (wanted_kind w a name) (kind_of value) → (Ok tt, new) ≡ store_as made v a name value
store_accepted made v w new a name value same is accepted =
    (λ i. (Ok tt, is i)) ∙ ap (λ b. cond b (Ok tt, with_variable w a name (record { value = value; made = made })) (Err (record {}), w)) accepted ∙ ap (λ u. store_as made u a name value) same

-- the variable of a name, by the tag of the root
pub held_in : (roots : ℕ) (tags : List (ℕ × Tag)) (a : ℕ) (name : List Part) (tag : Option Tag) → tag ≡ tag_at tags a → get (held_by tag) name ≡ variable_at (seen roots tags) a name
held_in roots tags a name tag is = ap (λ t. get (held_by t) name) is ∙ sym (held_seen roots tags a name)

pub none_held : (name : List Part) → None ≡ get (held_by None) name
none_held name = sym (get-empty name_cmp name)
