-- Headings are read as what they say.
use Rattle.std.proofs.Common.{◌≡◌, false, Option, None, is_some, ◌+◌, ◌<◌, ◌≤◌, refl, ap, sym, ◌∙◌, ℕ, suc, List, [], ◌∷◌, ◌++◌, Some, Ok, true, Bool, map, length, nat_eq, append_assoc, arith, ◌&&◌}
use Rattle.std.proofs.lemmas.List.{append-nil, length-append}
use Rattle.std.proofs.lemmas.Bool.{lt-ltb}
use Rattle.mp_values.specs.Outcome.{Outcome, then, change}
use Rattle.mp_values.specs.declared.item.Item.{Item}
use Rattle.mp_values.specs.declared.item.Item.TheVariants.{Symbol}
use Rattle.mp_values.specs.declared.macros.ParamKind.{ParamKind}
use Rattle.mp_values.specs.declared.macros.ParamKind.TheVariants.{BareExpr, ExprOf}
use Rattle.mp_values.specs.declared.meaning.Delimiters.{Delimiters}
use Rattle.mp_values.specs.declared.word.Parameter.{Parameter}
use Rattle.mp_values.specs.declared.word.Parameter.TheVariants as parameter
use Rattle.mp_values.specs.declared.word.CalledName.TheVariants.{Behind}
use Rattle.mp_values.specs.declared.word.Definition.TheVariants.{Def, Vardef, Primarydef, Secondarydef, Tertiarydef}
use Rattle.mp_values.specs.declared.word.Word.TheVariants as word
use Rattle.mp_vartree.specs.declared.names.Shape.{Shape}
use Rattle.mp_vartree.specs.declared.names.Shape.TheVariants.{Sym, Any}
use Rattle.mp_macro.specs.Signs.{Table, sign_of_symbol}
use Rattle.mp_macro.specs.Headings.{Reading, opening, equals_by, parameters_by, delimited_kind, delimited_kind_in, group_kind_by, group_rest_by, closed_by, are_pair, room_by, with_name, with_kind, with_parameter, bare_kind, bare_name_by, of_by, room_for_part_by, with_part, part_by, bracket_by, operator_equals_by}
use Rattle.mp_macro.specs.Definitions.{start, read, read_items}
use Rattle.mp_macro.specs.Grammar.{Further, Group, Bare, Absent, One, Two, Sets, ByEquals, ByAssign, further_written, group_written, groups_written, bare_written, sets_written, group_kinds, group_names, groups_kinds, groups_names, bare_kinds, bare_names, names, kinds, Heading, Means, written, NamePart, Tag, Subscript, part_written, parts_written, suffix_written, shape, shapes, HeadingsAreRead, VariableHeadingsAreRead, OperatorHeadingsAreRead}
use Rattle.mp_vartree.specs.declared.names.TheConstants.{PART_LIMIT}
use Rattle.mp_macro.specs.declared.limits.TheConstants.{PARAMETER_LIMIT}
use Rattle.mp_macro.specs.declared.sign.Sign.TheVariants as sign
use Rattle.mp_macro.specs.declared.stage.Stage.{Stage}
use Rattle.mp_macro.specs.declared.stage.Stage.TheVariants.{Part, Bracket, LeftName, OperatorEquals, Parameters, GroupKind, GroupName, GroupRest, BareName, Of, OfName, Equals, Body}

eq_self : (n : ℕ) → nat_eq n n ≡ true
eq_self n = grind arith

both_true : {a b : Bool} → a ≡ true → b ≡ true → (a && b) ≡ true
both_true {a} {b} e f = ap (λ x. x && b) e ∙ f

pair_self : (p : Delimiters) → are_pair p p ≡ true
pair_self p = both_true (eq_self p.left) (eq_self p.right)

-- a heading so far
abbrev so_far : Stage → List ParamKind → List ℕ → Reading → Reading
so_far stage kinds names r = record r { next = stage; kinds = kinds; names = names }

-- behind its sign
abbrev begun : List ParamKind → List ℕ → Reading → Reading
begun kinds names r = record r { next = Body 0; kinds = kinds; names = names; body = r.body ++ opening r.word r.group }

-- what comes of an item, and then of others
abbrev then_read : Table → List Item → Outcome Reading (Unit {0}) → Outcome Reading (Unit {0})
then_read table xs o = then o (λ one. read_items table xs)

-- GROUPS

left_read : (table : Table) (r : Reading) (pair : Delimiters) (s : ℕ) (xs : List Item) (ks : List ParamKind) (ns : List ℕ) →
    sign_of_symbol table s ≡ sign.Left pair → read_items table (Symbol s ∷ xs) (so_far Parameters ks ns r) ≡ read_items table xs (so_far (GroupKind pair) ks ns r)
unfolding read
left_read table r pair s xs ks ns e = ap (λ g. then_read table xs (parameters_by table (Symbol s) g (so_far Parameters ks ns r))) e

kind_read : (table : Table) (r : Reading) (pair : Delimiters) (p : Parameter) (k : ParamKind) (s : ℕ) (xs : List Item) (ks : List ParamKind) (ns : List ℕ) →
    sign_of_symbol table s ≡ sign.Word (word.Parameter p) → delimited_kind p ≡ Some k →
    read_items table (Symbol s ∷ xs) (so_far (GroupKind pair) ks ns r) ≡ read_items table xs (so_far (GroupName k pair) ks ns r)
unfolding read
kind_read table r pair p k s xs ks ns e d =
    ap (λ g. then_read table xs (group_kind_by table pair (Symbol s) (delimited_kind_in g) (so_far (GroupKind pair) ks ns r))) e
    ∙ ap (λ o. then_read table xs (group_kind_by table pair (Symbol s) o (so_far (GroupKind pair) ks ns r))) d

-- there is room for one more name
named : (s : ℕ) (stage : Stage) (r : Reading) → length r.names < PARAMETER_LIMIT → with_name s stage r ≡ Ok (tt, record r { names = r.names ++ s ∷ []; next = stage })
named s stage r e =
    ap (λ b. then (room_by b r) (λ room. change (λ r. record r { names = r.names ++ s ∷ []; next = stage }))) (lt-ltb (length r.names) PARAMETER_LIMIT e)

group_name_read : (table : Table) (r : Reading) (pair : Delimiters) (k : ParamKind) (s : ℕ) (xs : List Item) (ks : List ParamKind) (ns : List ℕ) →
    length ns < PARAMETER_LIMIT →
    read_items table (Symbol s ∷ xs) (so_far (GroupName k pair) ks ns r) ≡ read_items table xs (so_far (GroupRest k pair) (ks ++ k ∷ []) (ns ++ s ∷ []) r)
unfolding read
group_name_read table r pair k s xs ks ns e =
    ap (λ o. then_read table xs (then o (λ named. with_kind k))) (named s (GroupRest k pair) (so_far (GroupName k pair) ks ns r) e)

comma_read : (table : Table) (r : Reading) (pair : Delimiters) (k : ParamKind) (s : ℕ) (xs : List Item) (ks : List ParamKind) (ns : List ℕ) →
    sign_of_symbol table s ≡ sign.Word word.Comma →
    read_items table (Symbol s ∷ xs) (so_far (GroupRest k pair) ks ns r) ≡ read_items table xs (so_far (GroupName k pair) ks ns r)
unfolding read
comma_read table r pair k s xs ks ns e = ap (λ g. then_read table xs (group_rest_by table k pair (Symbol s) g (so_far (GroupRest k pair) ks ns r))) e

right_read : (table : Table) (r : Reading) (pair : Delimiters) (k : ParamKind) (s : ℕ) (xs : List Item) (ks : List ParamKind) (ns : List ℕ) →
    sign_of_symbol table s ≡ sign.Right pair →
    read_items table (Symbol s ∷ xs) (so_far (GroupRest k pair) ks ns r) ≡ read_items table xs (so_far Parameters ks ns r)
unfolding read
right_read table r pair k s xs ks ns e =
    ap (λ g. then_read table xs (group_rest_by table k pair (Symbol s) g (so_far (GroupRest k pair) ks ns r))) e
    ∙ ap (λ b. then_read table xs (closed_by table pair (Symbol s) b (so_far (GroupRest k pair) ks ns r))) (pair_self pair)

room_on : (ns : List ℕ) (n m limit : ℕ) → length ns + suc m ≤ limit → length (ns ++ n ∷ []) + m ≤ limit
room_on ns n m limit e = grind (arith, length-append)

room_here : (ns : List ℕ) (m limit : ℕ) → length ns + suc m ≤ limit → length ns < limit
room_here ns m limit e = omega arith

room_first : (ns first rest : List ℕ) (limit : ℕ) → length ns + length (first ++ rest) ≤ limit → length ns + length first ≤ limit
room_first ns first rest limit e = grind (arith, length-append)

room_rest : (ns first rest : List ℕ) (limit : ℕ) → length ns + length (first ++ rest) ≤ limit → length (ns ++ first) + length rest ≤ limit
room_rest ns first rest limit e = grind (arith, length-append)

-- kinds and names are read as others are that are the same
alike : (table : Table) (r : Reading) (stage : Stage) (xs : List Item) {ks js : List ParamKind} {ns ms : List ℕ} → ks ≡ js → ns ≡ ms →
    read_items table xs (so_far stage ks ns r) ≡ read_items table xs (so_far stage js ms r)
alike table r stage xs {ks} {js} {ns} {ms} e f = ap (λ a. read_items table xs (so_far stage a ns r)) e ∙ ap (λ b. read_items table xs (so_far stage js b r)) f

begun_alike : (table : Table) (r : Reading) (xs : List Item) {ks js : List ParamKind} {ns ms : List ℕ} → ks ≡ js → ns ≡ ms →
    read_items table xs (begun ks ns r) ≡ read_items table xs (begun js ms r)
begun_alike table r xs {ks} {js} {ns} {ms} e f = ap (λ a. read_items table xs (begun a ns r)) e ∙ ap (λ b. read_items table xs (begun js b r)) f

further_read : (table : Table) (r : Reading) (pair : Delimiters) (k : ParamKind) (fs : List (Further table)) (xs : List Item) (ks : List ParamKind) (ns : List ℕ) →
    length ns + length (map (λ (f : Further table). f.name) fs) ≤ PARAMETER_LIMIT →
    read_items table (further_written fs xs) (so_far (GroupRest k pair) ks ns r)
    ≡ read_items table xs (so_far (GroupRest k pair) (ks ++ map (λ f. k) fs) (ns ++ map (λ f. f.name) fs) r)
further_read table r pair k [] xs ks ns e = alike table r (GroupRest k pair) xs (sym (append-nil ks)) (sym (append-nil ns))
further_read table r pair k (f ∷ fs) xs ks ns e =
    comma_read table r pair k f.comma.symbol (Symbol f.name ∷ further_written fs xs) ks ns f.comma.is
    ∙ group_name_read table r pair k f.name (further_written fs xs) ks ns (room_here ns (length (map (λ (f : Further table). f.name) fs)) PARAMETER_LIMIT e)
    ∙ further_read table r pair k fs xs (ks ++ k ∷ []) (ns ++ f.name ∷ []) (room_on ns f.name (length (map (λ (f : Further table). f.name) fs)) PARAMETER_LIMIT e)
    ∙ alike table r (GroupRest k pair) xs (append_assoc ks (k ∷ []) (map (λ f. k) fs)) (append_assoc ns (f.name ∷ []) (map (λ (f : Further table). f.name) fs))

group_read : (table : Table) (r : Reading) (g : Group table) (xs : List Item) (ks : List ParamKind) (ns : List ℕ) →
    length ns + length (group_names g) ≤ PARAMETER_LIMIT →
    read_items table (group_written g xs) (so_far Parameters ks ns r) ≡ read_items table xs (so_far Parameters (ks ++ group_kinds g) (ns ++ group_names g) r)
group_read table r g xs ks ns e =
    let others = map (λ (f : Further table). f.name) g.further in
    let behind = further_written g.further (Symbol g.right.symbol ∷ xs) in
    left_read table r g.pair g.left.symbol (Symbol g.takes.symbol ∷ Symbol g.name ∷ behind) ks ns g.left.is
    ∙ kind_read table r g.pair g.parameter g.kind g.takes.symbol (Symbol g.name ∷ behind) ks ns g.takes.is g.delimited
    ∙ group_name_read table r g.pair g.kind g.name behind ks ns (room_here ns (length others) PARAMETER_LIMIT e)
    ∙ further_read table r g.pair g.kind g.further (Symbol g.right.symbol ∷ xs) (ks ++ g.kind ∷ []) (ns ++ g.name ∷ []) (room_on ns g.name (length others) PARAMETER_LIMIT e)
    ∙ right_read table r g.pair g.kind g.right.symbol xs ((ks ++ g.kind ∷ []) ++ map (λ f. g.kind) g.further) ((ns ++ g.name ∷ []) ++ others) g.right.is
    ∙ alike table r Parameters xs (append_assoc ks (g.kind ∷ []) (map (λ f. g.kind) g.further)) (append_assoc ns (g.name ∷ []) others)

groups_read : (table : Table) (r : Reading) (gs : List (Group table)) (xs : List Item) (ks : List ParamKind) (ns : List ℕ) →
    length ns + length (groups_names gs) ≤ PARAMETER_LIMIT →
    read_items table (groups_written gs xs) (so_far Parameters ks ns r) ≡ read_items table xs (so_far Parameters (ks ++ groups_kinds gs) (ns ++ groups_names gs) r)
groups_read table r [] xs ks ns e = alike table r Parameters xs (sym (append-nil ks)) (sym (append-nil ns))
groups_read table r (g ∷ gs) xs ks ns e =
    group_read table r g (groups_written gs xs) ks ns (room_first ns (group_names g) (groups_names gs) PARAMETER_LIMIT e)
    ∙ groups_read table r gs xs (ks ++ group_kinds g) (ns ++ group_names g) (room_rest ns (group_names g) (groups_names gs) PARAMETER_LIMIT e)
    ∙ alike table r Parameters xs (append_assoc ks (group_kinds g) (groups_kinds gs)) (append_assoc ns (group_names g) (groups_names gs))

-- THE SIGN IN FRONT OF THE BODY

equals_read : (table : Table) (r : Reading) (s : Sets table) (xs : List Item) (ks : List ParamKind) (ns : List ℕ) →
    read_items table (sets_written s xs) (so_far Equals ks ns r) ≡ read_items table xs (begun ks ns r)
unfolding read
equals_read table r (ByEquals w) xs ks ns = ap (λ g. then_read table xs (equals_by table (Symbol w.symbol) g (so_far Equals ks ns r))) w.is
equals_read table r (ByAssign w) xs ks ns = ap (λ g. then_read table xs (equals_by table (Symbol w.symbol) g (so_far Equals ks ns r))) w.is

no_bare_read : (table : Table) (r : Reading) (s : Sets table) (xs : List Item) (ks : List ParamKind) (ns : List ℕ) →
    read_items table (sets_written s xs) (so_far Parameters ks ns r) ≡ read_items table xs (begun ks ns r)
unfolding read
no_bare_read table r (ByEquals w) xs ks ns = ap (λ g. then_read table xs (parameters_by table (Symbol w.symbol) g (so_far Parameters ks ns r))) w.is
no_bare_read table r (ByAssign w) xs ks ns = ap (λ g. then_read table xs (parameters_by table (Symbol w.symbol) g (so_far Parameters ks ns r))) w.is

no_of_read : (table : Table) (r : Reading) (s : Sets table) (xs : List Item) (ks : List ParamKind) (ns : List ℕ) →
    read_items table (sets_written s xs) (so_far Of ks ns r) ≡ read_items table xs (begun (ks ++ BareExpr ∷ []) ns r)
unfolding read
no_of_read table r (ByEquals w) xs ks ns = ap (λ g. then_read table xs (of_by table (Symbol w.symbol) g (so_far Of ks ns r))) w.is
no_of_read table r (ByAssign w) xs ks ns = ap (λ g. then_read table xs (of_by table (Symbol w.symbol) g (so_far Of ks ns r))) w.is

-- THE PARAMETER WITHOUT DELIMITERS

bare_word_read : (table : Table) (r : Reading) (p : Parameter) (s : ℕ) (xs : List Item) (ks : List ParamKind) (ns : List ℕ) →
    sign_of_symbol table s ≡ sign.Word (word.Parameter p) →
    read_items table (Symbol s ∷ xs) (so_far Parameters ks ns r) ≡ read_items table xs (so_far (BareName (bare_kind p)) ks ns r)
unfolding read
bare_word_read table r p s xs ks ns e = ap (λ g. then_read table xs (parameters_by table (Symbol s) g (so_far Parameters ks ns r))) e

expression_name_read : (table : Table) (r : Reading) (s : ℕ) (xs : List Item) (ks : List ParamKind) (ns : List ℕ) → length ns < PARAMETER_LIMIT →
    read_items table (Symbol s ∷ xs) (so_far (BareName BareExpr) ks ns r) ≡ read_items table xs (so_far Of ks (ns ++ s ∷ []) r)
unfolding read
expression_name_read table r s xs ks ns e = ap (then_read table xs) (named s Of (so_far (BareName BareExpr) ks ns r) e)

-- any but an expression
bare_name_read : (table : Table) (r : Reading) (k : ParamKind) (s : ℕ) (xs : List Item) (ks : List ParamKind) (ns : List ℕ) → length ns < PARAMETER_LIMIT →
    bare_name_by k s (so_far (BareName k) ks ns r) ≡ with_parameter k s Equals (so_far (BareName k) ks ns r) →
    read_items table (Symbol s ∷ xs) (so_far (BareName k) ks ns r) ≡ read_items table xs (so_far Equals (ks ++ k ∷ []) (ns ++ s ∷ []) r)
unfolding read
bare_name_read table r k s xs ks ns e is =
    ap (then_read table xs) is ∙ ap (λ o. then_read table xs (then o (λ named. with_kind k))) (named s Equals (so_far (BareName k) ks ns r) e)

of_read : (table : Table) (r : Reading) (s : ℕ) (xs : List Item) (ks : List ParamKind) (ns : List ℕ) → sign_of_symbol table s ≡ sign.Word word.Of →
    read_items table (Symbol s ∷ xs) (so_far Of ks ns r) ≡ read_items table xs (so_far OfName (ks ++ ExprOf ∷ []) ns r)
unfolding read
of_read table r s xs ks ns e = ap (λ g. then_read table xs (of_by table (Symbol s) g (so_far Of ks ns r))) e

of_name_read : (table : Table) (r : Reading) (s : ℕ) (xs : List Item) (ks : List ParamKind) (ns : List ℕ) → length ns < PARAMETER_LIMIT →
    read_items table (Symbol s ∷ xs) (so_far OfName ks ns r) ≡ read_items table xs (so_far Equals ks (ns ++ s ∷ []) r)
unfolding read
of_name_read table r s xs ks ns e = ap (then_read table xs) (named s Equals (so_far OfName ks ns r) e)

one_read : (table : Table) (r : Reading) (p : Parameter) (s : ℕ) (sets : Sets table) (xs : List Item) (ks : List ParamKind) (ns : List ℕ) → length ns < PARAMETER_LIMIT →
    read_items table (Symbol s ∷ sets_written sets xs) (so_far (BareName (bare_kind p)) ks ns r) ≡ read_items table xs (begun (ks ++ bare_kind p ∷ []) (ns ++ s ∷ []) r)
one_read table r parameter.Expr s sets xs ks ns e =
    expression_name_read table r s (sets_written sets xs) ks ns e ∙ no_of_read table r sets xs ks (ns ++ s ∷ [])
one_read table r parameter.Primary s sets xs ks ns e =
    bare_name_read table r (bare_kind parameter.Primary) s (sets_written sets xs) ks ns e refl ∙ equals_read table r sets xs (ks ++ bare_kind parameter.Primary ∷ []) (ns ++ s ∷ [])
one_read table r parameter.Secondary s sets xs ks ns e =
    bare_name_read table r (bare_kind parameter.Secondary) s (sets_written sets xs) ks ns e refl
    ∙ equals_read table r sets xs (ks ++ bare_kind parameter.Secondary ∷ []) (ns ++ s ∷ [])
one_read table r parameter.Tertiary s sets xs ks ns e =
    bare_name_read table r (bare_kind parameter.Tertiary) s (sets_written sets xs) ks ns e refl ∙ equals_read table r sets xs (ks ++ bare_kind parameter.Tertiary ∷ []) (ns ++ s ∷ [])
one_read table r parameter.Suffix s sets xs ks ns e =
    bare_name_read table r (bare_kind parameter.Suffix) s (sets_written sets xs) ks ns e refl ∙ equals_read table r sets xs (ks ++ bare_kind parameter.Suffix ∷ []) (ns ++ s ∷ [])
one_read table r parameter.Text s sets xs ks ns e =
    bare_name_read table r (bare_kind parameter.Text) s (sets_written sets xs) ks ns e refl ∙ equals_read table r sets xs (ks ++ bare_kind parameter.Text ∷ []) (ns ++ s ∷ [])

bare_read : (table : Table) (r : Reading) (b : Bare table) (sets : Sets table) (xs : List Item) (ks : List ParamKind) (ns : List ℕ) →
    length ns + length (bare_names b) ≤ PARAMETER_LIMIT →
    read_items table (bare_written b (sets_written sets xs)) (so_far Parameters ks ns r) ≡ read_items table xs (begun (ks ++ bare_kinds b) (ns ++ bare_names b) r)
bare_read table r Absent sets xs ks ns e = no_bare_read table r sets xs ks ns ∙ begun_alike table r xs (sym (append-nil ks)) (sym (append-nil ns))
bare_read table r (One p takes name) sets xs ks ns e =
    bare_word_read table r p takes.symbol (Symbol name ∷ sets_written sets xs) ks ns takes.is ∙ one_read table r p name sets xs ks ns (room_here ns 0 PARAMETER_LIMIT e)
bare_read table r (Two takes name of other) sets xs ks ns e =
    bare_word_read table r parameter.Expr takes.symbol (Symbol name ∷ Symbol of.symbol ∷ Symbol other ∷ sets_written sets xs) ks ns takes.is
    ∙ expression_name_read table r name (Symbol of.symbol ∷ Symbol other ∷ sets_written sets xs) ks ns (room_here ns 1 PARAMETER_LIMIT e)
    ∙ of_read table r of.symbol (Symbol other ∷ sets_written sets xs) ks (ns ++ name ∷ []) of.is
    ∙ of_name_read table r other (sets_written sets xs) (ks ++ ExprOf ∷ []) (ns ++ name ∷ []) (room_here (ns ++ name ∷ []) 0 PARAMETER_LIMIT (room_on ns name 1 PARAMETER_LIMIT e))
    ∙ equals_read table r sets xs (ks ++ ExprOf ∷ []) ((ns ++ name ∷ []) ++ other ∷ [])
    ∙ begun_alike table r xs refl (append_assoc ns (name ∷ []) (other ∷ []))

from_none : (n limit : ℕ) → n ≤ limit → 0 + n ≤ limit
from_none n limit e = omega arith

-- NAMES OF VARIABLES

-- a name so far
abbrev name_so_far : Stage → Bool → List Shape → Reading → Reading
name_so_far stage suffixed parts r = record r { next = stage; suffixed = suffixed; parts = parts }

with_room : (p : Shape) (r : Reading) → length r.parts < PART_LIMIT → with_part p r ≡ Ok (tt, record r { parts = r.parts ++ p ∷ []; next = Part })
with_room p r e =
    ap (λ b. then (room_for_part_by b r) (λ room. change (λ r. record r { parts = r.parts ++ p ∷ []; next = Part }))) (lt-ltb (length r.parts) PART_LIMIT e)

tag_read : (table : Table) (r : Reading) (s : ℕ) (xs : List Item) (ps : List Shape) → sign_of_symbol table s ≡ sign.Part s → length ps < PART_LIMIT →
    read_items table (Symbol s ∷ xs) (name_so_far Part false ps r) ≡ read_items table xs (name_so_far Part false (ps ++ Sym s ∷ []) r)
unfolding read
tag_read table r s xs ps is e =
    ap (λ g. then_read table xs (part_by table (Symbol s) g (name_so_far Part false ps r))) is ∙ ap (then_read table xs) (with_room (Sym s) (name_so_far Part false ps r) e)

bracket_read : (table : Table) (r : Reading) (s t : ℕ) (xs : List Item) (ps : List Shape) →
    sign_of_symbol table s ≡ sign.Word word.LeftBracket → sign_of_symbol table t ≡ sign.Word word.RightBracket → length ps < PART_LIMIT →
    read_items table (Symbol s ∷ Symbol t ∷ xs) (name_so_far Part false ps r) ≡ read_items table xs (name_so_far Part false (ps ++ Any ∷ []) r)
unfolding read
bracket_read table r s t xs ps left right e =
    ap (λ g. then_read table (Symbol t ∷ xs) (part_by table (Symbol s) g (name_so_far Part false ps r))) left
    ∙ ap (λ g. then_read table xs (bracket_by g (name_so_far Bracket false ps r))) right
    ∙ ap (then_read table xs) (with_room Any (name_so_far Bracket false ps r) e)

part_read : (table : Table) (r : Reading) (p : NamePart table) (xs : List Item) (ps : List Shape) → length ps < PART_LIMIT →
    read_items table (part_written p xs) (name_so_far Part false ps r) ≡ read_items table xs (name_so_far Part false (ps ++ shape p ∷ []) r)
part_read table r (Tag s is) xs ps e = tag_read table r s xs ps is e
part_read table r (Subscript left right) xs ps e = bracket_read table r left.symbol right.symbol xs ps left.is right.is e

room_for_shapes : (ps : List Shape) (p : Shape) (m limit : ℕ) → length ps + suc m ≤ limit → length (ps ++ p ∷ []) + m ≤ limit
room_for_shapes ps p m limit e = grind (arith, length-append)

room_for_shape : (ps : List Shape) (m limit : ℕ) → length ps + suc m ≤ limit → length ps < limit
room_for_shape ps m limit e = omega arith

parts_read : (table : Table) (r : Reading) (qs : List (NamePart table)) (xs : List Item) (ps : List Shape) → length ps + length (shapes qs) ≤ PART_LIMIT →
    read_items table (parts_written qs xs) (name_so_far Part false ps r) ≡ read_items table xs (name_so_far Part false (ps ++ shapes qs) r)
parts_read table r [] xs ps e = ap (λ a. read_items table xs (name_so_far Part false a r)) (sym (append-nil ps))
parts_read table r (q ∷ qs) xs ps e =
    part_read table r q (parts_written qs xs) ps (room_for_shape ps (length (shapes qs)) PART_LIMIT e)
    ∙ parts_read table r qs xs (ps ++ shape q ∷ []) (room_for_shapes ps (shape q) (length (shapes qs)) PART_LIMIT e)
    ∙ ap (λ a. read_items table xs (name_so_far Part false a r)) (append_assoc ps (shape q ∷ []) (shapes qs))

suffix_read : (table : Table) (r : Reading) (s : ℕ) (xs : List Item) (ps : List Shape) → sign_of_symbol table s ≡ sign.Word (word.CalledName Behind) →
    read_items table (Symbol s ∷ xs) (name_so_far Part false ps r) ≡ read_items table xs (name_so_far Parameters true ps r)
unfolding read
suffix_read table r s xs ps e = ap (λ g. then_read table xs (part_by table (Symbol s) g (name_so_far Part false ps r))) e

-- a heading without @# begins where a part of the name could stand as well
sets_at_part : (table : Table) (r : Reading) (s : Sets table) (xs : List Item) →
    read_items table (sets_written s xs) (record r { next = Part }) ≡ read_items table (sets_written s xs) (record r { next = Parameters })
unfolding read
sets_at_part table r (ByEquals w) xs =
    ap (λ g. then_read table xs (part_by table (Symbol w.symbol) g (record r { next = Part }))) w.is
    ∙ sym (ap (λ g. then_read table xs (parameters_by table (Symbol w.symbol) g (record r { next = Parameters }))) w.is)
sets_at_part table r (ByAssign w) xs =
    ap (λ g. then_read table xs (part_by table (Symbol w.symbol) g (record r { next = Part }))) w.is
    ∙ sym (ap (λ g. then_read table xs (parameters_by table (Symbol w.symbol) g (record r { next = Parameters }))) w.is)

word_at_part : (table : Table) (r : Reading) (p : Parameter) (s : ℕ) (xs : List Item) → sign_of_symbol table s ≡ sign.Word (word.Parameter p) →
    read_items table (Symbol s ∷ xs) (record r { next = Part }) ≡ read_items table (Symbol s ∷ xs) (record r { next = Parameters })
unfolding read
word_at_part table r p s xs e =
    ap (λ g. then_read table xs (part_by table (Symbol s) g (record r { next = Part }))) e
    ∙ sym (ap (λ g. then_read table xs (parameters_by table (Symbol s) g (record r { next = Parameters }))) e)

left_at_part : (table : Table) (r : Reading) (pair : Delimiters) (s : ℕ) (xs : List Item) → sign_of_symbol table s ≡ sign.Left pair →
    read_items table (Symbol s ∷ xs) (record r { next = Part }) ≡ read_items table (Symbol s ∷ xs) (record r { next = Parameters })
unfolding read
left_at_part table r pair s xs e =
    ap (λ g. then_read table xs (part_by table (Symbol s) g (record r { next = Part }))) e
    ∙ sym (ap (λ g. then_read table xs (parameters_by table (Symbol s) g (record r { next = Parameters }))) e)

bare_at_part : (table : Table) (r : Reading) (b : Bare table) (s : Sets table) (xs : List Item) →
    read_items table (bare_written b (sets_written s xs)) (record r { next = Part }) ≡ read_items table (bare_written b (sets_written s xs)) (record r { next = Parameters })
bare_at_part table r Absent s xs = sets_at_part table r s xs
bare_at_part table r (One p takes name) s xs = word_at_part table r p takes.symbol (Symbol name ∷ sets_written s xs) takes.is
bare_at_part table r (Two takes name of other) s xs =
    word_at_part table r parameter.Expr takes.symbol (Symbol name ∷ Symbol of.symbol ∷ Symbol other ∷ sets_written s xs) takes.is

heading_at_part : (table : Table) (r : Reading) (gs : List (Group table)) (b : Bare table) (s : Sets table) (xs : List Item) →
    read_items table (groups_written gs (bare_written b (sets_written s xs))) (record r { next = Part })
    ≡ read_items table (groups_written gs (bare_written b (sets_written s xs))) (record r { next = Parameters })
heading_at_part table r [] b s xs = bare_at_part table r b s xs
heading_at_part table r (g ∷ gs) b s xs =
    left_at_part table r g.pair g.left.symbol
    (Symbol g.takes.symbol ∷ Symbol g.name ∷ further_written g.further (Symbol g.right.symbol ∷ groups_written gs (bare_written b (sets_written s xs))))
    g.left.is

suffix_or_heading : (table : Table) (r : Reading) (o : Option (Means table (word.CalledName Behind))) (h : Heading table) (xs : List Item) (ps : List Shape) →
    read_items table (suffix_written o (written h xs)) (name_so_far Part false ps r) ≡ read_items table (written h xs) (name_so_far Parameters (is_some o) ps r)
suffix_or_heading table r None h xs ps = heading_at_part table (name_so_far Part false ps r) h.groups h.bare h.sets xs
suffix_or_heading table r (Some w) h xs ps = suffix_read table r w.symbol (written h xs) ps w.is

-- the parameters and the sign of a heading
heading_read : (table : Table) (r : Reading) (h : Heading table) (xs : List Item) → length (names h) ≤ PARAMETER_LIMIT →
    read_items table (written h xs) (so_far Parameters [] [] r) ≡ read_items table xs (begun (kinds h) (names h) r)
heading_read table r h xs e =
    let room = from_none (length (names h)) PARAMETER_LIMIT e in
    groups_read table r h.groups (bare_written h.bare (sets_written h.sets xs)) [] [] (room_first [] (groups_names h.groups) (bare_names h.bare) PARAMETER_LIMIT room)
    ∙ bare_read table r h.bare h.sets xs (groups_kinds h.groups) (groups_names h.groups) (room_rest [] (groups_names h.groups) (bare_names h.bare) PARAMETER_LIMIT room)

pub headings_are_read : HeadingsAreRead
unfolding read
headings_are_read table group name h body e = heading_read table (record (start Def group) { symbol = name }) h body e

pub variable_headings_are_read : VariableHeadingsAreRead
unfolding read
variable_headings_are_read table group tag n h body e f =
    let r = record (start Vardef group) { symbol = tag } in
    parts_read table r n.parts (suffix_written n.suffix (written h body)) [] (from_none (length (shapes n.parts)) PART_LIMIT e)
    ∙ suffix_or_heading table r n.suffix h body (shapes n.parts)
    ∙ heading_read table (name_so_far Parameters (is_some n.suffix) (shapes n.parts) r) h body f

-- OPERATORS

operator_read : (table : Table) (r : Reading) (left operator right s : ℕ) (xs : List Item) → sign_of_symbol table s ≡ sign.Word word.Equals →
    read_items table (Symbol left ∷ Symbol operator ∷ Symbol right ∷ Symbol s ∷ xs) (record r { next = LeftName; names = [] })
    ≡ read_items table xs (record r { symbol = operator; names = left ∷ right ∷ []; next = Body 0; body = r.body ++ opening r.word r.group })
unfolding read
operator_read table r left operator right s xs e =
    ap (λ g. then_read table xs (operator_equals_by table (Symbol s) g (record r { symbol = operator; names = left ∷ right ∷ []; next = OperatorEquals }))) e

pub operator_headings_are_read : OperatorHeadingsAreRead
operator_headings_are_read table group Primarydef left operator right equals body e = operator_read table (start Primarydef group) left operator right equals.symbol body equals.is
operator_headings_are_read table group Secondarydef left operator right equals body e =
    operator_read table (start Secondarydef group) left operator right equals.symbol body equals.is
operator_headings_are_read table group Tertiarydef left operator right equals body e =
    operator_read table (start Tertiarydef group) left operator right equals.symbol body equals.is
operator_headings_are_read table group Def left operator right equals body e = elim e [ ]
operator_headings_are_read table group Vardef left operator right equals body e = elim e [ ]
