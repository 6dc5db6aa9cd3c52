-- Headings as they are written, apart from how they are read.
-- After Hobby, A User's Manual for MetaPost, section 10.
use Rattle.std.specs.Prelude.{◌≡◌, ◌≤◌, ℕ, List, [], ◌∷◌, ◌++◌, map, length, Option, Some, None, is_some}
use Rattle.mp_values.specs.declared.item.Item.{Item}
use Rattle.mp_values.specs.declared.item.Item.TheVariants.{Symbol}
use Rattle.mp_values.specs.declared.macros.ParamKind.{ParamKind}
use Rattle.mp_values.specs.declared.macros.ParamKind.TheVariants.{ExprOf}
use Rattle.mp_values.specs.declared.meaning.Delimiters.{Delimiters}
use Rattle.mp_values.specs.declared.word.CalledName.TheVariants.{Behind}
use Rattle.mp_values.specs.declared.word.Definition.{Definition}
use Rattle.mp_values.specs.declared.word.Definition.TheVariants.{Def, Vardef}
use Rattle.mp_values.specs.declared.word.Parameter.{Parameter}
use Rattle.mp_values.specs.declared.word.Parameter.TheVariants.{Expr}
use Rattle.mp_values.specs.declared.word.Word.{Word}
use Rattle.mp_values.specs.declared.word.Word.TheVariants.{Comma, Equals, Assign, Of, LeftBracket, RightBracket}
use Rattle.mp_values.specs.declared.word.Word.TheVariants as word
use Rattle.mp_vartree.specs.declared.names.Shape.{Shape}
use Rattle.mp_vartree.specs.declared.names.Shape.TheVariants.{Sym, Any}
use Rattle.mp_macro.specs.Signs.{Table, sign_of_symbol}
use Rattle.mp_macro.specs.Headings.{delimited_kind, bare_kind}
use Rattle.mp_macro.specs.Definitions.{start, read_items}
use Rattle.mp_vartree.specs.declared.names.TheConstants.{PART_LIMIT}
use Rattle.mp_macro.specs.declared.limits.TheConstants.{PARAMETER_LIMIT}
use Rattle.mp_macro.specs.declared.reader.GroupSymbols.{GroupSymbols}
use Rattle.mp_macro.specs.declared.sign.Sign.{Sign}
use Rattle.mp_macro.specs.declared.sign.Sign.TheVariants as sign
use Rattle.mp_macro.specs.declared.stage.Stage.TheVariants.{Body}

-- a symbol that is this where a definition is read
pub record Such (table : Table) (what : Sign) : Type 0 where
  pub symbol : ℕ
  pub is : sign_of_symbol table symbol ≡ what

-- a symbol that means a word
abbrev pub Means : Table → Word → Type 0
Means table w = Such table (sign.Word w)

-- , NAME
pub record Further (table : Table) : Type 0 where
  pub comma : Means table Comma
  pub name : ℕ

-- ( KIND NAME , NAME .. )
pub record Group (table : Table) : Type 0 where
  pub pair : Delimiters
  pub left : Such table (sign.Left pair)
  pub parameter : Parameter
  pub kind : ParamKind
  pub delimited : delimited_kind parameter ≡ Some kind
  pub takes : Means table (word.Parameter parameter)
  pub name : ℕ
  pub further : List (Further table)
  pub right : Such table (sign.Right pair)

-- nothing, or KIND NAME, or expr NAME of NAME
pub data Bare (table : Table) : Type 0 where
  Absent : Bare table
  One : (parameter : Parameter) → Means table (word.Parameter parameter) → ℕ → Bare table
  Two : Means table (word.Parameter Expr) → ℕ → Means table Of → ℕ → Bare table

-- = or :=
pub data Sets (table : Table) : Type 0 where
  ByEquals : Means table Equals → Sets table
  ByAssign : Means table Assign → Sets table

-- groups of parameters, a parameter without delimiters, and the sign in front of the body
pub record Heading (table : Table) : Type 0 where
  pub groups : List (Group table)
  pub bare : Bare table
  pub sets : Sets table

module _ {table : Table} where
  -- WHAT IS WRITTEN, in front of other items

  abbrev pub further_written : List (Further table) → List Item → List Item
  further_written [] rest = rest
  further_written (f ∷ fs) rest = Symbol f.comma.symbol ∷ Symbol f.name ∷ further_written fs rest

  abbrev pub group_written : Group table → List Item → List Item
  group_written g rest =
      Symbol g.left.symbol ∷ Symbol g.takes.symbol ∷ Symbol g.name ∷ further_written g.further (Symbol g.right.symbol ∷ rest)

  abbrev pub groups_written : List (Group table) → List Item → List Item
  groups_written [] rest = rest
  groups_written (g ∷ gs) rest = group_written g (groups_written gs rest)

  abbrev pub bare_written : Bare table → List Item → List Item
  bare_written Absent rest = rest
  bare_written (One parameter takes name) rest = Symbol takes.symbol ∷ Symbol name ∷ rest
  bare_written (Two takes name of other) rest = Symbol takes.symbol ∷ Symbol name ∷ Symbol of.symbol ∷ Symbol other ∷ rest

  abbrev pub sets_written : Sets table → List Item → List Item
  sets_written (ByEquals equals) rest = Symbol equals.symbol ∷ rest
  sets_written (ByAssign assign) rest = Symbol assign.symbol ∷ rest

  abbrev pub written : Heading table → List Item → List Item
  written h rest = groups_written h.groups (bare_written h.bare (sets_written h.sets rest))

  -- WHAT IT SAYS: what the parameters take, and their symbols

  abbrev pub group_kinds : Group table → List ParamKind
  group_kinds g = g.kind ∷ map (λ f. g.kind) g.further

  abbrev pub group_names : Group table → List ℕ
  group_names g = g.name ∷ map (λ f. f.name) g.further

  abbrev pub groups_kinds : List (Group table) → List ParamKind
  groups_kinds [] = []
  groups_kinds (g ∷ gs) = group_kinds g ++ groups_kinds gs

  abbrev pub groups_names : List (Group table) → List ℕ
  groups_names [] = []
  groups_names (g ∷ gs) = group_names g ++ groups_names gs

  abbrev pub bare_kinds : Bare table → List ParamKind
  bare_kinds Absent = []
  bare_kinds (One parameter takes name) = bare_kind parameter ∷ []
  bare_kinds (Two takes name of other) = ExprOf ∷ []

  abbrev pub bare_names : Bare table → List ℕ
  bare_names Absent = []
  bare_names (One parameter takes name) = name ∷ []
  bare_names (Two takes name of other) = name ∷ other ∷ []

  abbrev pub kinds : Heading table → List ParamKind
  kinds h = groups_kinds h.groups ++ bare_kinds h.bare

  abbrev pub names : Heading table → List ℕ
  names h = groups_names h.groups ++ bare_names h.bare

-- a heading of `def` that is written is read as what it says, whatever stands behind it
abbrev pub HeadingsAreRead : Type 0
HeadingsAreRead =
    (table : Table) (group : GroupSymbols) (name : ℕ) (h : Heading table) (body : List Item) → length (names h) ≤ PARAMETER_LIMIT
    → read_items table (Symbol name ∷ written h body) (start Def group)
    ≡ read_items table body (record (start Def group) { symbol = name; kinds = kinds h; names = names h; next = Body 0 })

-- NAMES OF VARIABLES

-- a symbol that is a tag or an internal, or []
pub data NamePart (table : Table) : Type 0 where
  Tag : (symbol : ℕ) → sign_of_symbol table symbol ≡ sign.Part symbol → NamePart table
  Subscript : Means table LeftBracket → Means table RightBracket → NamePart table

-- the name of a variable behind its tag, with @# at its end or without
pub record VariableName (table : Table) : Type 0 where
  pub parts : List (NamePart table)
  pub suffix : Option (Means table (word.CalledName Behind))

module _ {table : Table} where
  abbrev pub part_written : NamePart table → List Item → List Item
  part_written (Tag symbol is) rest = Symbol symbol ∷ rest
  part_written (Subscript left right) rest = Symbol left.symbol ∷ Symbol right.symbol ∷ rest

  abbrev pub parts_written : List (NamePart table) → List Item → List Item
  parts_written [] rest = rest
  parts_written (p ∷ ps) rest = part_written p (parts_written ps rest)

  abbrev pub suffix_written : Option (Means table (word.CalledName Behind)) → List Item → List Item
  suffix_written None rest = rest
  suffix_written (Some suffix) rest = Symbol suffix.symbol ∷ rest

  abbrev pub variable_written : VariableName table → List Item → List Item
  variable_written n rest = parts_written n.parts (suffix_written n.suffix rest)

  abbrev pub shape : NamePart table → Shape
  shape (Tag symbol is) = Sym symbol
  shape (Subscript left right) = Any

  abbrev pub shapes : List (NamePart table) → List Shape
  shapes ps = map shape ps

-- the same of `vardef`, whose body is a group
abbrev pub VariableHeadingsAreRead : Type 0
VariableHeadingsAreRead =
    (table : Table) (group : GroupSymbols) (tag : ℕ) (n : VariableName table) (h : Heading table) (body : List Item)
    → length (shapes n.parts) ≤ PART_LIMIT → length (names h) ≤ PARAMETER_LIMIT
    → read_items table (Symbol tag ∷ variable_written n (written h body)) (start Vardef group)
    ≡ read_items table body (record (start Vardef group) {
      symbol = tag;
      parts = shapes n.parts;
      suffixed = is_some n.suffix;
      kinds = kinds h;
      names = names h;
      body = Symbol group.begin ∷ [];
      next = Body 0;
    })

abbrev pub DefinesOperator : Definition → Type 0
DefinesOperator Def = ⊥
DefinesOperator Vardef = ⊥
DefinesOperator w = Unit {0}

-- the heading of an operator: NAME OPERATOR NAME =
abbrev pub OperatorHeadingsAreRead : Type 0
OperatorHeadingsAreRead =
    (table : Table) (group : GroupSymbols) (w : Definition) (left operator right : ℕ) (equals : Means table Equals) (body : List Item)
    → DefinesOperator w
    → read_items table (Symbol left ∷ Symbol operator ∷ Symbol right ∷ Symbol equals.symbol ∷ body) (start w group)
    ≡ read_items table body (record (start w group) { symbol = operator; names = left ∷ right ∷ []; next = Body 0 })
