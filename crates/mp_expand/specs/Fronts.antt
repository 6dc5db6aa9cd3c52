-- Fronts: the items of a text that expansion leaves as they are.
use Rattle.std.specs.Prelude.{ℕ, List, [], Option, Some, None, Bool, true, false, unwrap_or, codes, if◌then◌else◌}
use Rattle.mp_symbols.specs.Names.{Names, name_in, meaning_in}
use Rattle.mp_values.specs.declared.meaning.Meaning.{Meaning}
use Rattle.mp_values.specs.declared.meaning.Meaning.TheVariants as meaning
use Rattle.mp_values.specs.declared.macros.Level.{Level}
use Rattle.mp_values.specs.declared.macros.Level.TheVariants as level
use Rattle.mp_values.specs.declared.macros.Macro.{Macro}
use Rattle.mp_values.specs.Words.{unary_of}
use Rattle.mp_values.specs.declared.word.Comparison.TheVariants as comparison
use Rattle.mp_values.specs.declared.word.Expression.{Expression}
use Rattle.mp_values.specs.declared.word.Expression.TheVariants as expression
use Rattle.mp_values.specs.declared.word.Secondary.{Secondary}
use Rattle.mp_values.specs.declared.word.Tertiary.{Tertiary}
use Rattle.mp_values.specs.declared.word.Word.{Word}
use Rattle.mp_values.specs.declared.word.Word.TheVariants as word
use Rattle.mp_expand.specs.declared.front.Equals.{Equals}
use Rattle.mp_expand.specs.declared.front.Equals.TheVariants as equals
use Rattle.mp_expand.specs.declared.front.Front.{Front}
use Rattle.mp_expand.specs.declared.front.Front.TheVariants as front

-- the names with their meanings, by which a text is expanded
abbrev pub Table : Type 0
Table = Names Meaning

abbrev pub name_of : Table → ℕ → List ℕ
name_of table symbol = unwrap_or (name_in table symbol) []

-- a symbol past the table is a new tag
abbrev pub meaning_of : Table → ℕ → Meaning
meaning_of table symbol = unwrap_or (meaning_in table symbol) meaning.NewTag

-- WHAT A FRONT BEGINS, AND WHAT IT JOINS

-- the operator that a front is between primaries
abbrev pub secondary_in : Front → Option Secondary
secondary_in (front.Word symbol (word.Secondary op)) = Some op
secondary_in x = None

-- the operator that it is between secondaries
abbrev pub tertiary_in : Front → Option Tertiary
tertiary_in (front.Word symbol (word.Tertiary op)) = Some op
tertiary_in x = None

-- what `=` is between tertiaries
abbrev pub equals_in : Equals → Option Expression
equals_in equals.Compares = Some (expression.Compare comparison.Equal)
equals_in equals.Ends = None

-- the operator that it is there
abbrev pub joining_in : Equals → Front → Option Expression
joining_in e (front.Word symbol (word.Expression op)) = Some op
joining_in e (front.Word symbol word.Equals) = equals_in e
joining_in e x = None

-- a macro of the one level joins operands at the other
abbrev pub joins_at : Level → Level → Bool
joins_at level.Primary level.Primary = true
joins_at level.Secondary level.Secondary = true
joins_at level.Tertiary level.Tertiary = true
joins_at l other = false

abbrev pub macro_at : Level → Meaning → Option Macro
macro_at l (meaning.Macro m) = if joins_at l m.level then Some m else None
macro_at l other = None

-- the macro of a user that it is there, by what its symbol means
abbrev pub operator_in : Table → Level → Front → Option Macro
operator_in table l (front.Operator symbol) = macro_at l (meaning_of table symbol)
operator_in table l x = None

abbrev pub is_there : {A : Type 0} → Option A → Bool
is_there (Some x) = true
is_there None = false

abbrev pub word_begins_primary : Word → Bool
word_begins_primary word.Begingroup = true
word_begins_primary word.Str = true
word_begins_primary (word.Nullary w) = true
word_begins_primary w = is_there (unary_of w)

-- the fronts that a primary can begin with
abbrev pub begins_primary : Front → Bool
begins_primary (front.Number n) = true
begins_primary front.Text = true
begins_primary front.Capsule = true
begins_primary (front.Word symbol w) = word_begins_primary w
begins_primary (front.Tag symbol) = true
begins_primary (front.Internal symbol k) = true
begins_primary (front.Operator symbol) = false
begins_primary (front.Left symbol pair) = true
begins_primary (front.Right symbol pair) = false
begins_primary front.EndOfText = false

-- those of them that a number before them multiplies: no number and no sign
abbrev pub begins_factor : Front → Bool
begins_factor (front.Number n) = false
begins_factor (front.Word symbol (word.Tertiary op)) = false
begins_factor x = begins_primary x

-- WHAT IS SAID OF A FRONT

-- what stood where something else was wanted
abbrev pub stood : Table → Front → List ℕ
stood table (front.Number n) = codes "number"
stood table front.Text = codes "string"
stood table front.Capsule = codes "value"
stood table (front.Word symbol w) = name_of table symbol
stood table (front.Tag symbol) = name_of table symbol
stood table (front.Internal symbol k) = name_of table symbol
stood table (front.Operator symbol) = name_of table symbol
stood table (front.Left symbol pair) = name_of table symbol
stood table (front.Right symbol pair) = name_of table symbol
stood table front.EndOfText = codes "end of text"
