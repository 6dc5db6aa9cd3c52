-- Bodies as they are written, apart from how they are read.
use Rattle.std.specs.Prelude.{◌≡◌, ℕ, List, [], ◌∷◌, ◌++◌, Some, None}
use Rattle.mp_report.specs.declared.place.Place.{Place}
use Rattle.mp_values.specs.declared.item.Item.{Item}
use Rattle.mp_values.specs.declared.item.Item.TheVariants as item
use Rattle.mp_macro.specs.Signs.{Table, sign_of_symbol}
use Rattle.mp_macro.specs.Headings.{Reading}
use Rattle.mp_macro.specs.Bodies.{Begins, Ends, Neither, count_of, parameter_by, closing}
use Rattle.mp_macro.specs.Definitions.{read_items}
use Rattle.mp_macro.specs.declared.stage.Stage.TheVariants.{Body, Nothing}

-- a symbol that is no parameter of the definition
abbrev pub IsNoParameter : Table → Reading → ℕ → Type 0
IsNoParameter table r symbol = parameter_by r symbol (sign_of_symbol table symbol) ≡ None

-- a number, a string or a value
abbrev pub IsOperand : Item → Type 0
IsOperand (item.Number n) = Unit {0}
IsOperand (item.Text bytes) = Unit {0}
IsOperand (item.Capsule v) = Unit {0}
IsOperand x = ⊥

-- what stands in a definition with that heading, in front of its enddef
pub data Text (table : Table) (r : Reading) : Type 0 where
  Empty : Text table r
  Line : Place → Text table r → Text table r
  Operand : (x : Item) → IsOperand x → Text table r → Text table r
  Parameter : (symbol n : ℕ) → parameter_by r symbol (sign_of_symbol table symbol) ≡ Some n → Text table r → Text table r
  Other : (symbol : ℕ) → IsNoParameter table r symbol → count_of (sign_of_symbol table symbol) ≡ Neither → Text table r → Text table r
  Inner : (first last : ℕ) → IsNoParameter table r first → count_of (sign_of_symbol table first) ≡ Begins → IsNoParameter table r last
      → count_of (sign_of_symbol table last) ≡ Ends → Text table r → Text table r → Text table r

module _ {table : Table} {r : Reading} where
  -- what is written, in front of other items
  abbrev pub text_written : Text table r → List Item → List Item
  text_written Empty rest = rest
  text_written (Line place more) rest = item.LineEnd place ∷ text_written more rest
  text_written (Operand x is more) rest = x ∷ text_written more rest
  text_written (Parameter symbol n is more) rest = item.Symbol symbol ∷ text_written more rest
  text_written (Other symbol free neither more) rest = item.Symbol symbol ∷ text_written more rest
  text_written (Inner first last free begins free_too ends inner more) rest =
      item.Symbol first ∷ text_written inner (item.Symbol last ∷ text_written more rest)

  -- what it says: a parameter in place of each symbol that is one, and no end of a line
  abbrev pub text_said : Text table r → List Item
  text_said Empty = []
  text_said (Line place more) = text_said more
  text_said (Operand x is more) = x ∷ text_said more
  text_said (Parameter symbol n is more) = item.Param n ∷ text_said more
  text_said (Other symbol free neither more) = item.Symbol symbol ∷ text_said more
  text_said (Inner first last free begins free_too ends inner more) = item.Symbol first ∷ (text_said inner ++ item.Symbol last ∷ text_said more)

-- a text and the enddef behind it are read as the body that the text says, and the definition is whole
abbrev pub BodiesAreRead : Type 0
BodiesAreRead =
    (table : Table) (r : Reading) (t : Text table r) (last : ℕ) (rest : List Item) → IsNoParameter table r last
    → count_of (sign_of_symbol table last) ≡ Ends
    → read_items table (text_written t (item.Symbol last ∷ rest)) (record r { next = Body 0 })
    ≡ read_items table rest (record r { next = Nothing; body = (r.body ++ text_said t) ++ closing r.word r.group })
