-- The parts of names: how they are written, and what a subscript is.
-- After Knuth, METAFONT: The Program, parts 15 and 40, and The METAFONTbook, chapter 7; the brackets and the refusals are
-- this project's own.
use Rattle.std.specs.Prelude.{ℕ, ℤ, pos, negsuc, Bool, true, false, List, [], ◌∷◌, ◌++◌, Option, Some, None, Ok, Err, length, nat_le, codes, if◌then◌else◌}
use Rattle.mp_pool.specs.declared.Term.{Term}
use Rattle.mp_scaled.specs.Print.{printed}
use Rattle.mp_forms.specs.Forms.{LinearForm}
use Rattle.mp_report.specs.declared.error.Cap.TheVariants as cap
use Rattle.mp_report.specs.declared.error.SourceError.TheVariants as error
use Rattle.mp_values.specs.Outcome.{Rule, ◌>>=◌, give, halt}
use Rattle.mp_values.specs.declared.value.Value.{Value}
use Rattle.mp_values.specs.declared.value.Value.TheVariants.{Numeric, Text}
use Rattle.mp_vartree.specs.declared.names.Part.{Part}
use Rattle.mp_vartree.specs.declared.names.Part.TheVariants as part
use Rattle.mp_acts.specs.State.{State, symbol_name}
use Rattle.mp_acts.specs.Operators.{up_to_date}
use Rattle.mp_ops.specs.declared.limits.TheConstants.{TEXT_LIMIT}

-- a symbol behind a symbol has a point before it
abbrev pub point_behind : Option Part → List ℕ
point_behind (Some (part.Sym symbol)) = codes "."
point_behind before = []

-- a subscript stands in brackets where it is negative, and where it follows a subscript
abbrev pub is_bracketed : Option Part → ℤ → Bool
is_bracketed (Some (part.Sub other)) value = true
is_bracketed before (negsuc n) = true
is_bracketed before (pos n) = false

abbrev pub subscript_text : Bool → List ℕ → List ℕ
subscript_text true digits = codes "[" ++ digits ++ codes "]"
subscript_text false digits = digits

-- a part, behind that one if there is one
abbrev pub part_text : State → Option Part → Part → List ℕ
part_text s before (part.Sym symbol) = point_behind before ++ symbol_name s symbol
part_text s before (part.Sub value) = subscript_text (is_bracketed before value) (printed value)

-- parts, behind that one if there is one
unfoldable pub parts_text : State → Option Part → List Part → List ℕ
parts_text s before [] = []
parts_text s before (p ∷ ps) = part_text s before p ++ parts_text s (Some p) ps

-- a suffix as it is written
abbrev pub suffix_text : State → List Part → List ℕ
suffix_text s parts = parts_text s None parts

-- the name of a variable: its tag, and the parts behind it
abbrev pub variable_name : State → ℕ → List Part → List ℕ
variable_name s symbol parts = suffix_text s (part.Sym symbol ∷ parts)

-- a string of these bytes, whose number has a limit
unfoldable pub string_token : List ℕ → Rule State Value
string_token bytes s =
    if nat_le (length bytes) TEXT_LIMIT
    then Ok (Text bytes, s)
    else Err (error.Limit cap.Text TEXT_LIMIT, s)

-- the text of a suffix as a string
unfoldable pub suffix_string : List Part → Rule State Value
suffix_string parts s = string_token (suffix_text s parts) s

-- a subscript is a known number
abbrev pub number_in : Value → Rule State LinearForm
number_in (Numeric p) = give p
number_in v = halt error.BadSubscript

abbrev pub subscript_by : ℤ → List Term → Rule State ℤ
subscript_by constant [] = give constant
subscript_by constant (t ∷ ts) = halt error.BadSubscript

unfoldable pub subscript : Value → Rule State ℤ
subscript v = do
  p ← number_in v
  q ← up_to_date p
  subscript_by q.constant q.terms
