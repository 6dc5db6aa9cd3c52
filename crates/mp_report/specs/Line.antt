-- The line that an error prints.
use Rattle.std.specs.Prelude.{ℕ, ℤ, List, [], ◌∷◌, ◌++◌, decimal, codes}
use Rattle.mp_scaled.specs.Print.{printed}
use Rattle.mp_report.specs.declared.error.Cap.{Cap}
use Rattle.mp_report.specs.declared.error.Cap.TheVariants.{Nesting, Sources, SourceBytes, Text, Knots, Items, PictureKnots, Suffix, Params, Unknowns, Terms, Figures, FigureBytes, Lines}
use Rattle.mp_report.specs.declared.error.SourceError.{SourceError}
use Rattle.mp_report.specs.declared.error.SourceError.TheVariants.{BadCharacter, UnfinishedString, EnormousNumber, NoSuchFile, FileTooLong, FileEndedInText, Unexpected, WrongType, NotKnown, Overflow, DivisionByZero, OutOfDomain, Inconsistent, CoefficientTooLarge, BadArguments, LoneConditionWord, NoLoop, LoneEndgroup, BadSubscript, BadDeclaration, BadPath, PolygonalPen, TeXBlock, BadFont, MissingCharacter, BadDash, UserError, Limit, NotBuilt}

-- a value that an error carries, by how it is shown
pub data Detail : Type 0 where
  word : List ℕ → Detail
  text : List ℕ → Detail
  number : ℕ → Detail
  residual : ℤ → Detail

abbrev pub cap_name : Cap → List ℕ
cap_name Nesting = codes "Nesting"
cap_name Sources = codes "Sources"
cap_name SourceBytes = codes "SourceBytes"
cap_name Text = codes "Text"
cap_name Knots = codes "Knots"
cap_name Items = codes "Items"
cap_name PictureKnots = codes "PictureKnots"
cap_name Suffix = codes "Suffix"
cap_name Params = codes "Params"
cap_name Unknowns = codes "Unknowns"
cap_name Terms = codes "Terms"
cap_name Figures = codes "Figures"
cap_name FigureBytes = codes "FigureBytes"
cap_name Lines = codes "Lines"

-- the number, the name and the details of an error
abbrev pub row_of : SourceError → ℕ × List ℕ × List Detail
row_of (BadCharacter byte) = (1, codes "BadCharacter", number byte ∷ [])
row_of UnfinishedString = (2, codes "UnfinishedString", [])
row_of EnormousNumber = (3, codes "EnormousNumber", [])
row_of (NoSuchFile name) = (4, codes "NoSuchFile", text name ∷ [])
row_of (FileTooLong name) = (5, codes "FileTooLong", text name ∷ [])
row_of FileEndedInText = (6, codes "FileEndedInText", [])
row_of (Unexpected wanted stood) = (7, codes "Unexpected", text wanted ∷ text stood ∷ [])
row_of (WrongType op) = (8, codes "WrongType", word op ∷ [])
row_of (NotKnown op) = (9, codes "NotKnown", word op ∷ [])
row_of Overflow = (10, codes "Overflow", [])
row_of DivisionByZero = (11, codes "DivisionByZero", [])
row_of (OutOfDomain op) = (12, codes "OutOfDomain", word op ∷ [])
row_of (Inconsistent units) = (13, codes "Inconsistent", residual units ∷ [])
row_of CoefficientTooLarge = (14, codes "CoefficientTooLarge", [])
row_of BadArguments = (15, codes "BadArguments", [])
row_of LoneConditionWord = (16, codes "LoneConditionWord", [])
row_of NoLoop = (17, codes "NoLoop", [])
row_of LoneEndgroup = (18, codes "LoneEndgroup", [])
row_of BadSubscript = (19, codes "BadSubscript", [])
row_of BadDeclaration = (20, codes "BadDeclaration", [])
row_of (BadPath why) = (21, codes "BadPath", word why ∷ [])
row_of PolygonalPen = (22, codes "PolygonalPen", [])
row_of TeXBlock = (23, codes "TeXBlock", [])
row_of (BadFont font why) = (24, codes "BadFont", text font ∷ word why ∷ [])
row_of (MissingCharacter font code) = (25, codes "MissingCharacter", text font ∷ number code ∷ [])
row_of BadDash = (26, codes "BadDash", [])
row_of (UserError message) = (27, codes "UserError", text message ∷ [])
row_of (Limit cap most) = (28, codes "Limit", word (cap_name cap) ∷ number most ∷ [])
row_of (NotBuilt op) = (29, codes "NotBuilt", word op ∷ [])

abbrev pub number_of : SourceError → ℕ
number_of error = (row_of error).0

abbrev pub variant_name : SourceError → List ℕ
variant_name error = (row_of error).1

abbrev pub details_of : SourceError → List Detail
details_of error = (row_of error).2

-- a detail behind its space
abbrev pub detail_text : Detail → List ℕ
detail_text (word w) = codes " " ++ w
detail_text (text t) = codes " \"" ++ t ++ codes "\""
detail_text (number n) = codes " " ++ decimal n
detail_text (residual r) = codes " " ++ printed r

abbrev pub details_text : List Detail → List ℕ
details_text [] = []
details_text (d ∷ ds) = detail_text d ++ details_text ds

-- NAME:LINE: error N Variant and the details
abbrev pub error_line : SourceError → List ℕ → ℕ → List ℕ
error_line error name line =
    name ++ codes ":" ++ decimal line ++ codes ": error " ++ decimal (number_of error) ++ codes " "
    ++ variant_name error ++ details_text (details_of error) ++ codes "\n"
