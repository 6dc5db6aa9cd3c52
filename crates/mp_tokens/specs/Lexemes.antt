-- What the bytes of a line belong to.
-- After Knuth, The METAFONTbook, chapter 6; strings without an end and bytes that may not stand where they stand are this project's own.
use Rattle.std.specs.Prelude.{ℕ, zero, suc, ◌+◌, ◌-◌, Bool, false, not, ◌&&◌, ◌||◌, nat_le, List, [], ◌∷◌, length, take, drop, Option, Some, None, find, position, if◌then◌else◌}
use Rattle.std.specs.List.{prefix_len}
use Rattle.std.specs.Int.{is_in_range}
use Rattle.mp_tokens.specs.Classes.{has, class_of, is_among}
use Rattle.mp_tokens.specs.declared.class.TheConstants.{TAB, FORM_FEED}
use Rattle.mp_tokens.specs.declared.class.Class.{Class}
use Rattle.mp_tokens.specs.declared.class.Class.TheVariants.{Loner, Digit, Point, StringMark, Comment, Space, Other}
use Rattle.mp_tokens.specs.declared.token.BadToken.TheVariants.{Character, Unfinished}
use Rattle.mp_tokens.specs.declared.lexeme.Kind.{Kind}
use Rattle.mp_tokens.specs.declared.lexeme.Kind.TheVariants.{Symbol, Number, Text, Bad, Blank}
use Rattle.mp_tokens.specs.declared.lexeme.Extent.{Extent}

-- so many bytes, which make that
abbrev pub extent : Kind → ℕ → Extent
extent kind n = record { kind = kind; length = n }

-- how many bytes from the front on are in a class
abbrev pub run : Class → List ℕ → ℕ
run class text = prefix_len (has class) text

abbrev pub begins : Class → List ℕ → Bool
begins class [] = false
begins class (c ∷ cs) = has class c

-- how many bytes a point and the digits behind it take, if a digit follows the point
abbrev pub fraction_length : List ℕ → ℕ
fraction_length [] = 0
fraction_length (c ∷ cs) = if has Point c && begins Digit cs then 1 + run Digit cs else 0

-- a digit and these bytes: digits, and a point with digits behind it
abbrev pub number : List ℕ → Extent
number rest = extent Number (1 + run Digit rest + fraction_length (drop (run Digit rest) rest))

-- a point and these bytes: a decimal, or two or more points, or a point that is ignored
abbrev pub pointed : List ℕ → Extent
pointed rest =
    if begins Digit rest then extent Number (1 + run Digit rest)
    else if begins Point rest then extent Symbol (1 + run Point rest)
    else extent Blank 1

-- the bytes that may stand in a string
abbrev pub is_string_byte : ℕ → Bool
is_string_byte c = is_in_range 32 126 c || is_among (TAB ∷ FORM_FEED ∷ []) c || nat_le 128 c

abbrev pub string_by : Option ℕ → Kind
string_by None = Text
string_by (Some c) = Bad (Character c)

-- what the bytes between two marks make, by the first that may not stand there
abbrev pub string_kind : List ℕ → Kind
string_kind content = string_by (find (λ c. not (is_string_byte c)) content)

abbrev pub quoted_by : List ℕ → Option ℕ → Extent
quoted_by rest (Some n) = extent (string_kind (take n rest)) (n + 2)
quoted_by rest None = extent (Bad Unfinished) (1 + length rest)

-- the mark of a string and these bytes: up to the next mark, and without one all of them
abbrev pub quoted : List ℕ → Extent
quoted rest = quoted_by rest (position (has StringMark) rest)

-- a byte of that class, and the bytes of its line behind it
abbrev pub lexeme_by : Class → ℕ → List ℕ → Extent
lexeme_by Digit c rest = number rest
lexeme_by Point c rest = pointed rest
lexeme_by StringMark c rest = quoted rest
lexeme_by Loner c rest = extent Symbol 1
lexeme_by Comment c rest = extent Blank (1 + length rest)
lexeme_by Space c rest = extent Blank (1 + run Space rest)
lexeme_by Other c rest = extent (Bad (Character c)) 1
lexeme_by class c rest = extent Symbol (1 + run class rest)

-- the lexeme that a byte begins, with the bytes of its line behind it: the longest that the classes allow
abbrev pub lexeme : ℕ → List ℕ → Extent
lexeme c rest = lexeme_by (class_of c) c rest

-- what some bytes make
pub record Lexeme : Type 0 where
  pub kind : Kind
  pub text : List ℕ

-- the lexemes of bytes, of which the first so many belong to the lexeme before
abbrev pub lexemes_after : ℕ → List ℕ → List Lexeme
lexemes_after n [] = []
lexemes_after (suc n) (c ∷ cs) = lexemes_after n cs
lexemes_after zero (c ∷ cs) =
    record { kind = (lexeme c cs).kind; text = take (lexeme c cs).length (c ∷ cs) } ∷ lexemes_after ((lexeme c cs).length - 1) cs

-- the lexemes of a line
abbrev pub lexemes : List ℕ → List Lexeme
lexemes line = lexemes_after 0 line
