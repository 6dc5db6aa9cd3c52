-- The classes of characters.
-- After Knuth, METAFONT: The Program, part 12 (char_class); that tab and form feed are spaces is this project's own.
use Rattle.std.specs.Prelude.{ℕ, Bool, false, ◌||◌, List, [], ◌∷◌, ◌==◌, codes, find, unwrap_or}
use Rattle.std.specs.List.{list_any}
use Rattle.std.specs.Char.{is_ascii_alphabetic, is_ascii_digit}
use Rattle.mp_scaled.specs.declared.decimal.TheConstants.{POINT}
use Rattle.mp_tokens.specs.declared.class.TheConstants.{STRING_MARK, COMMENT_MARK, LEFT_BRACKET, RIGHT_BRACKET, TAB, FORM_FEED}
use Rattle.mp_tokens.specs.declared.class.Class.{Class}
use Rattle.mp_tokens.specs.declared.class.Class.TheVariants.{Letters, Relations, Quotes, Signs, Products, Marks, Signals, Arrows, Braces, LeftBrackets, RightBrackets, Loner, Digit, Point, StringMark, Comment, Space, Other}

abbrev pub is_among : List ℕ → ℕ → Bool
is_among text c = list_any (λ d. c == d) text

-- the characters of a class
abbrev pub has : Class → ℕ → Bool
has Letters c = is_ascii_alphabetic c || c == 95
has Relations c = is_among (codes "<=>:|") c
has Quotes c = is_among (codes "`'") c
has Signs c = is_among (codes "+-") c
has Products c = is_among (codes "/*\\") c
has Marks c = is_among (codes "!?") c
has Signals c = is_among (codes "#&@$") c
has Arrows c = is_among (codes "^~") c
has Braces c = is_among (codes "{}") c
has LeftBrackets c = c == LEFT_BRACKET
has RightBrackets c = c == RIGHT_BRACKET
has Loner c = is_among (codes ",;()") c
has Digit c = is_ascii_digit c
has Point c = c == POINT
has StringMark c = c == STRING_MARK
has Comment c = c == COMMENT_MARK
has Space c = is_among (32 ∷ TAB ∷ FORM_FEED ∷ []) c
has Other c = false

abbrev pub classes : List Class
classes = Letters ∷ Relations ∷ Quotes ∷ Signs ∷ Products ∷ Marks ∷ Signals ∷ Arrows ∷ Braces ∷ LeftBrackets ∷ RightBrackets ∷ Loner ∷ Digit ∷ Point ∷ StringMark ∷ Comment ∷ Space ∷ []

-- the class that has the byte, else Other
abbrev pub class_of : ℕ → Class
class_of c = unwrap_or (find (λ class. has class c) classes) Other
