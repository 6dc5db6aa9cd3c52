-- The bodies of definitions.
-- After Knuth, METAFONT: The Program, part 34 (how a text is read with its parameters put in).
use Rattle.std.specs.Prelude.{ℕ, zero, suc, ◌+◌, Bool, true, List, [], ◌∷◌, ◌++◌, Option, Some, None, nat_eq, if◌then◌else◌}
use Rattle.std.specs.Option.{option_or, option_map}
use Rattle.mp_values.specs.Outcome.{change}
use Rattle.mp_values.specs.declared.item.Item.{Item}
use Rattle.mp_values.specs.declared.item.Item.TheVariants as item
use Rattle.mp_values.specs.declared.word.CalledName.{CalledName}
use Rattle.mp_values.specs.declared.word.CalledName.TheVariants.{Before, Last, Behind}
use Rattle.mp_values.specs.declared.word.Definition.{Definition}
use Rattle.mp_values.specs.declared.word.Definition.TheVariants as definition
use Rattle.mp_values.specs.declared.word.Word.TheVariants as word
use Rattle.mp_macro.specs.Signs.{Table, sign_of_symbol}
use Rattle.mp_macro.specs.Headings.{Reading, Step}
use Rattle.mp_macro.specs.declared.reader.GroupSymbols.{GroupSymbols}
use Rattle.mp_macro.specs.declared.sign.Sign.{Sign}
use Rattle.mp_macro.specs.declared.sign.Sign.TheVariants as sign
use Rattle.mp_macro.specs.declared.stage.Stage.TheVariants.{Body, Nothing}

-- PARAMETERS IN A BODY

-- the last place of a symbol in a list whose places are counted from this on
abbrev pub last_place : ℕ → ℕ → List ℕ → Option ℕ
last_place from symbol [] = None
last_place from symbol (x ∷ xs) = option_or (last_place (suc from) symbol xs) (if nat_eq symbol x then Some from else None)

-- in the macro of a variable the parts of the name that it is called by are the first three parameters
abbrev pub first_parameter : Definition → ℕ
first_parameter definition.Vardef = 3
first_parameter w = 0

-- of two parameters of one name the later counts
abbrev pub own_parameter : Reading → ℕ → Option ℕ
own_parameter r symbol = option_map (λ place. first_parameter r.word + place) (last_place 0 symbol r.names)

-- #@ and @ in the macro of a variable, and @# where that stands at the end of its name
abbrev pub called_by : Definition → Bool → CalledName → Option ℕ
called_by definition.Vardef suffixed Before = Some 0
called_by definition.Vardef suffixed Last = Some 1
called_by definition.Vardef true Behind = Some 2
called_by w suffixed part = None

abbrev pub called_parameter : Reading → Sign → Option ℕ
called_parameter r (sign.Word (word.CalledName part)) = called_by r.word r.suffixed part
called_parameter r other = None

-- the parameter that a symbol stands for
abbrev pub parameter_by : Reading → ℕ → Sign → Option ℕ
parameter_by r symbol sign = option_or (own_parameter r symbol) (called_parameter r sign)

-- ITEMS OF A BODY

abbrev pub with_item : Item → Step
with_item x = change (λ r. record r { body = r.body ++ x ∷ [] })

-- one more item, which stands inside so many other definitions or is the word that such a one begins or ends with
abbrev pub with_word : Item → ℕ → Step
with_word x depth = change (λ r. record r { body = r.body ++ x ∷ []; next = Body depth })

abbrev pub closing : Definition → GroupSymbols → List Item
closing definition.Vardef group = item.Symbol group.end ∷ []
closing w group = []

-- the body ends
abbrev pub end_body : Step
end_body = change (λ r. record r { body = r.body ++ closing r.word r.group; next = Nothing })

abbrev pub enddef : ℕ → ℕ → Step
enddef symbol zero = end_body
enddef symbol (suc depth) = with_word (item.Symbol symbol) depth

-- what a symbol does to the count of the definitions that it stands in, by what it means
pub data Count : Type 0 where
  Begins : Count
  Ends : Count
  Neither : Count

abbrev pub count_of : Sign → Count
count_of (sign.Word (word.Definition w)) = Begins
count_of (sign.Word word.Enddef) = Ends
count_of other = Neither

abbrev pub word_by : ℕ → ℕ → Count → Step
word_by symbol depth Begins = with_word (item.Symbol symbol) (suc depth)
word_by symbol depth Ends = enddef symbol depth
word_by symbol depth Neither = with_item (item.Symbol symbol)

-- a parameter is put in before words are counted
abbrev pub symbol_by : ℕ → ℕ → Sign → Option ℕ → Step
symbol_by symbol depth sign (Some n) = with_item (item.Param n)
symbol_by symbol depth sign None = word_by symbol depth (count_of sign)

abbrev pub body_symbol : ℕ → ℕ → Sign → Step
body_symbol symbol depth sign r = symbol_by symbol depth sign (parameter_by r symbol sign) r

abbrev pub body : Table → ℕ → Item → Step
body table depth (item.Symbol symbol) = body_symbol symbol depth (sign_of_symbol table symbol)
body table depth x = with_item x
