-- What the definitions give for some headings and bodies.
use Rattle.std.proofs.Common.{◌≡◌, refl, ℕ, zero, suc, pos, List, [], ◌∷◌, Result, Ok, Err, codes}
use Rattle.mp_report.specs.declared.error.Cap.TheVariants as cap
use Rattle.mp_report.specs.declared.error.SourceError.{SourceError}
use Rattle.mp_report.specs.declared.error.SourceError.TheVariants as error
use Rattle.mp_tokens.specs.declared.token.BadToken.TheVariants as bad
use Rattle.mp_values.specs.declared.item.Item.{Item}
use Rattle.mp_values.specs.declared.item.Item.TheVariants.{Symbol, Number, Bad, Param, LineEnd, FileEnd}
use Rattle.mp_values.specs.declared.macros.Level.{Level}
use Rattle.mp_values.specs.declared.macros.Level.TheVariants as level
use Rattle.mp_values.specs.declared.macros.ParamKind.{ParamKind}
use Rattle.mp_values.specs.declared.macros.ParamKind.TheVariants as kind
use Rattle.mp_values.specs.declared.meaning.Meaning.TheVariants as meaning
use Rattle.mp_values.specs.declared.word.CalledName.TheVariants as called_name
use Rattle.mp_values.specs.declared.word.Definition.{Definition}
use Rattle.mp_values.specs.declared.word.Definition.TheVariants.{Def, Vardef, Primarydef}
use Rattle.mp_values.specs.declared.word.Parameter.TheVariants as parameter
use Rattle.mp_values.specs.declared.word.Word.TheVariants as word
use Rattle.mp_vartree.specs.declared.names.Shape.{Shape}
use Rattle.mp_vartree.specs.declared.names.Shape.TheVariants.{Sym, Any}
use Rattle.mp_macro.specs.Signs.{Table}
use Rattle.mp_macro.specs.Definitions.{definition_of, read}
use Rattle.mp_macro.specs.declared.defined.Defined.{Defined}
use Rattle.mp_macro.specs.declared.reader.GroupSymbols.{GroupSymbols}

abbrev table : Table
table =
    (codes "(", meaning.Left (record { left = 0; right = 1 })) ∷ (codes ")", meaning.Right (record { left = 0; right = 1 }))
    ∷ (codes "<", meaning.Left (record { left = 2; right = 3 })) ∷ (codes ">", meaning.Right (record { left = 2; right = 3 }))
    ∷ (codes "=", meaning.Word word.Equals) ∷ (codes ":=", meaning.Word word.Assign) ∷ (codes ",", meaning.Word word.Comma)
    ∷ (codes "[", meaning.Word word.LeftBracket) ∷ (codes "]", meaning.Word word.RightBracket)
    ∷ (codes "def", meaning.Word (word.Definition Def)) ∷ (codes "enddef", meaning.Word word.Enddef)
    ∷ (codes "expr", meaning.Word (word.Parameter parameter.Expr)) ∷ (codes "suffix", meaning.Word (word.Parameter parameter.Suffix))
    ∷ (codes "text", meaning.Word (word.Parameter parameter.Text)) ∷ (codes "primary", meaning.Word (word.Parameter parameter.Primary))
    ∷ (codes "of", meaning.Word word.Of) ∷ (codes "#@", meaning.Word (word.CalledName called_name.Before))
    ∷ (codes "@", meaning.Word (word.CalledName called_name.Last)) ∷ (codes "@#", meaning.Word (word.CalledName called_name.Behind))
    ∷ (codes "linecap", meaning.Internal 0) ∷ (codes "a", meaning.NewTag) ∷ (codes "b", meaning.Tag 0) ∷ (codes "x", meaning.NewTag)
    ∷ (codes "y", meaning.NewTag) ∷ []

abbrev left : Item
left = Symbol 0

abbrev right : Item
right = Symbol 1

abbrev angle : Item
angle = Symbol 2

abbrev other_right : Item
other_right = Symbol 3

abbrev equals : Item
equals = Symbol 4

abbrev assign : Item
assign = Symbol 5

abbrev comma : Item
comma = Symbol 6

abbrev open_bracket : Item
open_bracket = Symbol 7

abbrev close_bracket : Item
close_bracket = Symbol 8

abbrev def : Item
def = Symbol 9

abbrev enddef : Item
enddef = Symbol 10

abbrev expr : Item
expr = Symbol 11

abbrev suffix : Item
suffix = Symbol 12

abbrev text : Item
text = Symbol 13

abbrev primary : Item
primary = Symbol 14

abbrev of : Item
of = Symbol 15

abbrev before : Item
before = Symbol 16

abbrev last : Item
last = Symbol 17

abbrev behind : Item
behind = Symbol 18

abbrev linecap : Item
linecap = Symbol 19

abbrev a : Item
a = Symbol 20

abbrev b : Item
b = Symbol 21

abbrev x : Item
x = Symbol 22

abbrev y : Item
y = Symbol 23

abbrev five : Item
five = Number (pos 327680)

abbrev line_end : Item
line_end = LineEnd (record { file = 1; line = 1 })

-- the numbers of `begingroup` and `endgroup`
abbrev group : GroupSymbols
group = record { begin = 30; end = 31 }

abbrev begin : Item
begin = Symbol 30

abbrev end : Item
end = Symbol 31

abbrev defined : Definition → List Item → Result Defined SourceError
defined w items = definition_of table w group items

-- a symbol or a variable, its parts, what the parameters take, the level and the body
abbrev gives : ℕ → List Shape → List ParamKind → Level → List Item → Result Defined SourceError
gives symbol parts kinds level body = Ok (record { symbol = symbol; parts = parts; value = record { params = kinds; body = body; level = level } })

-- DEF

no_parameters : defined Def (a ∷ equals ∷ b ∷ enddef ∷ []) ≡ gives 20 [] [] level.Plain (b ∷ [])
unfolding read
no_parameters = refl

-- def a(expr x,y)<suffix b>text a:=y b a x enddef, over two lines
groups : defined Def (a ∷ left ∷ expr ∷ x ∷ comma ∷ y ∷ right ∷ angle ∷ suffix ∷ b ∷ other_right ∷ line_end ∷ text ∷ a ∷ assign ∷ y ∷ line_end ∷ b ∷ a ∷ x ∷ enddef ∷ [])
    ≡ gives 20 [] (kind.Expr ∷ kind.Expr ∷ kind.Suffix ∷ kind.BareText ∷ []) level.Plain (Param 1 ∷ Param 2 ∷ Param 3 ∷ Param 0 ∷ [])
unfolding read
groups = refl

bare_primary : defined Def (a ∷ primary ∷ x ∷ equals ∷ x ∷ x ∷ enddef ∷ []) ≡ gives 20 [] (kind.Primary ∷ []) level.Plain (Param 0 ∷ Param 0 ∷ [])
unfolding read
bare_primary = refl

bare_expression : defined Def (a ∷ expr ∷ x ∷ equals ∷ x ∷ enddef ∷ []) ≡ gives 20 [] (kind.BareExpr ∷ []) level.Plain (Param 0 ∷ [])
unfolding read
bare_expression = refl

expression_of : defined Def (a ∷ left ∷ text ∷ b ∷ right ∷ expr ∷ x ∷ of ∷ y ∷ equals ∷ y ∷ x ∷ b ∷ enddef ∷ [])
    ≡ gives 20 [] (kind.Text ∷ kind.ExprOf ∷ []) level.Plain (Param 2 ∷ Param 1 ∷ Param 0 ∷ [])
unfolding read
expression_of = refl

-- VARDEF

name : defined Vardef (a ∷ b ∷ open_bracket ∷ close_bracket ∷ linecap ∷ equals ∷ before ∷ last ∷ behind ∷ enddef ∷ [])
    ≡ gives 20 (Sym 21 ∷ Any ∷ Sym 19 ∷ []) [] level.Variable (begin ∷ Param 0 ∷ Param 1 ∷ behind ∷ end ∷ [])
unfolding read
name = refl

name_with_suffix : defined Vardef (a ∷ behind ∷ left ∷ expr ∷ x ∷ right ∷ equals ∷ behind ∷ x ∷ enddef ∷ [])
    ≡ gives 20 [] (kind.Expr ∷ []) level.Suffixed (begin ∷ Param 2 ∷ Param 3 ∷ end ∷ [])
unfolding read
name_with_suffix = refl

-- OPERATORS

operator : defined Primarydef (x ∷ a ∷ y ∷ equals ∷ y ∷ x ∷ before ∷ enddef ∷ []) ≡ gives 20 [] [] level.Primary (Param 1 ∷ Param 0 ∷ before ∷ [])
unfolding read
operator = refl

-- BODIES

-- a definition in a definition, in which the parameters of the outer one stand too
inner : defined Def (a ∷ text ∷ x ∷ equals ∷ def ∷ b ∷ equals ∷ x ∷ enddef ∷ five ∷ enddef ∷ [])
    ≡ gives 20 [] (kind.BareText ∷ []) level.Plain (def ∷ b ∷ equals ∷ Param 0 ∷ enddef ∷ five ∷ [])
unfolding read
inner = refl

-- a parameter of the name `enddef` ends nothing; then nothing does
parameter_enddef : defined Def (a ∷ text ∷ enddef ∷ equals ∷ b ∷ enddef ∷ FileEnd ∷ []) ≡ Err error.FileEndedInText
unfolding read
parameter_enddef = refl

-- of two parameters of one name the later counts
one_name : defined Def (a ∷ left ∷ expr ∷ x ∷ comma ∷ x ∷ right ∷ equals ∷ x ∷ enddef ∷ []) ≡ gives 20 [] (kind.Expr ∷ kind.Expr ∷ []) level.Plain (Param 1 ∷ [])
unfolding read
one_name = refl

-- REFUSALS

abbrev unexpected : List ℕ → List ℕ → Result Defined SourceError
unexpected wanted stood = Err (error.Unexpected wanted stood)

no_symbol : defined Def (five ∷ a ∷ equals ∷ enddef ∷ []) ≡ unexpected (codes "symbol") (codes "number")
unfolding read
no_symbol = refl

no_equals : defined Def (a ∷ b ∷ equals ∷ enddef ∷ []) ≡ unexpected (codes "=") (codes "b")
unfolding read
no_equals = refl

no_kind : defined Def (a ∷ left ∷ primary ∷ x ∷ []) ≡ unexpected (codes "symbol") (codes "primary")
unfolding read
no_kind = refl

no_name : defined Def (a ∷ left ∷ expr ∷ five ∷ []) ≡ unexpected (codes "symbol") (codes "number")
unfolding read
no_name = refl

no_right_delimiter : defined Def (a ∷ left ∷ expr ∷ x ∷ other_right ∷ []) ≡ unexpected (codes ")") (codes ">")
unfolding read
no_right_delimiter = refl

two_without_delimiters : defined Def (a ∷ primary ∷ x ∷ primary ∷ []) ≡ unexpected (codes "=") (codes "primary")
unfolding read
two_without_delimiters = refl

no_of : defined Def (a ∷ primary ∷ x ∷ of ∷ []) ≡ unexpected (codes "=") (codes "of")
unfolding read
no_of = refl

no_group_behind : defined Def (a ∷ expr ∷ x ∷ left ∷ []) ≡ unexpected (codes "=") (codes "(")
unfolding read
no_group_behind = refl

no_assign_of_an_operator : defined Primarydef (x ∷ a ∷ y ∷ assign ∷ []) ≡ unexpected (codes "=") (codes ":=")
unfolding read
no_assign_of_an_operator = refl

no_number_in_a_name : defined Vardef (a ∷ five ∷ []) ≡ Err error.BadDeclaration
unfolding read
no_number_in_a_name = refl

no_filled_bracket : defined Vardef (a ∷ open_bracket ∷ five ∷ close_bracket ∷ []) ≡ Err error.BadDeclaration
unfolding read
no_filled_bracket = refl

no_part_behind_suffix : defined Vardef (a ∷ behind ∷ b ∷ []) ≡ unexpected (codes "=") (codes "b")
unfolding read
no_part_behind_suffix = refl

bad_token_in_a_heading : defined Def (a ∷ Bad bad.Enormous ∷ []) ≡ Err error.EnormousNumber
unfolding read
bad_token_in_a_heading = refl

bad_token_in_a_body : defined Def (a ∷ equals ∷ Bad bad.Unfinished ∷ enddef ∷ []) ≡ Err error.UnfinishedString
unfolding read
bad_token_in_a_body = refl

file_end_in_a_heading : defined Vardef (a ∷ FileEnd ∷ equals ∷ enddef ∷ []) ≡ Err error.FileEndedInText
unfolding read
file_end_in_a_heading = refl

end_in_a_body : defined Def (a ∷ equals ∷ []) ≡ Err error.FileEndedInText
unfolding read
end_in_a_body = refl

-- LIMITS

-- so many more parameters, and so many parts
abbrev more_parameters : ℕ → List Item → List Item
more_parameters zero rest = rest
more_parameters (suc n) rest = comma ∷ x ∷ more_parameters n rest

abbrev parts : ℕ → List Item → List Item
parts zero rest = rest
parts (suc n) rest = b ∷ parts n rest

parameters_64 : defined Def (a ∷ left ∷ text ∷ x ∷ more_parameters 63 (comma ∷ five ∷ [])) ≡ unexpected (codes "symbol") (codes "number")
unfolding read
parameters_64 = refl

parameters_65 : defined Def (a ∷ left ∷ text ∷ x ∷ more_parameters 64 []) ≡ Err (error.Limit cap.Params 64)
unfolding read
parameters_65 = refl

parts_50 : defined Vardef (a ∷ parts 50 (open_bracket ∷ five ∷ [])) ≡ Err error.BadDeclaration
unfolding read
parts_50 = refl

parts_51 : defined Vardef (a ∷ parts 50 (open_bracket ∷ close_bracket ∷ [])) ≡ Err (error.Limit cap.Suffix 50)
unfolding read
parts_51 = refl
