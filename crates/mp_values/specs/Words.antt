-- The words that are built: their names, and what they are as operators.
use Rattle.std.specs.Prelude.{ℕ, List, [], ◌∷◌, Option, Some, None, codes}
use Rattle.mp_values.specs.declared.macros.Level.{Level}
use Rattle.mp_values.specs.declared.macros.Level.TheVariants as level
use Rattle.mp_values.specs.declared.value.Kind.{Kind}
use Rattle.mp_values.specs.declared.value.Kind.TheVariants as kind
use Rattle.mp_values.specs.declared.word.CalledName.{CalledName}
use Rattle.mp_values.specs.declared.word.CalledName.TheVariants as called_name
use Rattle.mp_values.specs.declared.word.Command.{Command}
use Rattle.mp_values.specs.declared.word.Command.TheVariants as command
use Rattle.mp_values.specs.declared.word.Definition.{Definition}
use Rattle.mp_values.specs.declared.word.Definition.TheVariants as definition
use Rattle.mp_values.specs.declared.word.Parameter.{Parameter}
use Rattle.mp_values.specs.declared.word.Parameter.TheVariants as parameter
use Rattle.mp_values.specs.declared.word.SymbolCommand.{SymbolCommand}
use Rattle.mp_values.specs.declared.word.SymbolCommand.TheVariants as symbol_command
use Rattle.mp_values.specs.declared.word.Speech.{Speech}
use Rattle.mp_values.specs.declared.word.Speech.TheVariants as speech
use Rattle.mp_values.specs.declared.word.Mode.{Mode}
use Rattle.mp_values.specs.declared.word.Mode.TheVariants as mode
use Rattle.mp_values.specs.declared.word.Nullary.{Nullary}
use Rattle.mp_values.specs.declared.word.Nullary.TheVariants as nullary
use Rattle.mp_values.specs.declared.word.Unary.{Unary}
use Rattle.mp_values.specs.declared.word.Unary.TheVariants as unary
use Rattle.mp_values.specs.declared.word.Secondary.{Secondary}
use Rattle.mp_values.specs.declared.word.Secondary.TheVariants as secondary
use Rattle.mp_values.specs.declared.word.Tertiary.{Tertiary}
use Rattle.mp_values.specs.declared.word.Tertiary.TheVariants as tertiary
use Rattle.mp_values.specs.declared.word.Comparison.{Comparison}
use Rattle.mp_values.specs.declared.word.Comparison.TheVariants as comparison
use Rattle.mp_values.specs.declared.word.Expression.{Expression}
use Rattle.mp_values.specs.declared.word.Expression.TheVariants as expression
use Rattle.mp_values.specs.declared.word.Condition.{Condition}
use Rattle.mp_values.specs.declared.word.Condition.TheVariants as condition
use Rattle.mp_values.specs.declared.word.Word.{Word}
use Rattle.mp_values.specs.declared.word.Word.TheVariants as word

-- the word that declares variables of a type
abbrev pub name_of_kind : Kind → List ℕ
name_of_kind kind.Boolean = codes "boolean"
name_of_kind kind.Numeric = codes "numeric"
name_of_kind kind.Text = codes "string"

abbrev pub name_of_symbol_command : SymbolCommand → List ℕ
name_of_symbol_command symbol_command.Save = codes "save"
name_of_symbol_command symbol_command.Newinternal = codes "newinternal"

abbrev pub name_of_speech : Speech → List ℕ
name_of_speech speech.Message = codes "message"
name_of_speech speech.Errmessage = codes "errmessage"
name_of_speech speech.Errhelp = codes "errhelp"

abbrev pub name_of_mode : Mode → List ℕ
name_of_mode mode.Batch = codes "batchmode"
name_of_mode mode.Scroll = codes "scrollmode"
name_of_mode mode.Nonstop = codes "nonstopmode"
name_of_mode mode.Errorstop = codes "errorstopmode"

abbrev pub name_of_command : Command → List ℕ
name_of_command command.Show = codes "show"
name_of_command (command.Symbols c) = name_of_symbol_command c
name_of_command command.Interim = codes "interim"
name_of_command command.Let = codes "let"
name_of_command command.Delimiters = codes "delimiters"
name_of_command (command.Speech s) = name_of_speech s
name_of_command (command.Mode m) = name_of_mode m
name_of_command (command.Type kind) = name_of_kind kind

abbrev pub name_of_definition : Definition → List ℕ
name_of_definition definition.Def = codes "def"
name_of_definition definition.Vardef = codes "vardef"
name_of_definition definition.Primarydef = codes "primarydef"
name_of_definition definition.Secondarydef = codes "secondarydef"
name_of_definition definition.Tertiarydef = codes "tertiarydef"

-- the word that defines a macro which is called so
abbrev pub definition_of : Level → Definition
definition_of level.Plain = definition.Def
definition_of level.Variable = definition.Vardef
definition_of level.Suffixed = definition.Vardef
definition_of level.Primary = definition.Primarydef
definition_of level.Secondary = definition.Secondarydef
definition_of level.Tertiary = definition.Tertiarydef

abbrev pub name_of_parameter : Parameter → List ℕ
name_of_parameter parameter.Primary = codes "primary"
name_of_parameter parameter.Secondary = codes "secondary"
name_of_parameter parameter.Tertiary = codes "tertiary"
name_of_parameter parameter.Expr = codes "expr"
name_of_parameter parameter.Suffix = codes "suffix"
name_of_parameter parameter.Text = codes "text"

abbrev pub name_of_called_name : CalledName → List ℕ
name_of_called_name called_name.Before = codes "#@"
name_of_called_name called_name.Last = codes "@"
name_of_called_name called_name.Behind = codes "@#"

abbrev pub name_of_nullary : Nullary → List ℕ
name_of_nullary nullary.True = codes "true"
name_of_nullary nullary.False = codes "false"
name_of_nullary nullary.Jobname = codes "jobname"

abbrev pub name_of_unary : Unary → List ℕ
name_of_unary unary.Plus = codes "+"
name_of_unary unary.Minus = codes "-"
name_of_unary unary.Not = codes "not"
name_of_unary unary.Known = codes "known"
name_of_unary unary.Unknown = codes "unknown"
name_of_unary (unary.Is kind) = name_of_kind kind

abbrev pub name_of_secondary : Secondary → List ℕ
name_of_secondary secondary.Times = codes "*"
name_of_secondary secondary.Over = codes "/"
name_of_secondary secondary.And = codes "and"

abbrev pub name_of_tertiary : Tertiary → List ℕ
name_of_tertiary tertiary.Plus = codes "+"
name_of_tertiary tertiary.Minus = codes "-"
name_of_tertiary tertiary.Or = codes "or"

abbrev pub name_of_comparison : Comparison → List ℕ
name_of_comparison comparison.Less = codes "<"
name_of_comparison comparison.AtMost = codes "<="
name_of_comparison comparison.Greater = codes ">"
name_of_comparison comparison.AtLeast = codes ">="
name_of_comparison comparison.Equal = codes "="
name_of_comparison comparison.Unequal = codes "<>"

abbrev pub name_of_expression : Expression → List ℕ
name_of_expression (expression.Compare c) = name_of_comparison c
name_of_expression expression.Concatenate = codes "&"

abbrev pub name_of_condition : Condition → List ℕ
name_of_condition condition.If = codes "if"
name_of_condition condition.Elseif = codes "elseif"
name_of_condition condition.Else = codes "else"
name_of_condition condition.Fi = codes "fi"

abbrev pub name_of_word : Word → List ℕ
name_of_word (word.Nullary w) = name_of_nullary w
name_of_word (word.Unary op) = name_of_unary op
name_of_word (word.Secondary op) = name_of_secondary op
name_of_word (word.Tertiary op) = name_of_tertiary op
name_of_word (word.Expression op) = name_of_expression op
name_of_word word.Comma = codes ","
name_of_word word.Semicolon = codes ";"
name_of_word word.Colon = codes ":"
name_of_word word.Equals = codes "="
name_of_word word.Assign = codes ":="
name_of_word word.LeftBracket = codes "["
name_of_word word.RightBracket = codes "]"
name_of_word word.Str = codes "str"
name_of_word word.Begingroup = codes "begingroup"
name_of_word word.Endgroup = codes "endgroup"
name_of_word word.End = codes "end"
name_of_word (word.Condition w) = name_of_condition w
name_of_word (word.Command c) = name_of_command c
name_of_word (word.Definition d) = name_of_definition d
name_of_word word.Enddef = codes "enddef"
name_of_word (word.Parameter p) = name_of_parameter p
name_of_word word.Of = codes "of"
name_of_word (word.CalledName p) = name_of_called_name p
name_of_word word.Backslash = codes "\\"

-- the words, in the order in which they get their numbers; those of groups are the first
abbrev pub words : List Word
words =
    word.Begingroup ∷ word.Endgroup
    ∷ word.Tertiary tertiary.Plus ∷ word.Tertiary tertiary.Minus ∷ word.Secondary secondary.Times ∷ word.Secondary secondary.Over
    ∷ word.Comma ∷ word.Semicolon ∷ word.Equals ∷ word.Assign
    ∷ word.LeftBracket ∷ word.RightBracket ∷ word.Str ∷ word.End
    ∷ word.Command command.Show ∷ word.Command (command.Symbols symbol_command.Save) ∷ word.Command command.Interim
    ∷ word.Command command.Let ∷ word.Command command.Delimiters ∷ word.Command (command.Symbols symbol_command.Newinternal)
    ∷ word.Command (command.Speech speech.Message) ∷ word.Command (command.Speech speech.Errmessage) ∷ word.Command (command.Speech speech.Errhelp)
    ∷ word.Command (command.Mode mode.Batch) ∷ word.Command (command.Mode mode.Scroll)
    ∷ word.Command (command.Mode mode.Nonstop) ∷ word.Command (command.Mode mode.Errorstop)
    ∷ word.Command (command.Type kind.Boolean) ∷ word.Command (command.Type kind.Numeric) ∷ word.Command (command.Type kind.Text)
    ∷ word.Definition definition.Def ∷ word.Definition definition.Vardef ∷ word.Definition definition.Primarydef
    ∷ word.Definition definition.Secondarydef ∷ word.Definition definition.Tertiarydef ∷ word.Enddef
    ∷ word.Parameter parameter.Primary ∷ word.Parameter parameter.Secondary ∷ word.Parameter parameter.Tertiary
    ∷ word.Parameter parameter.Expr ∷ word.Parameter parameter.Suffix ∷ word.Parameter parameter.Text ∷ word.Of
    ∷ word.CalledName called_name.Before ∷ word.CalledName called_name.Last ∷ word.CalledName called_name.Behind
    ∷ word.Backslash
    ∷ word.Nullary nullary.True ∷ word.Nullary nullary.False ∷ word.Nullary nullary.Jobname
    ∷ word.Unary unary.Not ∷ word.Unary unary.Known ∷ word.Unary unary.Unknown
    ∷ word.Secondary secondary.And ∷ word.Tertiary tertiary.Or
    ∷ word.Expression (expression.Compare comparison.Less) ∷ word.Expression (expression.Compare comparison.AtMost)
    ∷ word.Expression (expression.Compare comparison.Greater) ∷ word.Expression (expression.Compare comparison.AtLeast)
    ∷ word.Expression (expression.Compare comparison.Unequal) ∷ word.Expression expression.Concatenate
    ∷ word.Colon ∷ word.Condition condition.If ∷ word.Condition condition.Elseif ∷ word.Condition condition.Else ∷ word.Condition condition.Fi
    ∷ []

-- the operator that a word is before a primary, if it is one; the word of a type is a test there
abbrev pub unary_of : Word → Option Unary
unary_of (word.Unary op) = Some op
unary_of (word.Tertiary tertiary.Plus) = Some unary.Plus
unary_of (word.Tertiary tertiary.Minus) = Some unary.Minus
unary_of (word.Command (command.Type kind)) = Some (unary.Is kind)
unary_of w = None
