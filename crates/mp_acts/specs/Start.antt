-- The state at the start of a run: the delimiters, the words, built or not, and the internals with their first values.
use Rattle.std.specs.Prelude.{ℕ, ℤ, pos, ◌+◌, List, [], ◌∷◌, ◌++◌, fold, map, length, codes}
use Rattle.mp_symbols.specs.Names.{Names, with_name}
use Rattle.mp_symbols.specs.Tables.{Table}
use Rattle.mp_values.specs.Words.{words, name_of_word}
use Rattle.mp_values.specs.declared.meaning.Meaning.{Meaning}
use Rattle.mp_values.specs.declared.meaning.Meaning.TheVariants as meaning
use Rattle.mp_values.specs.declared.word.Word.{Word}
use Rattle.mp_vartree.specs.Variables.{no_variables}
use Rattle.mp_acts.specs.State.{State}

-- types, pictures and figures
abbrev pub drawing_words : List (List ℕ)
drawing_words =
    codes "pair" ∷ codes "color" ∷ codes "rgbcolor" ∷ codes "transform" ∷ codes "path" ∷ codes "pen" ∷ codes "picture" ∷ codes "addto" ∷ codes "contour" ∷
    codes "doublepath" ∷ codes "also" ∷ codes "withpen" ∷ codes "withcolor" ∷ codes "dashed" ∷ codes "clip" ∷
    codes "to" ∷ codes "setbounds" ∷ codes "shipout" ∷ codes "special" ∷ codes "randomseed" ∷ []

-- loops and files
abbrev pub control_words : List (List ℕ)
control_words =
    codes "for" ∷ codes "forsuffixes" ∷ codes "forever" ∷
    codes "endfor" ∷ codes "exitif" ∷ codes "step" ∷ codes "until" ∷ codes "input" ∷ codes "endinput" ∷
    codes "scantokens" ∷ codes "expandafter" ∷ []

-- operands, and operators that stand in front of one
abbrev pub operand_words : List (List ℕ)
operand_words =
    codes "nullpicture" ∷ codes "pencircle" ∷ codes "cycle" ∷ codes "odd" ∷ codes "floor" ∷ codes "sqrt" ∷
    codes "mlog" ∷ codes "mexp" ∷ codes "sind" ∷ codes "cosd" ∷ codes "uniformdeviate" ∷ codes "angle" ∷
    codes "xpart" ∷ codes "ypart" ∷ codes "xxpart" ∷ codes "xypart" ∷ codes "yxpart" ∷ codes "yypart" ∷
    codes "redpart" ∷ codes "greenpart" ∷ codes "bluepart" ∷ codes "decimal" ∷ codes "char" ∷ codes "ASCII" ∷
    codes "oct" ∷ codes "hex" ∷ codes "length" ∷ codes "reverse" ∷ codes "makepath" ∷ codes "llcorner" ∷
    codes "lrcorner" ∷ codes "ulcorner" ∷ codes "urcorner" ∷ codes "fontsize" ∷ codes "point" ∷
    codes "precontrol" ∷ codes "postcontrol" ∷ codes "subpath" ∷ codes "substring" ∷ codes "directiontime" ∷ []

-- operators between two operands, and the signs of paths
abbrev pub operator_words : List (List ℕ)
operator_words =
    codes "infont" ∷ codes "++" ∷ codes "+-+" ∷ codes "scaled" ∷ codes "xscaled" ∷ codes "yscaled" ∷ codes "slanted" ∷
    codes "rotated" ∷ codes "zscaled" ∷ codes "shifted" ∷ codes "transformed" ∷ codes ".." ∷ codes "tension" ∷
    codes "controls" ∷ codes "atleast" ∷ codes "curl" ∷ codes "{" ∷ codes "}" ∷ []

-- all others
abbrev pub other_words : List (List ℕ)
other_words =
    codes "btex" ∷ codes "verbatimtex" ∷ codes "makepen" ∷ codes "outer" ∷ codes "inner" ∷ codes "quote" ∷
    codes "readfrom" ∷ codes "write" ∷ codes "arclength" ∷ codes "arctime" ∷ codes "turningnumber" ∷
    codes "normaldeviate" ∷ codes "penoffset" ∷ codes "within" ∷ codes "readstring" ∷ codes "closefrom" ∷
    codes "nullpen" ∷ codes "showtoken" ∷ codes "showvariable" ∷ codes "showdependencies" ∷ codes "showstats" ∷
    codes "outputtemplate" ∷ codes "outputformat" ∷ codes "withprescript" ∷ codes "withpostscript" ∷
    codes "withoutcolor" ∷ codes "withgreyscale" ∷ codes "withrgbcolor" ∷ codes "withcmykcolor" ∷
    codes "cmykcolor" ∷ codes "greypart" ∷ codes "cyanpart" ∷ codes "magentapart" ∷ codes "yellowpart" ∷
    codes "blackpart" ∷ codes "colormodel" ∷ codes "filled" ∷ codes "stroked" ∷ codes "textual" ∷
    codes "clipped" ∷ codes "bounded" ∷ codes "pathpart" ∷ codes "penpart" ∷ codes "dashpart" ∷
    codes "textpart" ∷ codes "fontpart" ∷ codes "intersectiontimes" ∷ codes "fontmapfile" ∷
    codes "fontmapline" ∷ codes "charlist" ∷ codes "ligtable" ∷ codes "extensible" ∷ codes "headerbyte" ∷
    codes "fontdimen" ∷ codes "day" ∷ codes "month" ∷ codes "year" ∷ codes "time" ∷ codes "dump" ∷ []

-- the words of the language that are not built
abbrev pub unbuilt_words : List (List ℕ)
unbuilt_words = drawing_words ++ (control_words ++ (operand_words ++ (operator_words ++ other_words)))

-- the internals with their first values, in units of 2^-16
abbrev pub first_internals : List (List ℕ × ℤ)
first_internals =
    (codes "linecap", pos 65536) ∷ (codes "linejoin", pos 65536) ∷ (codes "miterlimit", pos 655360) ∷
    (codes "charcode", pos 0) ∷ (codes "prologues", pos 0) ∷ (codes "truecorners", pos 0) ∷
    (codes "warningcheck", pos 0) ∷ (codes "showstopping", pos 0) ∷ (codes "pausing", pos 0) ∷
    (codes "tracingonline", pos 0) ∷ (codes "tracingtitles", pos 0) ∷ (codes "tracingequations", pos 0) ∷
    (codes "tracingcapsules", pos 0) ∷ (codes "tracingchoices", pos 0) ∷ (codes "tracingspecs", pos 0) ∷
    (codes "tracingcommands", pos 0) ∷ (codes "tracingrestores", pos 0) ∷ (codes "tracingmacros", pos 0) ∷
    (codes "tracingoutput", pos 0) ∷ (codes "tracingstats", pos 0) ∷ (codes "tracinglostchars", pos 0) ∷ []

-- the parentheses are a pair of delimiters; they are the symbols 0 and 1
abbrev pub delimiter_entries : List (List ℕ × Meaning)
delimiter_entries =
    (codes "(", meaning.Left (record { left = 0; right = 1 }))
    ∷ (codes ")", meaning.Right (record { left = 0; right = 1 }))
    ∷ []

abbrev pub word_entry : Word → List ℕ × Meaning
word_entry w = (name_of_word w, meaning.Word w)

abbrev pub unbuilt_entry : List ℕ → List ℕ × Meaning
unbuilt_entry name = (name, meaning.Unbuilt name)

-- internals by their numbers, from the first on
abbrev pub internal_entries : ℕ → List (List ℕ × ℤ) → List (List ℕ × Meaning)
internal_entries k [] = []
internal_entries k (internal ∷ more) = (internal.0, meaning.Internal k) ∷ internal_entries (k + 1) more

-- the names of the language, with their meanings
abbrev pub first_entries : List (List ℕ × Meaning)
first_entries = delimiter_entries ++ (map word_entry words ++ (internal_entries 0 first_internals ++ map unbuilt_entry unbuilt_words))

-- names with their meanings, added to a table
unfoldable pub with_entries : Names Meaning → List (List ℕ × Meaning) → Names Meaning
with_entries names entries = fold (λ table entry. with_name table entry.0 entry.1) names entries

-- a table with more names
abbrev pub with_more_names : Table Meaning → List (List ℕ × Meaning) → Table Meaning
with_more_names table entries = record table { names = with_entries table.names entries }

-- a table with more internals, each with its name and its value
abbrev pub with_more_internals : Table Meaning → List (List ℕ × ℤ) → Table Meaning
with_more_internals table more = record table {
  names = with_entries table.names (internal_entries (length table.internals) more);
  internals = table.internals ++ map (λ internal. internal.1) more;
}

unfoldable pub first_symbols : Table Meaning
first_symbols = record { names = with_entries [] first_entries; internals = map (λ internal. internal.1) first_internals; saved = [] }

-- no variables, no unknowns, no events and no lines; the job has that name
abbrev pub first_state : List ℕ → State
first_state job = record {
  symbols = first_symbols;
  variables = no_variables;
  slots = [];
  unknowns = record { states = []; names = [] };
  events = [];
  lines = [];
  job = job;
}
