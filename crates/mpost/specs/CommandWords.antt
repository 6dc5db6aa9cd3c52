-- What the words of a command line say: options in any order, each at most once, and behind them a file.
use Rattle.std.specs.Prelude.{ℕ, ◌+◌, Bool, true, false, not, ◌&&◌, ◌||◌, ◌==◌, nat_le, List, [], ◌∷◌, ◌++◌, length, fold, Option, Some, None, is_some, is_none, unwrap_or, codes, if◌then◌else◌}
use Rattle.std.specs.Char.{is_ascii_digit}
use Rattle.std.specs.List.{list_all}
use Rattle.std.specs.Str.{bytes_eq}
use Rattle.std.specs.Str.Parse.{digits_value}
use Rattle.mp_eval.specs.Files.{is_visible}
use Rattle.mpost.specs.declared.words.Numbered.{Numbered}
use Rattle.mpost.specs.declared.words.Numbered.TheVariants.{Steps, Seed}
use Rattle.mpost.specs.declared.words.OptionWord.{OptionWord}
use Rattle.mpost.specs.declared.words.OptionWord.TheVariants as option
use Rattle.mpost.specs.declared.words.Options.{Options}
use Rattle.mpost.specs.declared.words.TheConstants.{DEFAULT_STEPS, LEAST_STEPS, GREATEST_STEPS, DEFAULT_SEED, LEAST_SEED, GREATEST_SEED, LONGEST_NUMBER}

-- what a command line asks for
pub record CommandLine : Type 0 where
  -- the name of the main file
  pub name : List ℕ
  -- the steps that its run may take
  pub budget : ℕ
  -- the seed of the random words
  pub seed : ℕ

-- refused at a word, counted from 1, or a command line
pub data Words : Type 0 where
  RefusedAt : ℕ → Words
  Accepted : CommandLine → Words

-- FILES

-- a word names a file: it is not empty, has visible bytes alone, and does not begin with `-`
abbrev pub is_file : List ℕ → Bool
is_file [] = false
is_file (c ∷ cs) = not (c == 45) && list_all is_visible (c ∷ cs)

-- whether a point was seen since the last slash, after one more byte
abbrev pub pointed_after : Bool → ℕ → Bool
pointed_after pointed c = if c == 47 then false else c == 46 || pointed

-- a point stands behind the last slash
abbrev pub is_pointed : List ℕ → Bool
is_pointed file = fold pointed_after false file

-- `.mp` is added to a name that has no point behind its last slash
abbrev pub name_of_file : List ℕ → List ℕ
name_of_file file = if is_pointed file then file else file ++ codes ".mp"

-- NUMBERS

-- 1 to 10 decimal digits; zeros may stand first
abbrev pub is_number : List ℕ → Bool
is_number word = nat_le 1 (length word) && nat_le (length word) LONGEST_NUMBER && list_all is_ascii_digit word

abbrev pub is_within : ℕ → ℕ → ℕ → Bool
is_within least greatest n = nat_le least n && nat_le n greatest

-- the number that a word writes, where it lies within these bounds
abbrev pub number_within : ℕ → ℕ → List ℕ → Option ℕ
number_within least greatest word =
    if is_number word && is_within least greatest (digits_value 10 word) then Some (digits_value 10 word) else None

-- the number of an option
abbrev pub number_of : Numbered → List ℕ → Option ℕ
number_of Steps word = number_within LEAST_STEPS GREATEST_STEPS word
number_of Seed word = number_within LEAST_SEED GREATEST_SEED word

-- OPTIONS

abbrev pub no_options : Options
no_options = record { bare = false; steps = None; seed = None }

-- these options and one more
abbrev pub with_bare : Options → Options
with_bare said = record said { bare = true }

abbrev pub with_number : Numbered → ℕ → Options → Options
with_number Steps n said = record said { steps = Some n }
with_number Seed n said = record said { seed = Some n }

-- the option that a word is; one that has stood before is none any more
abbrev pub option_of : Options → List ℕ → Option OptionWord
option_of said word =
    if bytes_eq word (codes "--bare") && not said.bare then Some option.Bare
    else (if bytes_eq word (codes "--steps") && is_none said.steps then Some (option.Numbered Steps)
    else (if bytes_eq word (codes "--seed") && is_none said.seed then Some (option.Numbered Seed)
    else None))

-- the number of the word behind these options, which are one word or two each
abbrev pub word_behind : Options → ℕ
word_behind said = 1 + (if said.bare then 1 else 0) + (if is_some said.steps then 2 else 0) + (if is_some said.seed then 2 else 0)

-- what these options ask for, with this file
abbrev pub command_line : Options → List ℕ → CommandLine
command_line said file = record {
  name = name_of_file file;
  budget = unwrap_or said.steps DEFAULT_STEPS;
  seed = unwrap_or said.seed DEFAULT_SEED;
}

-- THE COMMAND LINE

-- the file is the last word
abbrev pub no_more : Options → List ℕ → List (List ℕ) → Words
no_more said file [] = Accepted (command_line said file)
no_more said file (word ∷ words) = RefusedAt (word_behind said + 1)

-- the file, which for now has to have `--bare` before it, since there are no macros to be loaded first
abbrev pub file_behind : Options → List ℕ → List (List ℕ) → Words
file_behind said file words = if is_file file && said.bare then no_more said file words else RefusedAt (word_behind said)

abbrev mutual
  -- what stands behind these options: another one, or the file
  pub words_behind : Options → List (List ℕ) → Words
  words_behind said [] = RefusedAt (word_behind said)
  words_behind said (word ∷ words) = elim (option_of said word) [
    | Some option.Bare ↦ words_behind (with_bare said) words
    | Some (option.Numbered numbered) ↦ number_behind numbered said words
    | None ↦ file_behind said word words
  ]

  -- the number that an option has
  pub number_behind : Numbered → Options → List (List ℕ) → Words
  number_behind numbered said [] = RefusedAt (word_behind said + 1)
  number_behind numbered said (word ∷ words) = elim (number_of numbered word) [
    | Some n ↦ words_behind (with_number numbered n said) words
    | None ↦ RefusedAt (word_behind said + 1)
  ]

-- what all the words say
abbrev pub words_of : List (List ℕ) → Words
words_of words = words_behind no_options words
