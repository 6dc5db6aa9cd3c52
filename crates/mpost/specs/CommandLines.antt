-- Which command lines there are, and which word of any other is refused.
use Rattle.std.specs.Prelude.{ℕ, ◌≡◌, ◌+◌, ◌↔◌, Bool, true, false, List, [], ◌∷◌, ◌++◌, length, Some, None, is_some, codes}
use Rattle.mpost.specs.CommandWords.{CommandLine, RefusedAt, Accepted, is_file, number_of, no_options, with_bare, with_number, command_line, words_of}
use Rattle.mpost.specs.declared.words.Numbered.{Numbered}
use Rattle.mpost.specs.declared.words.Numbered.TheVariants.{Steps, Seed}
use Rattle.mpost.specs.declared.words.Options.{Options}

abbrev pub word_of : Numbered → List ℕ
word_of Steps = codes "--steps"
word_of Seed = codes "--seed"

-- an option has stood
abbrev pub has_number : Numbered → Options → Bool
has_number Steps said = is_some said.steps
has_number Seed said = is_some said.seed

-- behind these options the words are a command line, which asks for this
pub data IsLine : Options → List (List ℕ) → CommandLine → Type 0 where
  -- the file, where `--bare` has stood
  file : (said : Options) (file : List ℕ) → is_file file ≡ true → said.bare ≡ true → IsLine said (file ∷ []) (command_line said file)
  -- an option that has not stood, and what is a command line behind it
  bare : (said : Options) (words : List (List ℕ)) (line : CommandLine) → said.bare ≡ false
      → IsLine (with_bare said) words line → IsLine said (codes "--bare" ∷ words) line
  numbered : (said : Options) (option : Numbered) (number : List ℕ) (n : ℕ) (words : List (List ℕ)) (line : CommandLine)
      → has_number option said ≡ false → number_of option number ≡ Some n
      → IsLine (with_number option n said) words line → IsLine said (word_of option ∷ number ∷ words) line

-- what is accepted is a command line, and each is accepted as what it asks for
abbrev pub LinesAreAccepted : Type 0
LinesAreAccepted = (words : List (List ℕ)) (line : CommandLine) → (words_of words ≡ Accepted line) ↔ IsLine no_options words line

-- a command line begins with these words
abbrev pub Begins : List (List ℕ) → Type 0
Begins words = (more : List (List ℕ)) × (line : CommandLine) × IsLine no_options (words ++ more) line

-- none begins with them and the word behind them, if there is one
abbrev pub Ends : List (List ℕ) → List (List ℕ) → Type 0
Ends words [] = Unit {0}
Ends words (word ∷ behind) = (more : List (List ℕ)) (line : CommandLine) → IsLine no_options (words ++ word ∷ more) line → ⊥

-- this word, counted from 1, is the first with which the words begin no command line, or is missing at their end
pub record IsFirstRefused (words : List (List ℕ)) (number : ℕ) : Type 0 where
  pub before : List (List ℕ)
  pub behind : List (List ℕ)
  pub parts : words ≡ before ++ behind
  pub place : number ≡ length before + 1
  pub begins : Begins before
  pub ends : Ends before behind

abbrev pub FirstIsRefused : Type 0
FirstIsRefused = (words : List (List ℕ)) (number : ℕ) → words_of words ≡ RefusedAt number → IsFirstRefused words number
