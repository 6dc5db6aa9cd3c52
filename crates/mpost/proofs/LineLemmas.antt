-- On command lines: those that are accepted are those that there are, and a refused word is the first that begins none.
use Rattle.std.proofs.Common.{◌≡◌, ◌+◌, ℕ, Bool, true, false, List, [], ◌∷◌, ◌++◌, length, Option, Some, None, refl, sym, ◌∙◌, ap, subst, arith}
use Rattle.std.specs.Prelude.{◌&&◌, not, is_none, is_some, codes, if◌then◌else◌}
use Rattle.std.specs.Str.{bytes_eq}
use Rattle.std.proofs.lemmas.Slice.Eq.{bytes_eq-Decides}
use Rattle.mpost.specs.CommandWords.{CommandLine, Words, RefusedAt, Accepted, is_file, number_of, no_options, with_bare, with_number, option_of, word_behind, command_line, no_more, file_behind, words_behind, number_behind, words_of}
use Rattle.mpost.specs.CommandLines.{word_of, has_number, IsLine, file, bare, numbered, Begins, Ends, IsFirstRefused, LinesAreAccepted, FirstIsRefused}
use Rattle.mpost.specs.declared.words.Numbered.{Numbered}
use Rattle.mpost.specs.declared.words.Numbered.TheVariants.{Steps, Seed}
use Rattle.mpost.specs.declared.words.OptionWord.{OptionWord}
use Rattle.mpost.specs.declared.words.OptionWord.TheVariants as option
use Rattle.mpost.specs.declared.words.Options.{Options}

-- HOW A WORD IS READ

-- what the word behind the options is, and what the words then say
pub data Turn (said : Options) (word : List ℕ) : Type 0 where
  bare_turn : word ≡ codes "--bare" → said.bare ≡ false
      → ((words : List (List ℕ)) → words_behind said (word ∷ words) ≡ words_behind (with_bare said) words) → Turn said word
  number_turn : (option : Numbered) → word ≡ word_of option → has_number option said ≡ false
      → ((words : List (List ℕ)) → words_behind said (word ∷ words) ≡ number_behind option said words) → Turn said word
  file_turn : ((words : List (List ℕ)) → words_behind said (word ∷ words) ≡ file_behind said word words) → Turn said word

abbrev IsFalse : Bool → Type 0
IsFalse true = ⊥
IsFalse false = Unit {0}

false_not : false ≡ true → ⊥
false_not h = subst IsFalse h tt

both : (a b : Bool) → (a && b) ≡ true → (a ≡ true) × (b ≡ true)
both true b h = (refl, h)
both false b h = absurd (false_not h)

both_true : {a b : Bool} → a ≡ true → b ≡ true → (a && b) ≡ true
both_true first second = rw (first, second) refl

not_is : (b : Bool) → not b ≡ true → b ≡ false
not_is true h = absurd (false_not h)
not_is false h = refl

none_is : (o : Option ℕ) → is_none o ≡ true → is_some o ≡ false
none_is None h = refl
none_is (Some n) h = absurd (false_not h)

is_none_by : (o : Option ℕ) → is_some o ≡ false → is_none o ≡ true
is_none_by None h = refl
is_none_by (Some n) h = absurd (false_not (sym h))

text_is : (xs ys : List ℕ) → bytes_eq xs ys ≡ true → xs ≡ ys
text_is xs ys h = (bytes_eq-Decides xs ys).0 h

-- what the words say where the first of them is this option, or none
by_option : (said : Options) (word : List ℕ) (words : List (List ℕ)) (x : Option OptionWord) → option_of said word ≡ x
    → words_behind said (word ∷ words) ≡ elim x [
      | Some option.Bare ↦ words_behind (with_bare said) words
      | Some (option.Numbered o) ↦ number_behind o said words
      | None ↦ file_behind said word words
    ]
by_option said word words x is = ap (λ (y : Option OptionWord). elim y [
  | Some option.Bare ↦ words_behind (with_bare said) words
  | Some (option.Numbered o) ↦ number_behind o said words
  | None ↦ file_behind said word words
]) is

turn_by : (said : Options) (word : List ℕ) (a b c : Bool)
    → (bytes_eq word (codes "--bare") && not said.bare) ≡ a
    → (bytes_eq word (codes "--steps") && is_none said.steps) ≡ b
    → (bytes_eq word (codes "--seed") && is_none said.seed) ≡ c → Turn said word
turn_by said word true b c is_bare is_steps is_seed =
    let parts = both _ _ is_bare in
    bare_turn (text_is _ _ parts.0) (not_is _ parts.1) (λ words. by_option said word words (Some option.Bare) (rw is_bare refl))
turn_by said word false true c is_bare is_steps is_seed =
    let parts = both _ _ is_steps in
    number_turn Steps (text_is _ _ parts.0) (none_is _ parts.1) (λ words. by_option said word words (Some (option.Numbered Steps)) (rw (is_bare, is_steps) refl))
turn_by said word false false true is_bare is_steps is_seed =
    let parts = both _ _ is_seed in
    number_turn Seed (text_is _ _ parts.0) (none_is _ parts.1) (λ words. by_option said word words (Some (option.Numbered Seed)) (rw (is_bare, is_steps, is_seed) refl))
turn_by said word false false false is_bare is_steps is_seed =
    file_turn (λ words. by_option said word words None (rw (is_bare, is_steps, is_seed) refl))

turn : (said : Options) (word : List ℕ) → Turn said word
turn said word = turn_by said word _ _ _ refl refl refl

bare_read : (said : Options) (words : List (List ℕ)) → said.bare ≡ false → words_behind said (codes "--bare" ∷ words) ≡ words_behind (with_bare said) words
bare_read said words fresh = by_option said (codes "--bare") words (Some option.Bare) (rw fresh refl)

option_read : (said : Options) (o : Numbered) → has_number o said ≡ false → option_of said (word_of o) ≡ Some (option.Numbered o)
option_read said Steps fresh = rw (is_none_by said.steps fresh) refl
option_read said Seed fresh = rw (is_none_by said.seed fresh) refl

number_read : (said : Options) (o : Numbered) (words : List (List ℕ)) → has_number o said ≡ false → words_behind said (word_of o ∷ words) ≡ number_behind o said words
number_read said o words fresh = by_option said (word_of o) words (Some (option.Numbered o)) (option_read said o fresh)

by_number : (o : Numbered) (said : Options) (word : List ℕ) (words : List (List ℕ)) (x : Option ℕ) → number_of o word ≡ x
    → number_behind o said (word ∷ words) ≡ elim x [ Some n ↦ words_behind (with_number o n said) words | None ↦ RefusedAt (word_behind said + 1) ]
by_number o said word words x is = ap (λ (y : Option ℕ). elim y [ Some n ↦ words_behind (with_number o n said) words | None ↦ RefusedAt (word_behind said + 1) ]) is

by_file : (said : Options) (word : List ℕ) (words : List (List ℕ)) (b : Bool) → (is_file word && said.bare) ≡ b
    → file_behind said word words ≡ (if b then no_more said word words else RefusedAt (word_behind said))
by_file said word words b is = ap (λ (x : Bool). if x then no_more said word words else RefusedAt (word_behind said)) is

no_option : (o : Numbered) → is_file (word_of o) ≡ true → ⊥
no_option Steps h = false_not h
no_option Seed h = false_not h

-- a file is no option
file_read : (said : Options) (word : List ℕ) (words : List (List ℕ)) → is_file word ≡ true → words_behind said (word ∷ words) ≡ file_behind said word words
file_read said word words good = elim (turn said word) [
  | bare_turn is fresh go ↦ absurd (false_not (subst (λ w. is_file w ≡ true) is good))
  | number_turn o is fresh go ↦ absurd (no_option o (subst (λ w. is_file w ≡ true) is good))
  | file_turn go ↦ go words
]

-- WHAT IS ACCEPTED

accepts : (said : Options) (words : List (List ℕ)) (line : CommandLine) → IsLine said words line → words_behind said words ≡ Accepted line
accepts said words line (file s f good stood) = file_read s f [] good ∙ by_file s f [] true (both_true good stood)
accepts said words line (bare s ws l fresh rest) = bare_read s ws fresh ∙ accepts (with_bare s) ws l rest
accepts said words line (numbered s o number n ws l fresh is rest) =
    number_read s o (number ∷ ws) fresh ∙ by_number o s number ws (Some n) is ∙ accepts (with_number o n s) ws l rest

abbrev IsRefused : Words → Type 0
IsRefused (RefusedAt number) = Unit {0}
IsRefused (Accepted line) = ⊥

refused_not : (number : ℕ) (line : CommandLine) → RefusedAt number ≡ Accepted line → ⊥
refused_not number line h = subst IsRefused h tt

abbrev asked_or : CommandLine → Words → CommandLine
asked_or other (RefusedAt number) = other
asked_or other (Accepted line) = line

abbrev refused_or : ℕ → Words → ℕ
refused_or other (RefusedAt number) = number
refused_or other (Accepted line) = other

last_line : (said : Options) (word : List ℕ) (words : List (List ℕ)) (line : CommandLine) → is_file word ≡ true → said.bare ≡ true
    → no_more said word words ≡ Accepted line → IsLine said (word ∷ words) line
last_line said word [] line good stood e = subst (λ l. IsLine said (word ∷ []) l) (ap (asked_or line) e) (file said word good stood)
last_line said word (w ∷ words) line good stood e = absurd (refused_not _ line e)

file_line : (said : Options) (word : List ℕ) (words : List (List ℕ)) (line : CommandLine) (b : Bool) → (is_file word && said.bare) ≡ b
    → file_behind said word words ≡ Accepted line → IsLine said (word ∷ words) line
file_line said word words line true is e = let parts = both _ _ is in last_line said word words line parts.0 parts.1 (sym (by_file said word words true is) ∙ e)
file_line said word words line false is e = absurd (refused_not _ line (sym (by_file said word words false is) ∙ e))

mutual
  line_of : (said : Options) (words : List (List ℕ)) (line : CommandLine) → words_behind said words ≡ Accepted line → IsLine said words line
  line_of said [] line e = absurd (refused_not _ line e)
  line_of said (word ∷ words) line e = elim (turn said word) [
    | bare_turn is fresh go ↦ subst (λ w. IsLine said (w ∷ words) line) (sym is) (bare said words line fresh (line_of (with_bare said) words line (sym (go words) ∙ e)))
    | number_turn o is fresh go ↦ subst (λ w. IsLine said (w ∷ words) line) (sym is) (number_line o said words line fresh (sym (go words) ∙ e))
    | file_turn go ↦ file_line said word words line _ refl (sym (go words) ∙ e)
  ]

  number_line : (o : Numbered) (said : Options) (words : List (List ℕ)) (line : CommandLine) → has_number o said ≡ false
      → number_behind o said words ≡ Accepted line → IsLine said (word_of o ∷ words) line
  number_line o said [] line fresh e = absurd (refused_not _ line e)
  number_line o said (word ∷ words) line fresh e = elim (number_of o word) as (λ x. number_of o word ≡ x → IsLine said (word_of o ∷ word ∷ words) line) [
    | Some n ↦ λ is. numbered said o word n words line fresh is (line_of (with_number o n said) words line (sym (by_number o said word words (Some n) is) ∙ e))
    | None ↦ λ is. absurd (refused_not _ line (sym (by_number o said word words None is) ∙ e))
  ] refl

pub lines_are_accepted : LinesAreAccepted
lines_are_accepted words line = (line_of no_options words line, accepts no_options words line)

-- WHAT IS REFUSED

abbrev NoneGoesOn : (List (List ℕ) → Words) → List (List ℕ) → List (List ℕ) → Type 0
NoneGoesOn read before [] = Unit {0}
NoneGoesOn read before (word ∷ behind) = (more : List (List ℕ)) (line : CommandLine) → read (before ++ word ∷ more) ≡ Accepted line → ⊥

-- so read, the words before this number, of which the first has that one, begin what is accepted, and no more of them do
record Refuses (read : List (List ℕ) → Words) (from : ℕ) (words : List (List ℕ)) (number : ℕ) : Type 0 where
  before : List (List ℕ)
  behind : List (List ℕ)
  parts : words ≡ before ++ behind
  place : number ≡ length before + from
  begins : (more : List (List ℕ)) × (line : CommandLine) × (read (before ++ more) ≡ Accepted line)
  ends : NoneGoesOn read before behind

further_ends : (read next : List (List ℕ) → Words) (word : List ℕ) (before behind : List (List ℕ)) → ((words : List (List ℕ)) → read (word ∷ words) ≡ next words)
    → NoneGoesOn next before behind → NoneGoesOn read (word ∷ before) behind
further_ends read next word before [] go ends = tt
further_ends read next word before (w ∷ behind) go ends = λ more line e. ends more line (sym (go _) ∙ e)

further : (read next : List (List ℕ) → Words) (word : List ℕ) (from : ℕ) (words : List (List ℕ)) (number : ℕ) → ((ws : List (List ℕ)) → read (word ∷ ws) ≡ next ws)
    → Refuses next (from + 1) words number → Refuses read from (word ∷ words) number
further read next word from words number go r = record {
  before = word ∷ r.before;
  behind = r.behind;
  parts = ap (λ ws. word ∷ ws) r.parts;
  place = omega (arith, r.place);
  begins = (r.begins.0, r.begins.1, go _ ∙ r.begins.2);
  ends = further_ends read next word r.before r.behind go r.ends;
}

complete_by : (said : Options) (b : Bool) → said.bare ≡ b → (more : List (List ℕ)) × (line : CommandLine) × (words_behind said more ≡ Accepted line)
complete_by said true is = (codes "a" ∷ [], command_line said (codes "a"), accepts said _ _ (file said (codes "a") refl is))
complete_by said false is = (
  codes "--bare" ∷ codes "a" ∷ [],
  command_line (with_bare said) (codes "a"),
  accepts said _ _ (bare said _ _ is (file (with_bare said) (codes "a") refl refl)),
)

complete : (said : Options) → (more : List (List ℕ)) × (line : CommandLine) × (words_behind said more ≡ Accepted line)
complete said = complete_by said said.bare refl

one_is : (o : Numbered) → number_of o (codes "1") ≡ Some 1
one_is Steps = refl
one_is Seed = refl

complete_number : (o : Numbered) (said : Options) → (more : List (List ℕ)) × (line : CommandLine) × (number_behind o said more ≡ Accepted line)
complete_number o said =
    let rest = complete (with_number o 1 said) in
    (codes "1" ∷ rest.0, rest.1, by_number o said (codes "1") rest.0 (Some 1) (one_is o) ∙ rest.2)

refused_at : (at number : ℕ) → RefusedAt at ≡ RefusedAt number → number ≡ at
refused_at at number e = sym (ap (refused_or 0) e)

accepted_not : (line : CommandLine) (number : ℕ) → Accepted line ≡ RefusedAt number → ⊥
accepted_not line number e = refused_not number line (sym e)

refuses_last : (said : Options) (word : List ℕ) (words : List (List ℕ)) (number : ℕ) → is_file word ≡ true → said.bare ≡ true
    → no_more said word words ≡ RefusedAt number → Refuses (words_behind said) (word_behind said) (word ∷ words) number
refuses_last said word [] number good stood e = absurd (accepted_not _ number e)
refuses_last said word (w ∷ words) number good stood e = record {
  before = word ∷ [];
  behind = w ∷ words;
  parts = refl;
  place = omega (arith, refused_at _ number e);
  begins = ([], command_line said word, accepts said _ _ (file said word good stood));
  ends = λ more line h. refused_not _ line (sym (file_read said word (w ∷ more) good ∙ by_file said word (w ∷ more) true (both_true good stood)) ∙ h);
}

refuses_file : (said : Options) (word : List ℕ) (words : List (List ℕ)) (number : ℕ) (b : Bool) → (is_file word && said.bare) ≡ b
    → ((ws : List (List ℕ)) → words_behind said (word ∷ ws) ≡ file_behind said word ws)
    → file_behind said word words ≡ RefusedAt number → Refuses (words_behind said) (word_behind said) (word ∷ words) number
refuses_file said word words number true is go e =
    let parts = both _ _ is in refuses_last said word words number parts.0 parts.1 (sym (by_file said word words true is) ∙ e)
refuses_file said word words number false is go e = record {
  before = [];
  behind = word ∷ words;
  parts = refl;
  place = omega (arith, refused_at _ number (sym (by_file said word words false is) ∙ e));
  begins = complete said;
  ends = λ more line h. refused_not _ line (sym (go more ∙ by_file said word more false is) ∙ h);
}

bare_place : (said : Options) → said.bare ≡ false → word_behind (with_bare said) ≡ word_behind said + 1
bare_place said fresh = rw fresh (omega arith)

number_place : (o : Numbered) (n : ℕ) (said : Options) → has_number o said ≡ false → word_behind (with_number o n said) ≡ word_behind said + 1 + 1
number_place Steps n said fresh = rw fresh (omega arith)
number_place Seed n said fresh = rw fresh (omega arith)

mutual
  refuses : (said : Options) (words : List (List ℕ)) (number : ℕ) → words_behind said words ≡ RefusedAt number
      → Refuses (words_behind said) (word_behind said) words number
  refuses said [] number e = record { before = []; behind = []; parts = refl; place = omega (arith, refused_at _ number e); begins = complete said; ends = tt }
  refuses said (word ∷ words) number e = elim (turn said word) [
    | bare_turn is fresh go ↦ further (words_behind said) (words_behind (with_bare said)) word (word_behind said) words number go
        (subst (λ k. Refuses (words_behind (with_bare said)) k words number) (bare_place said fresh) (refuses (with_bare said) words number (sym (go words) ∙ e)))
    | number_turn o is fresh go ↦ further (words_behind said) (number_behind o said) word (word_behind said) words number go
        (refuses_number o said words number fresh (sym (go words) ∙ e))
    | file_turn go ↦ refuses_file said word words number _ refl go (sym (go words) ∙ e)
  ]

  refuses_number : (o : Numbered) (said : Options) (words : List (List ℕ)) (number : ℕ) → has_number o said ≡ false → number_behind o said words ≡ RefusedAt number
      → Refuses (number_behind o said) (word_behind said + 1) words number
  refuses_number o said [] number fresh e = record { before = []; behind = []; parts = refl; place = omega (arith, refused_at _ number e); begins = complete_number o said; ends = tt }
  refuses_number o said (word ∷ words) number fresh e = elim (number_of o word) as (λ x. number_of o word ≡ x → Refuses (number_behind o said) (word_behind said + 1) (word ∷ words) number) [
    | Some n ↦ λ is. further (number_behind o said) (words_behind (with_number o n said)) word (word_behind said + 1) words number (λ ws. by_number o said word ws (Some n) is)
        (subst (λ k. Refuses (words_behind (with_number o n said)) k words number) (number_place o n said fresh)
        (refuses (with_number o n said) words number (sym (by_number o said word words (Some n) is) ∙ e)))
    | None ↦ λ is. record {
      before = [];
      behind = word ∷ words;
      parts = refl;
      place = omega (arith, refused_at _ number (sym (by_number o said word words None is) ∙ e));
      begins = complete_number o said;
      ends = λ more line h. refused_not _ line (sym (by_number o said word more None is) ∙ h);
    }
  ] refl

ends_by : (before behind : List (List ℕ)) → NoneGoesOn words_of before behind → Ends before behind
ends_by before [] ends = tt
ends_by before (word ∷ behind) ends = λ more line h. ends more line (accepts no_options _ line h)

pub first_is_refused : FirstIsRefused
first_is_refused words number e =
    let r = refuses no_options words number e in
    record {
      before = r.before;
      behind = r.behind;
      parts = r.parts;
      place = r.place;
      begins = (r.begins.0, r.begins.1, line_of no_options _ _ r.begins.2);
      ends = ends_by r.before r.behind r.ends;
    }
