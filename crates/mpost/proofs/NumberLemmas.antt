-- On numbers of the command line: what is parsed of a word of digits is its number, and what is not is too great.
use Rattle.std.proofs.Common.{◌≡◌, ℕ, ◌<◌, ◌≤◌, ◌^◌, ◌&&◌, Bool, true, false, List, length, Option, Some, None, Result, Ok, Err, refl, arith, rules}
use Rattle.std.specs.Prelude.{if◌then◌else◌}
use Rattle.std.specs.Char.{is_ascii_digit}
use Rattle.std.specs.List.{list_all}
use Rattle.std.specs.Result.{OkIff}
use Rattle.std.specs.Str.Parse.{ParsesUnsigned, digits_value}
use Rattle.std.proofs.lemmas.Str.Parse.{IsNumeralModel, numerals_by_value, parse_digits}
use Rattle.mpost.specs.CommandWords.{is_number, is_within, number_within}

digits : IsNumeralModel (λ ds. list_all is_ascii_digit ds ≡ true) (digits_value 10)
digits = numerals_by_value _ (search rules)

digits_of : (word : List ℕ) → is_number word ≡ true → list_all is_ascii_digit word ≡ true
digits_of word good = grind arith

some_of : (word : List ℕ) → is_number word ≡ true → 0 < length word
some_of word good = grind arith

known : {E : Type 0} (word : List ℕ) (r : Result ℕ E) → ParsesUnsigned 32 10 word r → is_number word ≡ true
    → OkIff r ((0 < length word) × (digits_value 10 word < 2 ^ 32)) (digits_value 10 word)
known word r reads good = parse_digits digits 32 word r reads (digits_of word good)

-- above its bounds
above : (a : Bool) (least greatest n : ℕ) → greatest < n → (if a && is_within least greatest n then Some n else None) ≡ None
above true least greatest n far = grind arith
above false least greatest n far = refl

-- a word of digits that could not be parsed is above all bounds of 32 bits
pub none_within : (E : Type 0) (least greatest : ℕ) (word : List ℕ) (e : E) → ParsesUnsigned 32 10 word (Err e) → is_number word ≡ true → greatest < 2 ^ 32
    → number_within least greatest word ≡ None
none_within E least greatest word e reads good low =
    let some : 0 < length word = some_of word good in
    let not_below : digits_value 10 word < 2 ^ 32 → ⊥ = λ below. known word (Err e) reads good (some, below) in
    above (is_number word) least greatest (digits_value 10 word) (omega (arith, low, not_below))
