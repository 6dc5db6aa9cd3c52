-- What some lines are made of, computed from the definitions.
use Rattle.std.proofs.Common.{◌≡◌, ℕ, ◌*◌, [], ◌∷◌, ◌++◌, pos, codes, refl}
use Prim.Native.String.{String}
use Rattle.mp_tokens.specs.Lines.{lines}
use Rattle.mp_tokens.specs.Items.{Item, Symbol, Number, Quoted, Bad, LineEnd, file_items, string_items}
use Rattle.mp_tokens.specs.declared.token.BadToken.TheVariants.{Character, Unfinished, Enormous}

abbrev symbol : String → Item
symbol name = Symbol (codes name)

-- a whole number
abbrev whole : ℕ → Item
whole n = Number (pos (65536 * n))

-- runs of one class, points and loners
points_and_brackets : file_items (codes "a..b...3.x 3..x[[ ;;" ++ 10 ∷ [])
    ≡ symbol "a" ∷ symbol ".." ∷ symbol "b" ∷ symbol "..." ∷ whole 3 ∷ symbol "x" ∷ whole 3 ∷ symbol ".." ∷ symbol "x" ∷ symbol "[[" ∷ symbol ";" ∷ symbol ";" ∷ LineEnd 1 ∷ []
points_and_brackets = refl

-- decimals
decimals : string_items (codes "1.5.25 .5 7.") ≡ Number (pos 98304) ∷ Number (pos 16384) ∷ Number (pos 32768) ∷ whole 7 ∷ []
decimals = refl

enormous : string_items (codes "32767.99998 32768") ≡ Number (pos 2147483647) ∷ Bad Enormous ∷ []
enormous = refl

-- LF, CR LF and CR end a line; LF CR are two ends
line_ends : lines (97 ∷ 13 ∷ 10 ∷ 98 ∷ 13 ∷ 99 ∷ 10 ∷ 13 ∷ 100 ∷ []) ≡ (97 ∷ []) ∷ (98 ∷ []) ∷ (99 ∷ []) ∷ [] ∷ (100 ∷ []) ∷ []
line_ends = refl

no_bytes : file_items [] ≡ []
no_bytes = refl

-- a comment in a string is none, and a string does not go on in the next line
strings : file_items (codes "\"a%b\"%\"c" ++ 13 ∷ codes "\"d%" ++ 10 ∷ codes "e\"")
    ≡ Quoted (codes "a%b") ∷ LineEnd 1 ∷ Bad Unfinished ∷ LineEnd 2 ∷ symbol "e" ∷ Bad Unfinished ∷ LineEnd 3 ∷ []
strings = refl

-- bytes that may not stand where they stand
bad_bytes : string_items (97 ∷ 7 ∷ 128 ∷ 34 ∷ 128 ∷ 34 ∷ 34 ∷ 10 ∷ 13 ∷ 34 ∷ [])
    ≡ symbol "a" ∷ Bad (Character 7) ∷ Bad (Character 128) ∷ Quoted (128 ∷ []) ∷ Bad (Character 10) ∷ []
bad_bytes = refl
