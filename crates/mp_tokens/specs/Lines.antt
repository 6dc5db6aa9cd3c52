-- The lines of a file. LF, CR LF or CR ends a line; this is the project's own rule.
use Rattle.std.specs.Prelude.{ℕ, Bool, ◌&&◌, ◌||◌, ◌==◌, false, List, [], ◌∷◌, if◌then◌else◌}
use Rattle.mp_tokens.specs.declared.lines.TheConstants.{LINE_FEED, CARRIAGE_RETURN}

abbrev pub is_line_end : ℕ → Bool
is_line_end c = c == LINE_FEED || c == CARRIAGE_RETURN

abbrev pub begins_with : ℕ → List ℕ → Bool
begins_with c [] = false
begins_with c (d ∷ ds) = d == c

-- one more byte before the first line
abbrev pub before_lines : ℕ → List (List ℕ) → List (List ℕ)
before_lines c [] = (c ∷ []) ∷ []
before_lines c (line ∷ more) = (c ∷ line) ∷ more

-- a CR right before an LF is passed over; bytes after the last end, if any, are a last line
abbrev pub lines : List ℕ → List (List ℕ)
lines [] = []
lines (c ∷ cs) =
    if c == CARRIAGE_RETURN && begins_with LINE_FEED cs then lines cs
    else if is_line_end c then [] ∷ lines cs
    else before_lines c (lines cs)

-- how many bytes the end of a line takes, where one stands at the front
abbrev pub end_length : List ℕ → ℕ
end_length [] = 0
end_length (c ∷ cs) = if c == CARRIAGE_RETURN && begins_with LINE_FEED cs then 2 else 1
