-- What is left of a file.
use Rattle.std.specs.Prelude.{◌≡◌, ◌+◌, ℕ, List, [], drop, take, Bool, true, false, Option, Some, None}
use Rattle.std.specs.List.{position_or_len, slice_range}
use Rattle.mp_report.specs.declared.place.Place.{Place}
use Rattle.mp_tokens.specs.declared.token.Token.{Token}
use Rattle.mp_tokens.specs.declared.token.Token.TheVariants.{LineEnd}
use Rattle.mp_values.specs.declared.item.Item.{Item}
use Rattle.mp_values.specs.Items.{file_items}

-- the tokens from one place up to another, and the end of the file, unless it was taken
abbrev pub file_left : ℕ → List Token → ℕ → ℕ → Bool → List Item
file_left file tokens at end true = []
file_left file tokens at end false = file_items file (drop at (take end tokens))

abbrev pub is_line : Token → Bool
is_line (LineEnd line) = true
is_line token = false

abbrev pub line_of : Token → Option ℕ
line_of (LineEnd line) = Some line
line_of token = None

abbrev pub place_at : ℕ → ℕ → Place
place_at file line = record { file = file; line = line }

-- the first end of a line that is left is the last token that is left
abbrev pub EndsAtLine : List Token → ℕ → ℕ → Type 0
EndsAtLine tokens at end = position_or_len is_line (slice_range tokens at end) + 1 + at ≡ end
