-- The content of a name among sources that are kept by their names.
use Rattle.std.specs.Prelude.{ℕ, List, [], ◌∷◌, Option, Some, None, cond, nat_eq, unwrap_or}
use Rattle.std.specs.Cmp.Lexicographic.{pointwise}
use Rattle.mp_files.specs.declared.outside.Contents.{Contents}
use Rattle.mp_files.specs.declared.outside.Contents.TheVariants.{Absent}
use Rattle.mp_files.specs.declared.outside.Kept.{Kept}

-- the first content that is kept under the name
abbrev pub content_of : List Kept → List ℕ → Option Contents
content_of [] name = None
content_of (k ∷ ks) name = cond (pointwise nat_eq k.name name) (Some k.contents) (content_of ks name)

-- and Absent for every other name
abbrev pub contents_in : List Kept → List ℕ → Contents
contents_in kept name = unwrap_or (content_of kept name) Absent
