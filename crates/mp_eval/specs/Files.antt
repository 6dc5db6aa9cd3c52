-- Asking for a file.
use Rattle.std.specs.Prelude.{ℕ, Bool, true, false, ◌&&◌, nat_le, List, [], ◌∷◌, ◌++◌, Option, Some, None, length}
use Rattle.std.specs.List.{list_all}
use Rattle.mp_files.specs.declared.outside.Contents.{Contents}
use Rattle.mp_files.specs.declared.outside.Contents.TheVariants as contents
use Rattle.mp_files.specs.Contents.{content_of}
use Rattle.mp_report.specs.declared.error.SourceError.TheVariants as error
use Rattle.mp_values.specs.Outcome.{Refused, Unread, give, halt}
use Rattle.mp_rules.specs.Machine.{Rule}
use Rattle.mp_eval.specs.declared.name.TheConstants.{LONGEST_NAME}

-- the bytes that a file's name may have: 33 to 126
abbrev pub is_visible : ℕ → Bool
is_visible c = nat_le 33 c && nat_le c 126

-- a name can be asked for where it is not empty, has at most 255 bytes, and these are visible
abbrev pub can_be_asked : List ℕ → Bool
can_be_asked name = nat_le 1 (length name) && nat_le (length name) LONGEST_NAME && list_all is_visible name

abbrev pub bytes_by : List ℕ → Option Contents → Rule (List ℕ)
bytes_by name None = halt (Unread name)
bytes_by name (Some contents.Absent) = halt (Refused (error.NoSuchFile name))
bytes_by name (Some (contents.Here bytes)) = give bytes

-- a name is asked for: the source of that name, of those that the run was given
abbrev pub ask : List ℕ → Rule (List ℕ)
ask name s = bytes_by name (content_of s.sources name) (record s { asked = s.asked ++ name ∷ [] })

abbrev pub ask_if : Bool → List ℕ → Rule (List ℕ)
ask_if true name = ask name
ask_if false name = halt (Refused (error.NoSuchFile name))

-- the bytes of a file; a name that cannot be asked for is that of no file
abbrev pub bytes_of_file : List ℕ → Rule (List ℕ)
bytes_of_file name = ask_if (can_be_asked name) name
