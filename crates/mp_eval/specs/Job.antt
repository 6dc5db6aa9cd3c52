-- The name of a run's job, which `jobname` gives.
-- After Hobby, A User's Manual for MetaPost, section 3; that directories are left out is this project's own.
use Rattle.std.specs.Prelude.{ℕ, List, Option, Some, None}
use Rattle.std.specs.Path.{rsplit_once}
use Rattle.mp_eval.specs.declared.job.TheConstants.{SLASH, POINT}

-- what stands before the place at which a text was split, or all of it where there is none
abbrev pub before : List ℕ → Option (List ℕ × List ℕ) → List ℕ
before whole None = whole
before whole (Some halves) = halves.0

abbrev pub behind : List ℕ → Option (List ℕ × List ℕ) → List ℕ
behind whole None = whole
behind whole (Some halves) = halves.1

-- the name of a file, without its directories
abbrev pub without_directories : List ℕ → List ℕ
without_directories name = behind name (rsplit_once SLASH name)

abbrev pub without_extension : List ℕ → List ℕ
without_extension name = before name (rsplit_once POINT name)

-- what stands behind the last slash of the main file's name, up to the last point there
unfoldable pub job_of : List ℕ → List ℕ
job_of name = without_extension (without_directories name)
