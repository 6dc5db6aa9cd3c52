-- What is written of a run: the lines, then the figures, then the line of the end, up to where one of them fails.
use Rattle.std.specs.Prelude.{ℕ, ◌≡◌, ◌≢◌, ◌<◌, ◌⊎◌, List, [], ◌++◌, length, take, map, codes}
use Rattle.mp_files.specs.Counts.{Rose}
use Rattle.mp_files.specs.Outside.{Gained}
use Rattle.mp_files.specs.Seen.{ShelfSeen, SinkSeen}
use Rattle.mpost.specs.declared.deliver.Delivered.{Delivered}
use Rattle.mpost.specs.declared.deliver.Delivered.TheVariants.{All, LinesFailed, PutFailed, LineFailed}
use Rattle.mp_eval.specs.declared.outcome.Figure.{Figure}

abbrev pub fault_line : List ℕ
fault_line = codes "mpost: write fault\n"

-- a figure as a shelf has it
abbrev pub pair_of : Figure → List ℕ × List ℕ
pair_of figure = (figure.name, figure.bytes)

-- shelf and sink
pub record Outlets : Type 0 where
  pub shelf : ShelfSeen
  pub out : SinkSeen

-- all was written
pub record WroteAll (lines : List ℕ) (figures : List Figure) (line : List ℕ) (before now : Outlets) : Type 0 where
  pub shelf_count : now.shelf.faults ≡ before.shelf.faults
  pub out_count : now.out.faults ≡ before.out.faults
  pub shelf : Gained before.shelf.pairs now.shelf.pairs (map pair_of figures)
  pub out : Gained before.out.bytes now.out.bytes (lines ++ line)

-- the lines failed, which is never where there are none: a part of them was written, and no figure
pub record LinesBroke (lines : List ℕ) (before now : Outlets) : Type 0 where
  pub some : lines ≢ []
  pub counted : Rose before.out.faults now.out.faults
  pub shelf : now.shelf ≡ before.shelf
  pub out : (n : ℕ) × Gained before.out.bytes now.out.bytes (take n lines)

-- a line behind these lines was tried: it was written, or a part of it and the count says so
abbrev pub Tried : List ℕ → List ℕ → SinkSeen → SinkSeen → Type 0
Tried lines line before now =
    ((now.faults ≡ before.faults) × Gained before.bytes now.bytes (lines ++ line))
    ⊎ (Rose before.faults now.faults × ((n : ℕ) × Gained before.bytes now.bytes (lines ++ take n line)))

-- a figure failed: all lines and the figures before it were written, and the line of the fault was tried
pub record PutBroke (lines : List ℕ) (figures : List Figure) (before now : Outlets) : Type 0 where
  pub counted : Rose before.shelf.faults now.shelf.faults
  pub shelf : (m : ℕ) × (m < length figures) × Gained before.shelf.pairs now.shelf.pairs (map pair_of (take m figures))
  pub out : Tried lines fault_line before.out now.out

-- the line of the end failed, which is never where it is empty: all else was written
pub record LineBroke (lines : List ℕ) (figures : List Figure) (line : List ℕ) (before now : Outlets) : Type 0 where
  pub some : line ≢ []
  pub counted : Rose before.out.faults now.out.faults
  pub shelf_count : now.shelf.faults ≡ before.shelf.faults
  pub shelf : Gained before.shelf.pairs now.shelf.pairs (map pair_of figures)
  pub out : (n : ℕ) × Gained before.out.bytes now.out.bytes (lines ++ take n line)

-- what was written, by how far it came
abbrev pub DeliverGives : List ℕ → List Figure → List ℕ → Outlets → Outlets → Delivered → Type 0
DeliverGives lines figures line before now All = WroteAll lines figures line before now
DeliverGives lines figures line before now LinesFailed = LinesBroke lines before now
DeliverGives lines figures line before now PutFailed = PutBroke lines figures before now
DeliverGives lines figures line before now LineFailed = LineBroke lines figures line before now

-- figures were put in order, all of them
abbrev pub PutsGive : ShelfSeen → ShelfSeen → List Figure → Type 0
PutsGive before now figures = (now.faults ≡ before.faults) × Gained before.pairs now.pairs (map pair_of figures)

-- or until one failed
abbrev pub PutsBreak : ShelfSeen → ShelfSeen → List Figure → Type 0
PutsBreak before now figures = Rose before.faults now.faults
    × ((m : ℕ) × (m < length figures) × Gained before.pairs now.pairs (map pair_of (take m figures)))
