-- What tags hold, by full names and patterns.
use Rattle.std.specs.Prelude.{ℕ, List, map}
use Rattle.std.specs.FinMap.{FinMap}
use Rattle.mp_vartree.specs.Names.{part_cmp, name_cmp, shape_cmp, pattern_cmp}
use Rattle.mp_vartree.specs.Layout.Tree.{joined}
use Rattle.mp_vartree.specs.declared.names.Part.TheVariants as part
use Rattle.mp_vartree.specs.declared.names.Shape.TheVariants as shape
use Rattle.mp_vartree.specs.declared.entry.Declared.{Declared}
use Rattle.mp_vartree.specs.declared.entry.Variable.{Variable}
use Rattle.mp_vartree.specs.declared.tag.Tag.{Tag}

abbrev pub declarations_in : List (ℕ × Tag) → FinMap pattern_cmp Declared
declarations_in tags = joined shape_cmp (map (λ e. (shape.Sym e.0, e.1.declarations.paths)) tags)

abbrev pub variables_in : List (ℕ × Tag) → FinMap name_cmp Variable
variables_in tags = joined part_cmp (map (λ e. (part.Sym e.0, e.1.variables)) tags)
