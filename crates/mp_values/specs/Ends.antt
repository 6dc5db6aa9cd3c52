-- Items that are not the end of a line, of a file or of the whole text.
use Rattle.std.specs.Prelude.{List, [], ◌∷◌}
use Rattle.mp_values.specs.declared.item.Item.{Item}
use Rattle.mp_values.specs.declared.item.Item.TheVariants.{LineEnd, FileEnd, EndOfText}

abbrev pub IsNoEnd : Item → Type 0
IsNoEnd (LineEnd place) = ⊥
IsNoEnd FileEnd = ⊥
IsNoEnd EndOfText = ⊥
IsNoEnd item = Unit {0}

abbrev pub NoEnds : List Item → Type 0
NoEnds [] = Unit {0}
NoEnds (item ∷ items) = IsNoEnd item × NoEnds items

abbrev pub AllNoEnds : List (List Item) → Type 0
AllNoEnds [] = Unit {0}
AllNoEnds (items ∷ more) = NoEnds items × AllNoEnds more
