-- One more item or argument at the end.
use Rattle.std.proofs.Common.{List, [], ◌∷◌, ◌++◌}
use Rattle.mp_values.specs.declared.item.Item.{Item}
use Rattle.mp_values.specs.Ends.{IsNoEnd, NoEnds, AllNoEnds}

pub no_ends_push : (items : List Item) (item : Item) → NoEnds items → IsNoEnd item → NoEnds (items ++ item ∷ [])
no_ends_push [] item all is = (is, tt)
no_ends_push (x ∷ xs) item all is = (all.0, no_ends_push xs item all.1 is)

pub all_no_ends_push : (lists : List (List Item)) (items : List Item) → AllNoEnds lists → NoEnds items → AllNoEnds (lists ++ items ∷ [])
all_no_ends_push [] items all is = (is, tt)
all_no_ends_push (x ∷ xs) items all is = (all.0, all_no_ends_push xs items all.1 is)
