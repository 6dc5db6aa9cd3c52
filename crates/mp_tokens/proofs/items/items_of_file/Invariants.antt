use Rattle.std.proofs.Common.{◌+◌, [], length}
use Rattle.mp_tokens.specs.Lines.{lines}
use Rattle.mp_tokens.specs.Items.{file_items, lines_items}
use Rattle.mp_tokens.proofs.ItemLemmas.{Reading}
use Rattle.mp_tokens.proofs.items.items_of_file.Given as goal

abbrev pub invariant-lines : goal.invariant-lines
invariant-lines g l =
    Reading g.M.FreshMeaning.first l.initial.names l.names [] l.tokens (file_items l.bytes) (lines_items (l.number + 1) (lines l.rest))

abbrev pub decreases-lines : goal.decreases-lines
decreases-lines g l = length l.rest
