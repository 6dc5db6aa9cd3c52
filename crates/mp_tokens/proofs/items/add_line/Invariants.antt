use Rattle.std.proofs.Common.{length}
use Rattle.mp_tokens.specs.Items.{line_items}
use Rattle.mp_tokens.proofs.ItemLemmas.{Reading}
use Rattle.mp_tokens.proofs.items.add_line.Given as goal

abbrev pub invariant-lexemes : goal.invariant-lexemes
invariant-lexemes g l =
    Reading g.M.FreshMeaning.first l.initial.names l.names l.initial.tokens l.tokens (line_items l.line) (line_items l.rest)

abbrev pub decreases-lexemes : goal.decreases-lexemes
decreases-lexemes g l = length l.rest
