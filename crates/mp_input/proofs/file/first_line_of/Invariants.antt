use Rattle.std.proofs.Common.{◌≡◌, drop}
use Rattle.mp_values.specs.Items.{file_items}
use Rattle.mp_input.specs.Lines.{items_pending, first_line}
use Rattle.mp_input.proofs.file.first_line_of.Given as goal

abbrev pub invariant-tokens : goal.invariant-tokens
invariant-tokens l = first_line (items_pending (file_items l.file l.tokens)) ≡ first_line (items_pending (file_items l.file (drop l.token-index l.tokens)))
