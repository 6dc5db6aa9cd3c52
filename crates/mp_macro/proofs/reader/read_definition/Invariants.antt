use Rattle.std.proofs.Common.{◌≡◌, drop}
use Rattle.mp_macro.specs.Definitions as definitions
use Rattle.mp_macro.proofs.reader.read_definition.Given as goal

abbrev pub invariant-items : goal.invariant-items
invariant-items l =
    definitions.read_items l.table.names (drop l.item-index l.items) l.reader
    ≡ definitions.read_items l.table.names l.fn.items (definitions.start l.fn.word l.fn.group)
