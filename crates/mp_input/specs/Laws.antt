-- Laws of the text that is left.
use Rattle.std.specs.Prelude.{◌≡◌, List}
use Rattle.mp_values.specs.declared.turn.Pending.{Pending}
use Rattle.mp_input.specs.Lines.{end_file_after_line}

-- a second mark, where the end of the line was not yet taken, changes nothing
abbrev pub EndsOnce : Type 0
EndsOnce = (text : List Pending) → end_file_after_line (end_file_after_line text) ≡ end_file_after_line text
