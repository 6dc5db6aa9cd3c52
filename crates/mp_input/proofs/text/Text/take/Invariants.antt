use Rattle.std.proofs.Common.{◌≡◌, ◌-◌, length}
use Rattle.mp_input.specs.Texts.{text_left}
use Rattle.mp_input.proofs.text.Text.take.Given as goal

abbrev pub invariant-items : goal.invariant-items
invariant-items l = l.fn.self ≡ text_left l.self-inside.body l.self-inside.next l.self-inside.arguments

abbrev pub decreases-items : goal.decreases-items
decreases-items l = length l.self-inside.body - l.self-inside.next.at
