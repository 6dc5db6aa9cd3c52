use Rattle.std.proofs.Common.{◌≡◌, ◌++◌, drop}
use Rattle.mp_acts.specs.Suffixes.{parts_text}
use Rattle.mp_acts.proofs.state.State.push_parts.Given as goal

abbrev pub invariant-parts : goal.invariant-parts
invariant-parts l = l.text ++ parts_text l.self l.last (drop l.part-index l.parts) ≡ l.fn.text ++ parts_text l.self l.fn.before l.parts
