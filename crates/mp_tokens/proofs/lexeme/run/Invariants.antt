use Rattle.std.proofs.Common.{◌≡◌, ◌+◌, drop}
use Rattle.mp_tokens.specs.Lexemes.{run}
use Rattle.mp_tokens.proofs.lexeme.run.Given as goal

abbrev pub invariant-loop-i : goal.invariant-loop-i
invariant-loop-i l = run l.class l.text ≡ l.i + run l.class (drop l.i l.text)
