use Rattle.std.proofs.Common.{◌≡◌, drop}
use Rattle.mp_tokens.specs.Lexemes.{string_kind}
use Rattle.mp_tokens.proofs.lexeme.string_kind.Given as goal

abbrev pub invariant-loop-c : goal.invariant-loop-c
invariant-loop-c l = string_kind l.content ≡ string_kind (drop l.c-index l.content)
