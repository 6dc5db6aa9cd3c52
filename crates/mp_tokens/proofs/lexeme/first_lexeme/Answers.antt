use Rattle.mp_tokens.proofs.LexemeLemmas.{IsFirst-line}
use Rattle.mp_tokens.proofs.lexeme.first_lexeme.Goals as goal

pub returns-in-len1-up-clause-first : goal.returns-in-len1-up-clause-first
returns-in-len1-up-clause-first c = IsFirst-line c.args.line.now c.lexeme.result c.in-len1-up.len_at_least c.lexeme.ensures
