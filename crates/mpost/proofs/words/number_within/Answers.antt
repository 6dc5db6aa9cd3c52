use Rattle.std.proofs.Common.{arith, rules, sym}
use Rattle.mpost.proofs.NumberLemmas.{none_within}
use Rattle.mpost.proofs.words.number_within.Goals as goal

pub returns-in_default : goal.returns-in_default
returns-in_default c = sym (none_within _ c.args.least c.args.greatest c.args.word.now c.in_default.field-0 (search rules) (search rules) (omega arith))
