use Rattle.std.proofs.Common.{refl}
use Rattle.mp_random.specs.Words.{unsown}
use Rattle.mp_random.proofs.WordLemmas.{unsown_small}
use Rattle.mp_random.proofs.random.unsown_words.Goals as goal

pub returns-clause-exact : goal.returns-clause-exact
unfolding unsown
returns-clause-exact c = refl

pub returns-clause-small : goal.returns-clause-small
unfolding unsown
returns-clause-small c = unsown_small
