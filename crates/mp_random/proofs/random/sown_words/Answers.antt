use Rattle.std.proofs.Common.{arith}
use Rattle.std.proofs.lemmas.Grind.{common_steps, elements}
use Rattle.mp_random.proofs.WordLemmas.{sowing}
use Rattle.mp_random.proofs.random.sown_words.Goals as goal

pub loop-n-preserved : goal.loop-n-preserved
loop-n-preserved c = record {
  words = grind (arith, common_steps, sowing);
  older = grind (arith, sowing);
  newer = grind (arith, sowing);
  small_older = omega arith;
  small_newer = omega arith;
  small = grind (arith, elements);
}
