use Rattle.std.proofs.Common.{◌≡◌, ◌<◌}
use Rattle.std.specs.List.{All}
use Rattle.mp_random.specs.Words.{neighbours, sown}
use Rattle.mp_random.proofs.random.sown_words.Given as goal

abbrev pub invariant-loop-n : goal.invariant-loop-n
invariant-loop-n l = record {
  words : l.words ≡ sown l.n l.first;
  older : l.older ≡ (neighbours l.n l.first).older;
  newer : l.newer ≡ (neighbours l.n l.first).newer;
  small_older : l.older < 268435456;
  small_newer : l.newer < 268435456;
  small : All (λ w. w < 268435456) l.words;
}
