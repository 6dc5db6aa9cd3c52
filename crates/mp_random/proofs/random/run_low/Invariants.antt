use Rattle.std.proofs.Common.{◌≡◌, ◌<◌}
use Rattle.std.specs.List.{All}
use Rattle.mp_random.specs.Words.{low_run}
use Rattle.mp_random.proofs.random.run_low.Given as goal

abbrev pub invariant-loop-n : goal.invariant-loop-n
invariant-loop-n l = (l.words ≡ low_run l.n l.initial.words) × All (λ w. w < 268435456) l.words
