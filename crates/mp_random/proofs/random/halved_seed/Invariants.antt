use Rattle.std.proofs.Common.{◌≡◌}
use Rattle.mp_random.specs.Words.{halved}
use Rattle.mp_random.proofs.random.halved_seed.Given as goal

abbrev pub invariant-loop-seed : goal.invariant-loop-seed
invariant-loop-seed l = halved l.seed ≡ halved l.value

abbrev pub decreases-loop-seed : goal.decreases-loop-seed
decreases-loop-seed l = l.seed
