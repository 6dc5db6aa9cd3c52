use Rattle.std.proofs.Common.{◌≤◌, ◌<◌}
use Rattle.mp_expand.proofs.HoldsLemmas.{invents_nothing}
use Rattle.mp_expand.proofs.laws.expansion_invents_nothing.Goals as goal

pub returns : goal.returns
returns c f n m = invents_nothing (λ x. f x ≤ n) (λ k. k < m)
