use Rattle.std.proofs.Common.{◌≡◌, map, drop}
use Rattle.mp_acts.specs.Start.{with_more_internals}
use Rattle.mp_acts.proofs.start.add_internals.Given as goal

abbrev pub invariant-internals : goal.invariant-internals
invariant-internals l =
    with_more_internals l.symbols (map (λ x. (x.0.now, x.1)) (drop l.name-index l.internals))
    ≡ with_more_internals l.fn.symbols (map (λ x. (x.0.now, x.1)) l.internals)
