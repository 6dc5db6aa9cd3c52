use Rattle.std.proofs.Common.{◌≡◌, ℕ, ◌||◌, map, take}
use Rattle.mp_vartree.specs.Layout.Gathered.{has}
use Rattle.mp_vartree.proofs.serials.add_made.Given as goal

abbrev pub invariant-terms : goal.invariant-terms
invariant-terms l = (n : ℕ) → has n l.into.keys ≡ (has n l.initial.into.keys || has n (map (λ term. term.serial) (take l.term-index l.term-items)))
