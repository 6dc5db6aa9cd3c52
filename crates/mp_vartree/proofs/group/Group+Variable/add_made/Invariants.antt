use Rattle.std.proofs.Common.{◌≡◌, ℕ, ◌||◌}
use Rattle.mp_vartree.specs.Layout.Gathered.{has}
use Rattle.mp_vartree.specs.Layout.Groups.{listed}
use Rattle.mp_vartree.specs.Variables.{made_for_any}
use Rattle.mp_vartree.proofs.group.Group+Variable.add_made.Given as goal

abbrev pub invariant-names : goal.invariant-names
invariant-names l =
    (n : ℕ) → (has n l.into.keys || has n (made_for_any (listed l.variable-iterator))) ≡ (has n l.initial.into.keys || has n (made_for_any (listed l.initial.variable-iterator)))
