use Rattle.std.proofs.Common.{length}
use Rattle.mp_vartree.proofs.GatherLemmas.{GathersBefore}
use Rattle.mp_vartree.proofs.serials.PatternTree+Group+Variable.+add_all.Given as goal

abbrev pub invariant-children : goal.invariant-children
invariant-children l =
    (goal.iterator-children).can_next l.child-iterator
    × (goal.iterator-children).is_finite l.child-iterator
    × GathersBefore (length l.yielded) l.initial.into.keys l.into.keys l.initial.child-iterator
