use Rattle.std.proofs.Common.{◌≡◌}
use Rattle.std.specs.Vec.{vec_len}
use Rattle.mp_input.specs.Entries.{left_of, AllPlain}
use Rattle.mp_input.proofs.input.is_all_over.Given as goal

abbrev pub invariant-entries : goal.invariant-entries
invariant-entries l = record {
  same : left_of l.entries.items ≡ left_of l.fn.entries.items;
  plain : AllPlain l.fn.entries.items → AllPlain l.entries.items;
}

abbrev pub decreases-entries : goal.decreases-entries
decreases-entries l = vec_len l.entries
