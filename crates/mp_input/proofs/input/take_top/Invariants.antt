use Rattle.std.proofs.Common.{◌≡◌}
use Rattle.std.specs.Vec.{vec_len}
use Rattle.mp_input.specs.Entries.{left_of, AllPlain}
use Rattle.mp_input.proofs.input.take_top.Given as goal

abbrev pub invariant-entries : goal.invariant-entries
invariant-entries l = record {
  same : left_of l.entries.items ≡ left_of l.fn.entries.items;
  last : AllPlain l.fn.entries.items → l.last ≡ l.fn.last;
  plain : AllPlain l.fn.entries.items → AllPlain l.entries.items;
}

abbrev pub decreases-entries : goal.decreases-entries
decreases-entries l = vec_len l.entries
