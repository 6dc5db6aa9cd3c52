use Rattle.std.proofs.Common.{◌≡◌, ◌-◌, ◌≤◌, length}
use Rattle.std.specs.Io.KnownBytes.{Consumes}
use Rattle.mp_files.specs.declared.outside.TheConstants.{MOST_FETCHED}
use Rattle.mp_files.proofs.real.read_start.Given as goal

-- the bytes so far were read, and nothing else
abbrev pub invariant-loop-part : goal.invariant-loop-part
invariant-loop-part g l = record {
  read : Consumes (g.R.Read.remaining l.fn.from) (g.R.Read.remaining l.from) l.bytes.items;
  within : length l.bytes.items ≤ MOST_FETCHED;
  buffer : length l.part ≡ 4096;
}

abbrev pub decreases-loop-part : goal.decreases-loop-part
decreases-loop-part g l = MOST_FETCHED - length l.bytes.items
