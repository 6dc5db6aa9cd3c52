use Rattle.std.proofs.Common.{◌≡◌, ◌≤◌, length}
use Rattle.std.specs.Path.{rfind_below}
use Rattle.mp_eval.proofs.job.split_at_last.Given as goal

-- where the byte stands last is as it is among those that are left
abbrev pub invariant-bytes : goal.invariant-bytes
invariant-bytes l = record {
  within : l.end ≤ length l.name;
  found : rfind_below l.code l.name (length l.name) ≡ rfind_below l.code l.name l.end;
}

abbrev pub decreases-bytes : goal.decreases-bytes
decreases-bytes l = l.end
