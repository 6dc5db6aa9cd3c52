use Rattle.std.proofs.Common.{length}
use Rattle.mp_vartree.proofs.pattern_tree.PatternTree.+insert.Given as goal

abbrev pub decreases-insert : goal.decreases-insert
decreases-insert g l = length l.pattern.now
