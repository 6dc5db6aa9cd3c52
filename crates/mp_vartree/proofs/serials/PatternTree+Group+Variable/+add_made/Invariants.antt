use Rattle.std.proofs.Common.{length}
use Rattle.mp_vartree.proofs.serials.PatternTree+Group+Variable.+add_made.Given as goal

abbrev pub decreases-add_made : goal.decreases-add_made
decreases-add_made l = length l.pattern.now
