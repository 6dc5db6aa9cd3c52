use Rattle.std.proofs.Common.{◌≡◌, drop}
use Rattle.std.specs.FinMap.{get}
use Rattle.mp_vartree.specs.Names.{pattern_of}
use Rattle.mp_vartree.proofs.pattern_tree.PatternTree.get.Given as goal

abbrev pub invariant-walk : goal.invariant-walk
invariant-walk g l = get l.node.paths (pattern_of (drop l.part-index l.name)) ≡ get l.fn.self.paths (pattern_of l.fn.name)
