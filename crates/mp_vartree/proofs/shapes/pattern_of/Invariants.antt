use Rattle.std.proofs.Common.{◌≡◌, take}
use Rattle.mp_vartree.specs.Names.{pattern_of}
use Rattle.mp_vartree.proofs.shapes.pattern_of.Given as goal

abbrev pub invariant-parts : goal.invariant-parts
invariant-parts l = l.pattern ≡ pattern_of (take l.part-index l.name)
